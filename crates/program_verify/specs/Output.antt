-- What verify prints of a reference text and the text of a record, for any total D, row limit and table of types.
--     verify_output D limit types reference text     the refusal of the two texts, or `OK`
use Rattle.std.specs.Prelude.{ℕ, List}
use Rattle.channel.specs.Channel.{Types}
use Rattle.program_lines.specs.Lines.{print_accepted}
use Rattle.program_record.specs.Against.{record_against, of_figures}

unfoldable pub verify_output : ℕ → ℕ → Types → List ℕ → List ℕ → List ℕ
verify_output D limit types reference text = of_figures (record_against D limit types reference text) (λ f. print_accepted)
