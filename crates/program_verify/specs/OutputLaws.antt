-- What verify prints, for any total D, row limit and table of types.
--     verify_by     by the record and its outcome
use Rattle.std.specs.Prelude.{ℕ, ◌≡◌, List}
use Rattle.channel.specs.Channel.{Types}
use Rattle.program_lines.specs.Lines.{print_accepted}
use Rattle.program_record.specs.Against.{unless_refused, record_against}
use Rattle.program_record.specs.AgainstLaws.{figures_by}
use Rattle.program_verify.specs.Output.{verify_output}
use Rattle.refusal.specs.Outcome.{Outcome}
use Rattle.record_read.specs.Clauses.{EnvelopeRead}

module _ (D limit : ℕ) (types : Types) (reference text : List ℕ) (read : EnvelopeRead) (is : read ≡ record_against D limit types reference text)
    (outcome : Outcome) (told : read.outcome ≡ outcome) where
  pub verify_by : unless_refused outcome (λ _. print_accepted) ≡ verify_output D limit types reference text
  unfolding verify_output
  verify_by = figures_by D limit types reference text read is outcome told (λ f. print_accepted)
