-- What panel prints of a reference text and the text of a record, for any total D, row limit and table of types.
--     shown_output D types f                        tag and shown centre of each channel, or the refusal of the panel
--     panel_output D limit types reference text     the refusal of the two texts, or this of the record's figures
use Rattle.std.specs.Prelude.{ℕ, List}
use Rattle.channel.specs.Channel.{Types}
use Rattle.envelope.specs.Figures.{channel_codes}
use Rattle.envelope.specs.declared.Figures.{Figures}
use Rattle.panel_steps.specs.Panel.{panel_shown}
use Rattle.program_lines.specs.Lines.{print_steps}
use Rattle.program_record.specs.Against.{unless_refused, record_against, of_figures}

-- the panel of a record that agrees with its rows is never refused (`panel_accepted`)
abbrev pub shown_output : ℕ → Types → Figures → List ℕ
shown_output D types f =
    unless_refused (panel_shown D types f).outcome (λ _. print_steps types (channel_codes f) (panel_shown D types f).steps)

unfoldable pub panel_output : ℕ → ℕ → Types → List ℕ → List ℕ → List ℕ
panel_output D limit types reference text = of_figures (record_against D limit types reference text) (shown_output D types)
