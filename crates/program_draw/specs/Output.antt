-- What draw prints of a reference text, for any total D, row limit and table of types.
--     draw_budget                              the budget of its drawing
--     drawn_output types codes drawing         the refusal of a drawing, or its record for channels of these codes
--     content_output D limit types content     what is printed of a reference text
--     draw_output D limit types reference      what the program prints
use Rattle.std.specs.Prelude.{ℕ, List, length}
use Rattle.limits.specs.Limits.{channel_limit}
use Rattle.lists.specs.Padded.{padded}
use Rattle.drawing.specs.Draw.{drawing, DrawingOutcome}
use Rattle.channel.specs.Channel.{Types}
use Rattle.reference_rows.specs.ReferenceText.{codes_of, channel_count, row_count, table_of}
use Rattle.reference_rows.specs.Rows.{Content, faulty, sound}
use Rattle.reference.specs.Reference.{content}
use Rattle.envelope.specs.Figures.{drawn_envelope}
use Rattle.record_print.specs.Printed.{record_text}
use Rattle.program_lines.specs.Lines.{print_refusal}
use Rattle.program_record.specs.Against.{unless_refused}

abbrev pub draw_budget : ℕ
draw_budget = 10000

-- the drawing of the rows of an accepted text is itself accepted (`draw_accepted`)
abbrev pub drawn_output : Types → List ℕ → DrawingOutcome → List ℕ
drawn_output types codes d = unless_refused d.outcome (λ _. record_text types (drawn_envelope (length codes) (padded channel_limit codes) d))

abbrev pub content_output : ℕ → ℕ → Types → Content → List ℕ
content_output D limit types (faulty number line) = print_refusal number line
content_output D limit types (sound found) =
    drawn_output types (codes_of found) (drawing D limit (table_of found) (row_count found) (channel_count found) draw_budget)

unfoldable pub draw_output : ℕ → ℕ → Types → List ℕ → List ℕ
draw_output D limit types reference = content_output D limit types (content limit types reference)
