-- What draw asks and promises besides equations.
--     draw_room                        room for its output
--     RecordPut output out₀ out r      the output is printed, or is that of a refusal, which prints nothing
use Rattle.std.specs.Prelude.{ℕ, ◌≡◌, List, Result, Ok, Err}
use Rattle.refusal.specs.Outcome.{kind_number}
use Rattle.refusal.specs.declared.Refusal.{Refusal}
use Rattle.limits.specs.Limits.{row_limit}
use Rattle.printing.specs.Clauses.{Put}
use Rattle.record_print.specs.Printed.{record_most}
use Rattle.program_lines.specs.Lines.{print_refusal}

abbrev pub draw_room : ℕ
draw_room = record_most row_limit

abbrev pub RecordPut : List ℕ → List ℕ → List ℕ → Result ℕ Refusal → Type 0
RecordPut output out₀ out (Ok length) = Put output out₀ 0 out length
RecordPut output out₀ out (Err r) = (out ≡ out₀) × (output ≡ print_refusal (kind_number r.kind) r.line)
