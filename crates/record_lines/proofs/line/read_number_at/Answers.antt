-- The field is read as a plain number, of which a record keeps what it states.
use mathlib.Core.Path.{ap, ◌∙◌}
use Rattle.record_lines.specs.Clauses.{kept_number}
use Rattle.record_lines.proofs.LineSteps.{number_read_lem}
use Rattle.record_lines.proofs.line.read_number_at.Goals as goal

pub returns : goal.returns
returns c =
    let read = c.plain_number_at-read.ensures in
    record { is = c.kept.ensures ∙ ap kept_number read.is ∙ number_read_lem _; ends = read.ends }
