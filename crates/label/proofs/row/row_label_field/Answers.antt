-- Every label may be a row's.
use mathlib.Core.Path.{sym, ap, ◌∙◌}
use Rattle.number.specs.Clauses.{above_zero}
use Rattle.label.specs.RowLabelLaws.{row_key_lem}
use Rattle.label.proofs.row.row_label_field.Goals as goal

pub returns : goal.returns
returns c = record { part = c.label_field.ensures.part; is = c.label_field.ensures.is ∙ sym (ap above_zero (row_key_lem _)) }
