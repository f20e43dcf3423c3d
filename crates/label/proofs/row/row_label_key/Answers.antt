-- `label::row::row_label_key` meets its contract: any label may be a row's.
use mathlib.Core.Path.{sym, ap, ◌∙◌}
use Rattle.number.specs.Clauses.{above_zero}
use Rattle.label.specs.RowLabelLaws.{row_key_lem}
use Rattle.label.proofs.row.row_label_key.Goals as goal

pub returns : goal.returns
returns c = c.label_key.ensures ∙ sym (ap above_zero (row_key_lem _))
