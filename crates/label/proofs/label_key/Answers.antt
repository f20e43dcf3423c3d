-- A field in which a comma stands is no label; any other is its own first field.
use mathlib.Core.Path.{sym, ap, ◌∙◌}
use Rattle.number.specs.Clauses.{above_zero}
use Rattle.label.specs.ContractLaws.{label-comma, label_whole}
use Rattle.label.proofs.label_key.Goals as goal

pub returns-then-first-field : goal.returns-then-first-field
returns-then-first-field c = sym (ap above_zero (label-comma _ _ c.label_field-first.ensures.part c.if-first-field.true))

pub returns : goal.returns
returns c =
    let first = c.label_field-first.ensures in
    first.is ∙ ap above_zero (label_whole _ _ first.part c.if-first-field.false)
