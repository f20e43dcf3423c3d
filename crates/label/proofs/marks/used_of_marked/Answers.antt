-- A number whose place is not marked is not among those that are (`unmarked_new`); any other is looked for.
use mathlib.Core.Path.{sym, ap, ◌∙◌}
use mathlib.Core.Bool.{false}
use lib.ListN.{get_or, take}
use Rattle.label.specs.MarksLaws.{unmarked_new}
use Rattle.label.proofs.marks.used_of_marked.Goals as goal

pub returns-else-marks-mark_place : goal.returns-else-marks-mark_place
returns-else-marks-mark_place c =
    let marks = c.args.marks.now in
    let clear = c.if-marks-mark_place.false in
    clear ∙ sym (unmarked_new marks c.args.key (take c.args.count c.args.keys.now) c.requires.1
    (ap (λ place. get_or marks place false) (sym c.mark_place.ensures) ∙ clear))
