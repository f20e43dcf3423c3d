-- A row starts where the walk over the text found it, and its label ends at its first comma.
use mathlib.Core.Logic.{◌⊎◌, inl, inr}
use Prim.Native.Nat.{◌<◌}
use mathlib.Core.Path.{◌≡◌}
use native.Mathlib.Omega.{arith}
use Rattle.reference.proofs.ReadSteps.{parsed_within}
use Rattle.reference_label.proofs.LabelSteps.{label_refused, label_none, label-start, label-found, label_long, none_answered, some_answered}
use Rattle.reference_label.proofs.label_part.Goals as goal

pub returns-in_default : goal.returns-in_default
returns-in_default c =
    let a = none_answered (label_refused c.in_default.field-0 c.in_default.ensures c.args.row) in
    record { part = a.part_is; found = a.found_is }

pub returns-then-row-eq0 : goal.returns-then-row-eq0
returns-then-row-eq0 c =
    let a =
    none_answered
    (label_none c.in-Ok.ensures
    (elim c.then-row-eq0.either as (λ _. (c.args.row ≡ 0) ⊎ (c.in-Ok.reference.m < c.args.row)) [ inl none ↦ inl none | inr past ↦ inr past.1 ])) in
    record { part = a.part_is; found = a.found_is }

pub offset_bounds-starts-row : goal.offset_bounds-starts-row
offset_bounds-starts-row c = omega (arith, parsed_within c.in-Ok.ensures)

pub bounds-starts-row : goal.bounds-starts-row
bounds-starts-row c = omega (arith, parsed_within c.in-Ok.ensures)

pub field_end-end-requires : goal.field_end-end-requires
field_end-end-requires c = label-start c.in-Ok.ensures c.if-row-eq0.false c.if-reference-row.false

pub returns : goal.returns
returns c =
    let a =
    some_answered _ (label_long c.in-Ok.ensures c.if-row-eq0.false c.if-reference-row.false _ c.field_end-end.ensures)
    (label-found c.in-Ok.ensures c.if-row-eq0.false c.if-reference-row.false _ c.field_end-end.ensures) in
    record { part = a.part_is; found = a.found_is }
