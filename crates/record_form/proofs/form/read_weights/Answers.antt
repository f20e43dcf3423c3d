use native.Mathlib.Omega.{arith}
use Rattle.record_form.proofs.WalkSteps.{weights-missing, weights_done, weights-unended, weights_other, weight_rises, weights_next}
use Rattle.record_form.proofs.form.read_weights.Goals as goal

pub returns-then-end-text : goal.returns-then-end-text
returns-then-end-text c = weights-unended c.loop-from.invariant c.loop-from-test.true c.line_end-end.ensures c.if-end-text.true

pub returns-in_default : goal.returns-in_default
returns-in_default c = weights_other c.loop-from.invariant c.line_end-end.ensures c.if-end-text.false c.in_default.ensures

-- what holds past the line bounds its row
pub loop-from-preserved : goal.loop-from-preserved
loop-from-preserved c = weights_next c.loop-from.invariant c.line_end-end.ensures c.if-end-text.false c.in-Some.ensures

pub overflow_sub-weights : goal.overflow_sub-weights
overflow_sub-weights c =
    let row = weight_rises c.loop-from.invariant c.line_end-end.ensures c.if-end-text.false c.in-Some.ensures in
    omega (arith, row.0)

pub offset_bounds-weights-row : goal.offset_bounds-weights-row
offset_bounds-weights-row c =
    let row = weight_rises c.loop-from.invariant c.line_end-end.ensures c.if-end-text.false c.in-Some.ensures in
    omega (arith, row.1)

pub bounds-weights-row : goal.bounds-weights-row
bounds-weights-row c =
    let row = weight_rises c.loop-from.invariant c.line_end-end.ensures c.if-end-text.false c.in-Some.ensures in
    omega (arith, row.0, row.1, c.loop-from.invariant.places)

pub returns-then-last-eq0 : goal.returns-then-last-eq0
returns-then-last-eq0 c = weights-missing c.loop-from.invariant c.loop-from-test.false c.if-last-eq0.true

pub returns : goal.returns
returns c = weights_done c.loop-from.invariant c.loop-from-test.false (λ e. omega arith)
