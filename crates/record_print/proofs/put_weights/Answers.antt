use native.Mathlib.Omega.{arith}
use Rattle.record_print.proofs.PrintSteps.{weight_below, weights_none, weights_zero, weights-more, weights_done}
use Rattle.record_print.proofs.put_weights.Goals as goal
use Rattle.record_print.proofs.put_weights.Goals.{then-weight-ne0, else-weight-ne0}

pub loop-i-init : goal.loop-i-init
loop-i-init c = weights_none _ _ _

pub loop-i-preserved : goal.loop-i-preserved
loop-i-preserved c =
    let small = c.type_inv.weights c.loop-i.i in
    elim c.if-weight-ne0.branch [
      | then-weight-ne0 w ↦
          rw (w.out-is, w.from-is)
          (weights-more c.loop-i.invariant (omega arith) w.if-weight-ne0.true (weight_below _ _ (omega arith) (omega arith)) w.put_weight-from.ensures)
      | else-weight-ne0 w ↦ rw (w.out-is, w.from-is) (weights_zero c.loop-i.invariant (omega arith) w.if-weight-ne0.false)
    ]

pub returns : goal.returns
returns c = weights_done c.loop-i.invariant (omega arith)
