use Rattle.std.proofs.Common.{refl, sym, ◌+◌, subst, arith}
use borrow.Author.Tests.{lt-ltb, le-ltb}
use Rattle.geometry.specs.SelectLaws.{far_replaced, far_kept, far_next}
use Rattle.moves.specs.Clauses.{FarHeld}
use Rattle.moves.proofs.select.farther.Goals as goal
use Rattle.moves.proofs.select.farther.Goals.{then-held-score, else-held-score}

pub loop-row-preserved : goal.loop-row-preserved
loop-row-preserved c =
    let f = c.loop-row.invariant in
    let Held = FarHeld c.args.scores.now c.args.end (c.loop-row.row + 1) in
    elim c.if-held-score.branch [
      | then-held-score w ↦ subst Held (sym w.held-is) (far_replaced f c.loop-row-test.true refl (lt-ltb _ _ w.if-held-score.true) refl refl)
      | else-held-score w ↦ subst Held (sym w.held-is) (far_kept f c.loop-row-test.true refl (le-ltb _ _ w.if-held-score.false) refl refl)
    ]

pub returns : goal.returns
returns c = far_next c.loop-row.invariant (omega (arith, c.loop-row.invariant.most))
