use Rattle.std.proofs.Common.{refl, sym, ◌+◌, subst, arith}
use borrow.Author.Tests.{lt-ltb, le-ltb}
use Rattle.geometry.specs.SelectLaws.{near_light, near_replaced, near_kept, near_next}
use Rattle.scores.specs.Clauses.{score_of}
use Rattle.moves.specs.Clauses.{no_score, NearHeld}
use Rattle.moves.proofs.select.nearer.Goals as goal
use Rattle.moves.proofs.select.nearer.Goals.{then-weights-row-gt0+then-score-held, then-weights-row-gt0+else-score-held, else-weights-row-gt0}

pub loop-row-preserved : goal.loop-row-preserved
loop-row-preserved c =
    let l = c.loop-row-test.true in
    let f = c.loop-row.invariant in
    let row = c.loop-row.row in
    let Held = NearHeld c.args.scores.now c.args.weights.now c.args.end (row + 1) in
    elim c.if-weights-row-gt0.branch [
      | then-weights-row-gt0+then-score-held w ↦
          subst Held (sym w.held-is) (near_replaced f l refl w.if-weights-row-gt0.true (lt-ltb _ _ w.if-score-held.true) refl refl)
      | then-weights-row-gt0+else-score-held w ↦
          subst Held (sym w.held-is)
          (near_kept f l refl w.if-weights-row-gt0.true (lt-ltb (score_of c.args.scores.now row) no_score (omega (arith, c.requires.1.0.most row l)))
          (le-ltb _ _ w.if-score-held.false) refl refl)
      | else-weights-row-gt0 w ↦ subst Held (sym w.held-is) (near_light f l w.if-weights-row-gt0.false refl refl)
    ]

pub returns : goal.returns
returns c = near_next c.loop-row.invariant (omega (arith, c.loop-row.invariant.most))
