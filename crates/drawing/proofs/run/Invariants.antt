-- `drawing::run` meets its contract. The loop's invariant: the run from these weights with the moves left is the whole run, the
-- weights sum to the total, the scores and the pair of rows are theirs, and each slot that names a row holds that row's column. The
-- measure is the number of moves left.
use Prim.Native.Nat.{◌-◌}
use Rattle.limits.specs.Limits.{total}
use Rattle.scores.specs.Clauses.{KeptFor}
use Rattle.drawing.proofs.Laws.{SoFar}
use Rattle.drawing.proofs.run.Given as goal

abbrev pub invariant-loop-scores : goal.invariant-loop-scores
invariant-loop-scores l = SoFar total l.rows l.m l.n l.budget l.weights l.scores l.pair l.moves × KeptFor l.rows l.m l.n l.columns

abbrev pub decreases-loop-scores : goal.decreases-loop-scores
decreases-loop-scores l = l.budget - l.moves
