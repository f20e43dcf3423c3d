-- `moves::select::farthest_row` meets its contract. The loop's invariant: what is held is the far row of the rows before `at`. A block in which
-- no score is above the one held leaves it as it is. The measure is the number of rows left.
use Prim.Native.Nat.{◌-◌}
use Rattle.moves.specs.Clauses.{FarHeld}
use Rattle.moves.proofs.select.farthest_row.Given as goal

abbrev pub invariant-loop-at : goal.invariant-loop-at
invariant-loop-at l = FarHeld l.scores l.m l.at l.held

abbrev pub decreases-loop-at : goal.decreases-loop-at
decreases-loop-at l = l.m - l.at
