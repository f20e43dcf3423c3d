-- `moves::select::nearest_row` meets its contract. The loop's invariant: what is held is the near row of the rows before `at`, if one of them has
-- weight. A block without weight leaves it as it is. At the end some row had weight, since the weights sum to the total. The measure is the
-- number of rows left.
use Prim.Native.Nat.{◌-◌}
use Rattle.moves.specs.Clauses.{NearHeld}
use Rattle.moves.proofs.select.nearest_row.Given as goal

abbrev pub invariant-loop-at : goal.invariant-loop-at
invariant-loop-at l = NearHeld l.scores l.weights l.m l.at l.held

abbrev pub decreases-loop-at : goal.decreases-loop-at
decreases-loop-at l = l.m - l.at
