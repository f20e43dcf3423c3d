-- `moves::distances::fill_distances` meets its contract. The loop's invariant: the first i places hold s of the first i rows, the others are
-- as they were.
use Prim.Native.Nat.{◌≤◌}
use Rattle.lists.specs.Placed.{Placed}
use Rattle.geometry.specs.Figures.{scaled_squared_distance}
use Rattle.geometry.specs.Places.{centre_of}
use Rattle.geometry.specs.Table.{coordinate}
use Rattle.limits.specs.Limits.{total}
use Rattle.moves.proofs.distances.fill_distances.Given as goal

abbrev pub invariant-loop-i : goal.invariant-loop-i
invariant-loop-i l = (l.i ≤ l.m) × Placed (λ i. scaled_squared_distance total l.n (centre_of l.scaled_centre) (coordinate l.rows l.n i)) 0 l.initial.scores l.scores l.i
