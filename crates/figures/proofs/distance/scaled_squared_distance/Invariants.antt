-- `figures::distance::scaled_squared_distance` meets its contract. The loop's invariant: the sum is that of the squares of the
-- channels passed, each at most the square of twice the limit on X.
use Prim.Native.Nat.{◌*◌}
use lib.IntN.{pos, ◌-ℤ◌, ◌*ℤ◌}
use Rattle.integers.specs.Sum.{square}
use Rattle.geometry.specs.Table.{coordinate}
use Rattle.limits.specs.Limits.{total, centre_limit}
use Rattle.geometry.specs.Places.{centre_of}
use Rattle.integers.specs.Partial.{Partial}
use Rattle.figures.proofs.distance.scaled_squared_distance.Given as goal

abbrev pub invariant-loop-k : goal.invariant-loop-k
invariant-loop-k l = Partial ((2 * centre_limit total) * (2 * centre_limit total)) l.k (λ j. square (pos total *ℤ coordinate l.rows l.n l.row j -ℤ centre_of l.scaled_centre j)) l.n l.k l.sum
