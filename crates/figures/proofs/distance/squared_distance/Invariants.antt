-- `figures::distance::squared_distance` meets its contract. The loop's invariant: the sum is that of the squares of the channels
-- passed, each at most the square of twice the coordinates' limit.
use Prim.Native.Nat.{◌*◌}
use lib.IntN.{◌-ℤ◌}
use Rattle.integers.specs.Sum.{square}
use Rattle.geometry.specs.Table.{coordinate}
use Rattle.limits.specs.Limits.{coordinate_limit}
use Rattle.integers.specs.Partial.{Partial}
use Rattle.figures.proofs.distance.squared_distance.Given as goal

abbrev pub invariant-loop-k : goal.invariant-loop-k
invariant-loop-k l = Partial ((2 * coordinate_limit) * (2 * coordinate_limit)) l.k (λ t. square (coordinate l.rows l.n l.i t -ℤ coordinate l.rows l.n l.j t)) l.n l.k l.sum
