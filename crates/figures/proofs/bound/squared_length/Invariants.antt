-- `figures::bound::squared_length` meets its contract. The loop's invariant: the sum is that of the squares of the channels passed,
-- each at most 16,000,000.
use Prim.Native.Nat.{◌*◌}
use Rattle.integers.specs.Sum.{square}
use Rattle.geometry.specs.Table.{coordinate}
use Rattle.limits.specs.Limits.{coordinate_limit}
use Rattle.integers.specs.Partial.{Partial}
use Rattle.figures.proofs.bound.squared_length.Given as goal

-- the bound of a coordinate
abbrev pub ghost-square : goal.ghost-square
ghost-square a = coordinate_limit

abbrev pub invariant-loop-k : goal.invariant-loop-k
invariant-loop-k l = Partial (coordinate_limit * coordinate_limit) l.k (λ j. square (coordinate l.rows l.n l.row j)) l.n l.k l.sum
