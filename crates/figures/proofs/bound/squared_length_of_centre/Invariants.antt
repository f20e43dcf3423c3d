-- `figures::bound::squared_length_of_centre` meets its contract. The loop's invariant: the sum is that of the squares of the
-- coordinates passed, each at most the square of X's limit.
use Prim.Native.Nat.{◌*◌}
use Rattle.integers.specs.Sum.{square}
use Rattle.geometry.specs.Places.{centre_of}
use Rattle.integers.specs.Partial.{Partial}
use Rattle.limits.specs.Limits.{centre_limit, total}
use Rattle.figures.proofs.bound.squared_length_of_centre.Given as goal

-- the bound of a coordinate of X
abbrev pub ghost-square : goal.ghost-square
ghost-square a = centre_limit total

abbrev pub invariant-loop-k : goal.invariant-loop-k
invariant-loop-k l = Partial (centre_limit total * centre_limit total) l.k (λ j. square (centre_of l.scaled_centre j)) l.n l.k l.sum
