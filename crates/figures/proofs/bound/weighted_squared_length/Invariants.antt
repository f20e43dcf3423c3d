-- `figures::bound::weighted_squared_length` meets its contract. The loop's invariant: the sum is that of weight times squared length
-- over the rows passed, at most the limit on a squared length times their weights, which sum to at most `total`.
use Prim.Native.Nat.{◌*◌}
use Rattle.integers.specs.Sum.{sumℕ}
use Rattle.geometry.specs.Figures.{squared_length}
use Rattle.geometry.specs.Move.{weight_of}
use Rattle.geometry.specs.Table.{coordinate}
use Rattle.limits.specs.Limits.{length_limit}
use Rattle.integers.specs.Partial.{Partial}
use Rattle.figures.proofs.bound.weighted_squared_length.Given as goal

abbrev pub invariant-loop-i : goal.invariant-loop-i
invariant-loop-i l = Partial length_limit (sumℕ l.i (weight_of l.weights)) (λ j. weight_of l.weights j * squared_length l.n (coordinate l.rows l.n j)) l.m l.i l.sum
