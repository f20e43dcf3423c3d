-- `moves::select::block_without_weight` meets its contract. The loop's invariant: whether the test holds of the first k rows of the block.
use Prim.Native.Nat.{ℕ, ◌≤◌}
use mathlib.Core.Path.{◌≡◌}
use mathlib.Core.Bool.{Bool}
use mathlib.Core.List.{List}
use lib.Dec.{eqb}
use Rattle.geometry.specs.Move.{weight_of}
use Rattle.moves.specs.Clauses.{each_from, block_rows}
use Rattle.moves.proofs.select.block_without_weight.Given as goal

abbrev pub test : List ℕ → ℕ → Bool
test weights i = eqb (weight_of weights i) 0

abbrev pub invariant-loop-k : goal.invariant-loop-k
invariant-loop-k l = (l.k ≤ block_rows) × (l.each ≡ each_from (test l.weights) l.at l.k)
