-- `moves::select::block_at_most` meets its contract. The loop's invariant: whether the test holds of the first k rows of the block.
use Prim.Native.Nat.{ℕ, ◌≤◌}
use mathlib.Core.Path.{◌≡◌}
use mathlib.Core.Bool.{Bool, not}
use mathlib.Core.List.{List}
use lib.Dec.{ltb}
use Rattle.scores.specs.Clauses.{score_of}
use Rattle.moves.specs.Clauses.{each_from, block_rows}
use Rattle.moves.proofs.select.block_at_most.Given as goal

abbrev pub test : List ℕ → ℕ → ℕ → Bool
test scores best i = not (ltb best (score_of scores i))

abbrev pub invariant-loop-k : goal.invariant-loop-k
invariant-loop-k l = (l.k ≤ block_rows) × (l.each ≡ each_from (test l.scores l.best) l.at l.k)
