-- `figures::centre::centre_of_channel` meets its contract. The loop's invariant: the sum is
-- that of weight times coordinate over the rows passed, within the coordinates' limit times their weights of 0. The weights sum to at most `total`, so that each sum
-- fits an i64.
use mathlib.Core.List.{List}
use Prim.Native.Nat.{ℕ, ◌*◌, ◌≤◌}
use lib.IntN.{ℤ, pos, ◌*ℤ◌}
use Rattle.integers.specs.Sum.{sumℤ, sumℕ}
use Rattle.geometry.specs.Move.{weight_of}
use Rattle.geometry.specs.Table.{coordinate}
use Rattle.limits.specs.Limits.{coordinate_limit}
use Rattle.integers.specs.Reading.{Reads}
use Rattle.figures.proofs.centre.centre_of_channel.Given as goal

-- the term of row i
abbrev pub term : List ℤ → ℕ → List ℕ → ℕ → ℕ → ℤ
term rows n w k i = pos (weight_of w i) *ℤ coordinate rows n i k

pub record Passed (rows : List ℤ) (m n : ℕ) (w : List ℕ) (k : ℕ) (z : ℤ) (i : ℕ) : Type 0 where
  pub row : i ≤ m
  pub read : Reads z (sumℤ i (term rows n w k)) (coordinate_limit * sumℕ i (weight_of w))

abbrev pub invariant-loop-i : goal.invariant-loop-i
invariant-loop-i l = Passed l.rows l.m l.n l.weights l.k l.sum l.i
