-- `scores::column::add_column` meets its contract. The loop's invariant: the first i scores have risen, the others are as they were.
use Prim.Native.Nat.{ℕ, ◌+◌, ◌*◌, ◌≤◌}
use mathlib.Core.List.{List}
use lib.ListN.{get_or}
use Rattle.lists.specs.Placed.{Placed}
use Rattle.scores.specs.Clauses.{score_of}
use Rattle.scores.proofs.column.add_column.Given as goal

-- what a score becomes
abbrev pub becomes : List ℕ → List ℕ → ℕ → ℕ → ℕ → ℕ
becomes scores columns base t i = score_of scores i + t * get_or columns (base + i) 0

abbrev pub invariant-loop-i : goal.invariant-loop-i
invariant-loop-i l = Placed (becomes l.initial.scores l.columns l.base l.t) 0 l.initial.scores l.scores l.i × (l.i ≤ l.m)
