-- `scores::column::move_columns` meets its contract. The loop's invariant: the first scores are moved, the others are as they were.
use Prim.Native.Nat.{ℕ, ◌+◌, ◌-◌, ◌*◌, ◌≤◌}
use mathlib.Core.List.{List}
use lib.ListN.{get_or}
use Rattle.lists.specs.Placed.{Placed}
use Rattle.scores.specs.Clauses.{score_of}
use Rattle.scores.proofs.column.move_columns.Given as goal

-- what a score becomes
abbrev pub becomes : List ℕ → List ℕ → ℕ → ℕ → ℕ → ℕ → ℕ
becomes scores columns gained lost t i = score_of scores i + t * get_or columns (gained + i) 0 - t * get_or columns (lost + i) 0

abbrev pub invariant-loop-row : goal.invariant-loop-row
invariant-loop-row l = Placed (becomes l.initial.scores l.columns l.gained l.lost l.t) 0 l.initial.scores l.scores l.row × (l.row ≤ l.m)
