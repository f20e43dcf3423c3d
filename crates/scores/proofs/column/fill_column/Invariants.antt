-- `scores::column::fill_column` meets its contract. The loop's invariant: the first i places from `base` on hold the squared distances of
-- the first i rows from row j, the others are as they were.
use Prim.Native.Nat.{◌+◌, ◌-◌, ◌≤◌}
use Rattle.lists.specs.Placed.{Placed}
use Rattle.scores.specs.Clauses.{column_of}
use Rattle.scores.proofs.column.fill_column.Given as goal

abbrev pub invariant-loop-i : goal.invariant-loop-i
invariant-loop-i l = (l.i ≤ l.m) × Placed (λ p. column_of l.rows l.n l.j (p - l.base)) l.base l.initial.columns l.columns (l.base + l.i)
