-- `scores::kept::KeptColumns::carry_scores` meets its contract: the second column is put into another slot than that of the first, which stands.
use Rattle.std.proofs.Common.{◌≡◌, ℕ, ◌*◌, ◌<◌, ◌≤◌, ℤ, List, ◌∙◌}
use Rattle.limits.specs.Limits.{row_limit}
use Rattle.scores.specs.Clauses.{column_limit, slot_beside, Elsewhere, IsColumn}
use Rattle.scores.specs.ColumnLaws.{column_elsewhere, beside_apart, shiftable, carried}
use Rattle.scores.proofs.kept.KeptColumns.carry_scores.Goals as goal

-- the column of the row that gains t stands where it was put, once another is put into the slot `free`
gained : (slot : ℕ) {rows : List ℤ} {m n j next free : ℕ} {columns later : List ℕ} → m ≤ row_limit → Elsewhere free columns later → next < column_limit
    → free ≡ slot_beside next slot → IsColumn rows m n j (slot * row_limit) columns → IsColumn rows m n j (slot * row_limit) later
gained slot most still within free_is column = column_elsewhere most still (λ same. beside_apart slot within (same ∙ free_is)) column

pub move_columns-requires : goal.move_columns-requires
move_columns-requires c =
    let asked = c.requires.0 in
    let keep = c.keep-gained.ensures in
    let second = c.keep-lost.ensures in
    shiftable asked (gained _ asked.table.rows_most second.elsewhere keep.keeping.next_within c.slot_beside-self.ensures keep.column) second.column

pub returns-clause-scores : goal.returns-clause-scores
returns-clause-scores c =
    let asked = c.requires.0 in
    let keep = c.keep-gained.ensures in
    let second = c.keep-lost.ensures in
    carried asked (gained _ asked.table.rows_most second.elsewhere keep.keeping.next_within c.slot_beside-self.ensures keep.column)
    second.column c.move_columns.ensures
