-- The line is a `W` line where it starts with the word and two numbers, ends with them, and these are within their limits. An i64
-- keeps a number within a limit as it is and one above it above, so that each test decides as it would of the number itself.
use mathlib.Core.Path.{◌≡◌, sym, ap, ap₂, ◌∙◌}
use mathlib.Core.Bool.{Bool, true, false}
use native.Mathlib.Omega.{arith}
use lib.Dec.{lit<}
use Prim.Native.Nat.{ℕ, ◌≤◌}
use lib.IntN.{ℤ, pos, nat_abs}
use lib.Signed.{le_z}
use mir.Syntax.{w64}
use mir.Val.{to_z}
use mir.Facts.{to_z_pos}
use Rattle.std.specs.Prelude.{Some}
use Rattle.limits.specs.Limits.{row_limit}
use Rattle.record_lines.specs.Clauses.{weight_read}
use Rattle.record_lines.specs.declared.line.WeightLine.{WeightLine}
use Rattle.record_lines.proofs.WeightSteps.{weight_no_numbers, weight_numbers, weight_no_end, weight_early, weight_late, weight_empty, weight_held, weight_kept}
use Rattle.record_lines.proofs.line.read_weight.Goals as goal
use Rattle.record_lines.proofs.line.read_weight.Goals.{
  then-row-last-via-then-row-last,
  then-row-last-via-else-row-last+then-row,
  then-row-last-via-else-row-last+else-row+then-weight-lt1,
}

-- the row's test against the last one, as it is of the machine's reading of that one
row_test : (row : ℤ) (last : ℕ) (t : Bool) → last ≤ row_limit → le_z row (to_z w64 last) ≡ t → le_z row (pos last) ≡ t
row_test row last t b e = ap (le_z row) (sym (to_z_pos w64 (omega arith))) ∙ e

pub returns-in_err-next : goal.returns-in_err-next
returns-in_err-next c = c.from_residual.ensures ∙ sym (ap weight_read (weight_no_numbers row_limit _ c.in_err-next.ensures))

pub returns-then-next-line : goal.returns-then-next-line
returns-then-next-line c = sym (ap weight_read (weight_no_end row_limit _ c.in_ok-next.ensures c.if-next-line.true))

pub returns-then-row-last : goal.returns-then-row-last
returns-then-row-last c =
    let numbers = weight_numbers row_limit _ c.in_ok-next.ensures c.if-next-line.false (lit< tt) c.requires in
    elim c.then-row-last.branch [
      | then-row-last-via-then-row-last w ↦ sym (ap weight_read (weight_early numbers (row_test _ _ true c.requires w.if-row-last.true)))
      | then-row-last-via-else-row-last+then-row w ↦ sym (ap weight_read (weight_late numbers w.if-row.true))
      | then-row-last-via-else-row-last+else-row+then-weight-lt1 w ↦ sym (ap weight_read (weight_empty numbers w.if-weight-lt1.true))
    ]

pub returns : goal.returns
returns c =
    let numbers = weight_numbers row_limit _ c.in_ok-next.ensures c.if-next-line.false (lit< tt) c.requires in
    let line = weight_held numbers (row_test _ _ false c.requires c.if-row-last.false) c.if-row.false c.if-weight-lt1.false in
    let kept = weight_kept line.weight c.try_from.result _ line.weight_is c.try_from.ensures in
    let made : ℤ → ℕ → WeightLine = λ row weight. record { row = nat_abs row; weight = weight } in
    ap Some (ap₂ made line.row_is (c.unwrap_or.ensures ∙ kept)) ∙ sym (ap weight_read line.is)
