-- Rows of plain values, one for each label.
--     rows-labels      their labels are those that are given
--     rows-count       there are as many as labels
--     rows_at          the row at a place
--     rows-numbers     their values read as the numbers that are given
--     plain-line       the line of a row of plain values
--     rows-plain       the labels and the numbers of any rows give those rows in plain values
--     rows_again       in plain values they are the same
use Prim.Native.Nat.{ℕ, zero, suc, ◌+◌, ◌*◌, ◌<◌}
use Rattle.std.specs.Prelude.{◌≡◌, ℤ, get_or}
use Rattle.std.proofs.Math.Path.{refl, sym, ap, ap₂}
use Rattle.std.proofs.Common.{◌∙◌, le_of_suc-le-suc, drop-drop, take-add}
use mathlib.Core.List.{List, [], ◌∷◌, ◌++◌, map, append_assoc}
use Rattle.std.proofs.Math.Nat.{suc-mul}
use native.Mathlib.Omega.{arith}
use Rattle.std.proofs.Math.ListN.{length, take, drop, length-map}
use Rattle.std.proofs.Math.Seq.{drop_at, take_at}
use Rattle.lists.specs.Each.{Each, each_head, each_tail}
use Rattle.text.specs.Parts.{comma, join}
use Rattle.number.specs.Number.{print}
use Rattle.printing.specs.Clauses.{numbers_after}
use Rattle.value.specs.Value.{number, reads, print_value}
use Rattle.reference_row.specs.Row.{Row, no_row, row_labels, print_row}
use Rattle.reference_rows.specs.ReferenceText.{row_numbers}
use Rattle.reference_rows.specs.ReferenceTextLaws.{Complete}
use Rattle.reference_write.specs.Writing.{plain_row, plain_rows}
use Rattle.reference_write.specs.Held.{plain_of}

plain-reads : (numbers : List ℤ) → map reads (map number numbers) ≡ numbers
plain-reads [] = refl
plain-reads (z ∷ numbers) = ap (λ l. z ∷ l) (plain-reads numbers)

values_plain : (numbers : List ℤ) → map print_value (map number numbers) ≡ map print numbers
unfolding print_value
values_plain [] = refl
values_plain (z ∷ numbers) = ap (λ l. print z ∷ l) (values_plain numbers)

pub plain-line : (label : List ℕ) (numbers : List ℤ) → print_row (plain_row label numbers) ≡ numbers_after label numbers
unfolding print_row numbers_after
plain-line label numbers = ap (λ fields. join comma (label ∷ fields)) (values_plain numbers)

module _ (n : ℕ) where
  pub rows-labels : (labels : List (List ℕ)) (numbers : List ℤ) → row_labels (plain_rows n labels numbers) ≡ labels
  unfolding plain_rows
  rows-labels [] numbers = refl
  rows-labels (label ∷ labels) numbers = ap (λ l. label ∷ l) (rows-labels labels (drop n numbers))

  pub rows-count : (labels : List (List ℕ)) (numbers : List ℤ) → length (plain_rows n labels numbers) ≡ length labels
  rows-count labels numbers =
      sym (length-map (plain_rows n labels numbers) (λ (row : Row). row.label)) ∙ ap length (rows-labels labels numbers)

  pub rows_at : (labels : List (List ℕ)) (numbers : List ℤ) (i : ℕ) → i < length labels
      → get_or (plain_rows n labels numbers) i no_row ≡ plain_row (get_or labels i []) (take n (drop (i * n) numbers))
  unfolding plain_rows
  rows_at [] numbers i h = absurd (omega arith)
  rows_at (label ∷ labels) numbers zero h =
      let first : 0 ≡ 0 * n = omega arith in
      ap (λ k. plain_row label (take n (drop k numbers))) first
  rows_at (label ∷ labels) numbers (suc i) h =
      let place : n + i * n ≡ suc i * n = omega (arith, suc-mul i n) in
      rows_at labels (drop n numbers) i (le_of_suc-le-suc h)
      ∙ ap (λ l. plain_row (get_or labels i []) (take n l)) (drop-drop (i * n) n numbers ∙ ap (λ k. drop k numbers) place)

  pub rows-numbers : (labels : List (List ℕ)) (numbers : List ℤ) → row_numbers (plain_rows n labels numbers) ≡ take (length labels * n) numbers
  unfolding plain_rows row_numbers
  rows-numbers [] numbers =
      let none : 0 ≡ 0 * n = omega arith in
      ap (λ k. take k numbers) none
  rows-numbers (label ∷ labels) numbers =
      let many : n + length labels * n ≡ suc (length labels) * n = omega (arith, suc-mul (length labels) n) in
      ap₂ ◌++◌ (plain-reads (take n numbers)) (rows-numbers labels (drop n numbers))
      ∙ sym (take-add n (length labels * n) numbers) ∙ ap (λ k. take k numbers) many

  pub rows-plain : (rows : List Row) → Each (Complete n) no_row rows → (more : List ℤ)
      → plain_rows n (row_labels rows) (row_numbers rows ++ more) ≡ map plain_of rows
  unfolding plain_rows row_numbers
  rows-plain [] complete more = refl
  rows-plain (row ∷ rows) complete more =
      let first = map reads row.values in
      let others = row_numbers rows ++ more in
      let size = length-map row.values reads ∙ each_head (Complete n) no_row row rows complete in
      let parts = append_assoc first (row_numbers rows) more in
      ap₂ (λ l r. plain_row row.label l ∷ r)
      (ap (take n) parts ∙ take_at first others n size)
      (ap (λ l. plain_rows n (row_labels rows) l) (ap (drop n) parts ∙ drop_at first others n size)
      ∙ rows-plain rows (each_tail (Complete n) no_row row rows complete) more)

  pub rows_again : (labels : List (List ℕ)) (numbers : List ℤ) → map plain_of (plain_rows n labels numbers) ≡ plain_rows n labels numbers
  unfolding plain_rows
  rows_again [] numbers = refl
  rows_again (label ∷ labels) numbers =
      ap₂ (λ l r. plain_row label l ∷ r) (plain-reads (take n numbers)) (rows_again labels (drop n numbers))
