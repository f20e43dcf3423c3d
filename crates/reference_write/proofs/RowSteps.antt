-- The numbers of a row as they are printed.
--     row_values, row_small     the numbers that are handed on are those of the row, each small
--     row_put                   their line is that of the row
use Prim.Native.Nat.{ℕ, ◌^◌, ◌≤◌, ◌<◌}
use mathlib.Core.Path.{◌≡◌, refl, sym, ap, ◌∙◌}
use mathlib.Core.List.{List, [], ◌∷◌, ◌++◌}
use native.Mathlib.Omega.{arith}
use lib.IntN.{ℤ, pos, nat_abs}
use lib.ListN.{length, get_or, take, drop}
use lib.Seq.{take_at, length-take-le, get_or-take}
use Rattle.limits.specs.Limits.{coordinate_limit}
use Rattle.lent.specs.Filled.{filled, Filling, filling_done}
use Rattle.text.specs.Parts.{line_end}
use Rattle.printing.specs.Clauses.{print_numbers, numbers_after, Put}
use Rattle.printing.specs.ContractLaws.{put_as}
use Rattle.reference_row.specs.Row.{print_row}
use Rattle.reference_write.specs.Writing.{plain_row}
use Rattle.reference_write.specs.PlainRowsLaws.{plain-line}

module _ {numbers values lent : List ℤ} {n i : ℕ} (done : n ≤ i) (places : n ≤ length numbers) (f : Filling lent numbers n values i) where
  row_values : take n values ≡ take n numbers
  unfolding filled
  row_values = ap (take n) (filling_done done f) ∙ take_at (take n numbers) (drop n lent) n (length-take-le n numbers places)

  pub row_small : ((k : ℕ) → k < n → nat_abs (get_or numbers k (pos 0)) ≤ coordinate_limit) → (k : ℕ) → k < n → nat_abs (get_or values k (pos 0)) < 2 ^ 63
  row_small small k h =
      let same : get_or values k (pos 0) ≡ get_or numbers k (pos 0) =
      sym (get_or-take n values k (pos 0) h) ∙ ap (λ (l : List ℤ). get_or l k (pos 0)) row_values ∙ get_or-take n numbers k (pos 0) h in
      omega (arith, ap nat_abs same, small k h)

  pub row_put : (label : List ℕ) {out out' : List ℕ} {at r : ℕ} → Put (print_numbers label (take n values)) out at out' r
      → Put (print_row (plain_row label (take n numbers)) ++ (line_end ∷ [])) out at out' r
  row_put label put =
      put_as put
      (ap (λ (line : List ℕ). line ++ (line_end ∷ [])) (ap (numbers_after label) row_values ∙ sym (plain-line label (take n numbers)))) refl
