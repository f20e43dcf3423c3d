-- A `W` line that is read field by field.
--     WeightHeld                         what the machine reads of a `W` line in form
--     weight_no_numbers, weight_no_end   a line that is not the word and two numbers
--     WeightNumbers, weight_numbers      a line that is
--     weight_early, weight_late          such a line with a row that is not past the last one, or past the limit
--     weight_empty                       one with no weight above 0
--     weight_held                        one in form
--     weight_kept                        what a u32 keeps of its weight
use Prim.Native.Nat.{ℕ, ◌+◌, ◌≤◌, ◌<◌, min}
use mathlib.Core.Path.{◌≡◌, refl, sym, ap, ap₂, ◌∙◌, subst}
use mathlib.Core.Bool.{true, false, cond, ◌&&◌, and-false}
use mathlib.Core.List.{List}
use mathlib.Core.Option.{Option, none, some}
use Rattle.std.specs.Prelude.{None, Some, Result, Ok, Err, OkIff, unsigned_abs}
use Rattle.std.specs.Result.{result_unwrap_or}
use Rattle.std.specs.Int.{FitsUnsignedBits}
use native.Mathlib.Omega.{arith}
use borrow.Author.Tests.{leb-true, leb-false, ltb-true, ltb-false, lt-ltb, le-ltb, le-leb, lt-leb}
use lib.Dec.{leb, ltb, lit<}
use lib.IntN.{ℤ, pos, negsuc}
use lib.ListN.{length, get_or}
use lib.Signed.{le_z, lt_z}
use mir.Syntax.{w64}
use Rattle.integers.specs.Reading.{back}
use Rattle.integers.specs.Tests.{clash}
use Rattle.record_lines.specs.Lines.{Weight, weight_word, weight_past, weight_stated, weight_line}
use Rattle.record_lines.specs.Clauses.{held_limit, held, NumbersRead, held_weight}
use Rattle.record_lines.specs.ContractLaws.{held-negative}
use Rattle.record_lines.proofs.LineSteps.{numbers_some, numbers_no_line, numbers-held, numbers-end, numbers_no_end}

-- what the machine reads of a `W` line in form: the row as it is, the weight as an i64 keeps it
pub record WeightHeld (limit : ℕ) (o : Option Weight) (x y : ℤ) : Type 0 where
  pub row : ℕ
  pub weight : ℕ
  pub is : o ≡ some (record { row = row; weight = weight })
  pub row_is : x ≡ pos row
  pub row_most : row ≤ limit
  pub weight_is : y ≡ pos (min weight held_limit)

same_weight : {limit : ℕ} {o o' : Option Weight} {x x' y y' : ℤ} → o ≡ o' → x ≡ x' → y ≡ y' → WeightHeld limit o' x' y' → WeightHeld limit o x y
same_weight e r w f =
    record { row = f.row; weight = f.weight; is = e ∙ f.is; row_is = r ∙ f.row_is; row_most = f.row_most; weight_is = w ∙ f.weight_is }

module _ (limit last : ℕ) (a : limit < held_limit) (b : last ≤ limit) where
  early : (row weight : ℤ) → le_z (held row) (pos last) ≡ true → weight_past limit last row weight ≡ none
  early (pos r) (pos w) h =
      let t : ltb last r ≡ false = le-ltb last r (omega (arith, leb-true (min r held_limit) last h)) in
      ap (λ t. cond ((t && leb r limit) && leb 1 w) (some (record { row = r; weight = w })) none) t
  early (pos r) (negsuc k) h = refl
  early (negsuc k) weight h = refl

  late : (row weight : ℤ) → lt_z (pos limit) (held row) ≡ true → weight_past limit last row weight ≡ none
  late (pos r) (pos w) h =
      let t : leb r limit ≡ false = lt-leb r limit (omega (arith, ltb-true limit (min r held_limit) h)) in
      ap (λ t. cond ((ltb last r && t) && leb 1 w) (some (record { row = r; weight = w })) none) t
      ∙ ap (λ t. cond (t && leb 1 w) (some (record { row = r; weight = w })) none) (and-false (ltb last r))
  late (pos r) (negsuc k) h = refl
  late (negsuc k) weight h = refl

  empty : (row weight : ℤ) → lt_z (held weight) (pos 1) ≡ true → weight_past limit last row weight ≡ none
  empty (pos r) (pos w) h =
      let t : leb 1 w ≡ false = lt-leb 1 w (omega (arith, ltb-true (min w held_limit) 1 h)) in
      let u = ltb last r && leb r limit in
      ap (λ t. cond (u && t) (some (record { row = r; weight = w })) none) t
      ∙ ap (λ t. cond t (some (record { row = r; weight = w })) none) (and-false u)
  empty (pos r) (negsuc k) h = refl
  empty (negsuc k) weight h = refl

  within : (row weight : ℤ) → le_z (held row) (pos last) ≡ false → lt_z (pos limit) (held row) ≡ false → lt_z (held weight) (pos 1) ≡ false
      → WeightHeld limit (weight_past limit last row weight) (held row) (held weight)
  within (negsuc k) weight h i j =
      let n = held-negative k in
      clash (ap (λ z. le_z z (pos last)) n.1) h
  within (pos r) (negsuc k) h i j =
      let n = held-negative k in
      clash (ap (λ z. lt_z z (pos 1)) n.1) j
  within (pos r) (pos w) h i j =
      let low = leb-false (min r held_limit) last h in
      let high = ltb-false limit (min r held_limit) i in
      let some_weight = ltb-false (min w held_limit) 1 j in
      let t : ltb last r ≡ true = lt-ltb last r (omega arith) in
      let u : leb r limit ≡ true = le-leb r limit (omega arith) in
      let v : leb 1 w ≡ true = le-leb 1 w (omega arith) in
      let m : min r held_limit ≡ r = omega arith in
      record {
        row = r;
        weight = w;
        is = ap (λ t. cond t (some (record { row = r; weight = w })) none) (ap₂ ◌&&◌ (ap₂ ◌&&◌ t u) v);
        row_is = ap pos m;
        row_most = omega arith;
        weight_is = refl;
      }

-- the word and two numbers, which the machine reads in the lent places
pub record WeightNumbers (limit last : ℕ) (line : List ℕ) (lent : List ℤ) : Type 0 where
  pub row : ℤ
  pub weight : ℤ
  pub is : weight_line limit last line ≡ weight_past limit last row weight
  pub row_reads : back w64 (get_or lent 0 (pos 0)) ≡ held row
  pub weight_reads : back w64 (get_or lent 1 (pos 0)) ≡ held weight
  pub below : limit < held_limit
  pub past : last ≤ limit

module _ (limit last : ℕ) {line : List ℕ} {lent₀ lent : List ℤ} where
  pub weight_no_numbers : NumbersRead weight_word 2 line lent₀ lent None → weight_line limit last line ≡ none
  unfolding weight_line
  weight_no_numbers f = ap (weight_stated limit last) (numbers_no_line f)

module _ (limit last : ℕ) {line : List ℕ} {lent₀ lent : List ℤ} {next : ℕ} (f : NumbersRead weight_word 2 line lent₀ lent (Some next)) where
  pub weight_no_end : (next ≡ length line + 1 → ⊥) → weight_line limit last line ≡ none
  unfolding weight_line
  weight_no_end h = ap (weight_stated limit last) (numbers_no_end f h)

  pub weight_numbers : next ≡ length line + 1 → limit < held_limit → last ≤ limit → WeightNumbers limit last line lent
  unfolding weight_line
  weight_numbers h below past =
      let stated = numbers_some f in
      record {
        row = get_or stated.0 0 (pos 0);
        weight = get_or stated.0 1 (pos 0);
        is = ap (weight_stated limit last) (numbers-end f h);
        row_reads = numbers-held f 0 (lit< tt);
        weight_reads = numbers-held f 1 (lit< tt);
        below = below;
        past = past;
      }

module _ {limit last : ℕ} {line : List ℕ} {lent : List ℤ} (s : WeightNumbers limit last line lent) where
  pub weight_early : le_z (back w64 (get_or lent 0 (pos 0))) (pos last) ≡ true → weight_line limit last line ≡ none
  weight_early t = s.is ∙ early limit last s.below s.past s.row s.weight (ap (λ z. le_z z (pos last)) (sym s.row_reads) ∙ t)

  pub weight_late : lt_z (pos limit) (back w64 (get_or lent 0 (pos 0))) ≡ true → weight_line limit last line ≡ none
  weight_late t = s.is ∙ late limit last s.below s.past s.row s.weight (ap (lt_z (pos limit)) (sym s.row_reads) ∙ t)

  pub weight_empty : lt_z (back w64 (get_or lent 1 (pos 0))) (pos 1) ≡ true → weight_line limit last line ≡ none
  weight_empty t = s.is ∙ empty limit last s.below s.past s.row s.weight (ap (λ z. lt_z z (pos 1)) (sym s.weight_reads) ∙ t)

  pub weight_held : le_z (back w64 (get_or lent 0 (pos 0))) (pos last) ≡ false → lt_z (pos limit) (back w64 (get_or lent 0 (pos 0))) ≡ false
      → lt_z (back w64 (get_or lent 1 (pos 0))) (pos 1) ≡ false
      → WeightHeld limit (weight_line limit last line) (back w64 (get_or lent 0 (pos 0))) (back w64 (get_or lent 1 (pos 0)))
  weight_held t u v =
      same_weight s.is s.row_reads s.weight_reads
      (within limit last s.below s.past s.row s.weight (ap (λ z. le_z z (pos last)) (sym s.row_reads) ∙ t)
      (ap (lt_z (pos limit)) (sym s.row_reads) ∙ u) (ap (λ z. lt_z z (pos 1)) (sym s.weight_reads) ∙ v))

-- the weight as a u32 keeps it, after what an i64 keeps of it
pub weight_kept : (w : ℕ) {E : Type 0} (r : Result ℕ E) (y : ℤ) → y ≡ pos (min w held_limit) → OkIff r (FitsUnsignedBits 32 y) (unsigned_abs y)
    → result_unwrap_or r 4294967295 ≡ held_weight w
weight_kept w {E} r y e h = go r (subst (λ (z : ℤ). OkIff r (FitsUnsignedBits 32 z) (unsigned_abs z)) e h)
  where
    go : (r : Result ℕ E) → OkIff r (FitsUnsignedBits 32 (pos (min w held_limit))) (unsigned_abs (pos (min w held_limit)))
        → result_unwrap_or r 4294967295 ≡ held_weight w
    go (Ok x) h = omega (arith, h.0, h.1)
    go (Err e) h = omega (arith, h)
