-- The lines of a record after its heading, both ways: a line is read as what it states exactly when it is its printing.
--     Short z                              the number has at most 19 digits
--     number_printed, printed_number       a field of a record is the printing of its number
--     numbers-printed, printed-numbers     fields that are numbers are their printings
--     fields_numbers, numbers_fields       the fields of a word and numbers
--     line-numbers, numbers-line           the line of a word and numbers
--     centre_printed, printed_centre       a `C` line
--     ResultWithin r                       what an `R` line may state
--     result_printed, printed_result       an `R` line
--     weight_within_lem, within_weight         what a `W` line may state, as three bounds
--     weight_printed, printed_weight       a `W` line
--     centre_free, result_free, weight_free    no byte 10 stands in a printed line
use Rattle.std.specs.Prelude.{ℕ, suc, ◌≤◌, ◌<◌, ◌≡◌, Bool, true, false, ◌&&◌, eqb, leb, ltb, ℤ, negsuc, nat_abs, length, take, drop}
use Rattle.std.proofs.Math.Path.{refl, ap, ap₂}
use Rattle.std.proofs.Common.{sym, ◌∙◌, subst, arith, leb-true, le-leb, ltb-true, lt-ltb, eqb-true, eq-eqb, take-append-drop}
use Rattle.std.proofs.Math.Bool.{cond}
use mathlib.Core.List.{List, [], ◌∷◌, ◌++◌, map}
use Rattle.std.proofs.Math.Option.{Option, none, some}
use Rattle.std.proofs.Math.IntN.{pos}
use Rattle.std.proofs.lemmas.List.{length-map}
use Rattle.integers.specs.Tests.{both, unlike, cond_some}
use Rattle.lists.specs.Each.{Each, each_cons, each_head, each_tail}
use Rattle.limits.specs.Limits.{budget_limit}
use Rattle.text.specs.Parts.{comma, line_end, cut, join, same, free, all_free}
use Rattle.text.specs.PartsLaws.{same_eq, same_refl, join-cut, cut-join, join_free, join_more}
use Rattle.number.specs.Number.{hyphen, is_digit, plain, print}
use Rattle.number.specs.NumberLaws.{plain-print, print-plain, print-free}
use Rattle.number.specs.Clauses.{magnitude_limit}
use Rattle.printing.specs.Clauses.{numbers_after}
use Rattle.record_lines.specs.Lines.{
  centre_word,
  result_word,
  weight_word,
  settled_letter,
  budget_letter,
  short_number,
  record_number,
  and_number,
  numbers_of,
  numbers_line,
  centre_line,
  print_centre,
  Result,
  letter_of,
  ending_of,
  moves_of,
  result_with,
  result_of,
  result_fields,
  result_line,
  print_result,
  Weight,
  weight_within,
  weight_past,
  weight_stated,
  weight_line,
  print_weight,
}

-- ---- numbers

abbrev pub Short : ℤ → Type 0
Short z = nat_abs z < magnitude_limit

pub number_printed : (field : List ℕ) (z : ℤ) → record_number field ≡ some z → (print z ≡ field) × Short z
unfolding record_number
number_printed field z e = go (plain field) refl e
  where
    go : (o : Option ℤ) → plain field ≡ o → short_number o ≡ some z → (print z ≡ field) × Short z
    go none h read = unlike read
    go (some y) h read =
        let test = cond_some (ltb (nat_abs y) magnitude_limit) read in
        let same_number : y ≡ z = cc test.1 in
        rw (← same_number) (print-plain field y h, ltb-true (nat_abs y) magnitude_limit test.0)

pub printed_number : (z : ℤ) → Short z → record_number (print z) ≡ some z
unfolding record_number
printed_number z short = rw (plain-print, lt-ltb (nat_abs z) magnitude_limit short)

and_number_some : (o : Option ℤ) (os : Option (List ℤ)) (zs : List ℤ) → and_number o os ≡ some zs
    → (z : ℤ) × (rest : List ℤ) × (o ≡ some z) × (os ≡ some rest) × (zs ≡ z ∷ rest)
and_number_some none os zs e = unlike e
and_number_some (some z) none zs e = unlike e
and_number_some (some z) (some rest) zs e = (z, rest, refl, refl, cc)

pub numbers-printed : (fields : List (List ℕ)) (zs : List ℤ) → numbers_of fields ≡ some zs → (map print zs ≡ fields) × Each Short (pos 0) zs
unfolding numbers_of
numbers-printed [] zs e = let empty : [] ≡ zs = cc in rw (← empty) (refl, λ k h. absurd (omega arith))
numbers-printed (field ∷ fields) zs e =
    let first = and_number_some (record_number field) (numbers_of fields) zs e in
    let here = number_printed field first.0 first.2 in
    let others = numbers-printed fields first.1 first.3 in
    rw first.4 (ap₂ ◌∷◌ here.0 others.0, each_cons Short (pos 0) first.0 first.1 here.1 others.1)

pub printed-numbers : (zs : List ℤ) → Each Short (pos 0) zs → numbers_of (map print zs) ≡ some zs
unfolding numbers_of
printed-numbers [] short = refl
printed-numbers (z ∷ zs) short =
    rw (printed_number z (each_head Short (pos 0) z zs short), printed-numbers zs (each_tail Short (pos 0) z zs short))

-- ---- a word and numbers

pub fields_numbers : (word : List ℕ) (count : ℕ) (fields : List (List ℕ)) (zs : List ℤ) → numbers_line word count fields ≡ some zs
    → (word ∷ map print zs ≡ fields) × (length zs ≡ count) × Each Short (pos 0) zs
unfolding numbers_line
fields_numbers word count [] zs e =
    let test = cond_some (same [] word && eqb 0 (suc count)) e in
    let none-there = eqb-true 0 (suc count) (both (same [] word) (eqb 0 (suc count)) test.0).1 in
    absurd (omega arith)
fields_numbers word count (first ∷ fields) zs e =
    let test = cond_some (same first word && eqb (suc (length fields)) (suc count)) e in
    let tests = both (same first word) (eqb (suc (length fields)) (suc count)) test.0 in
    let many = eqb-true (suc (length fields)) (suc count) tests.1 in
    let read = numbers-printed fields zs test.1 in
    let as_many : length zs ≡ length fields = sym (length-map zs print) ∙ ap length read.0 in
    (ap₂ ◌∷◌ (sym (same_eq first word tests.0)) read.0, omega arith, read.1)

pub numbers_fields : (word : List ℕ) (zs : List ℤ) → Each Short (pos 0) zs → numbers_line word (length zs) (word ∷ map print zs) ≡ some zs
unfolding numbers_line
numbers_fields word zs short =
    rw (same_refl word, length-map zs print, eq-eqb (suc (length zs)) (suc (length zs)) refl) (printed-numbers zs short)

-- a byte that stands in no number
module _ (c : ℕ) (digit : is_digit c ≡ false) (sign : eqb c hyphen ≡ false) where
  numbers-free : (zs : List ℤ) → all_free c (map print zs) ≡ true
  unfolding all_free
  numbers-free [] = refl
  numbers-free (z ∷ zs) = rw (print-free c digit sign z) (numbers-free zs)

  word_free : (word : List ℕ) → free c word ≡ true → (zs : List ℤ) → all_free c (word ∷ map print zs) ≡ true
  unfolding all_free
  word_free word h zs = rw h (numbers-free zs)

after_free : (word : List ℕ) → free line_end word ≡ true → (zs : List ℤ) → free line_end (numbers_after word zs) ≡ true
unfolding numbers_after
after_free word h zs = join_free comma line_end (word ∷ map print zs) (λ e. omega arith) (word_free line_end refl refl word h zs)

module _ (word : List ℕ) where
  pub line-numbers : (count : ℕ) (line : List ℕ) (zs : List ℤ) → numbers_line word count (cut comma line) ≡ some zs
      → (numbers_after word zs ≡ line) × (length zs ≡ count) × Each Short (pos 0) zs
  unfolding numbers_after
  line-numbers count line zs e =
      let read = fields_numbers word count (cut comma line) zs e in
      (ap (join comma) read.0 ∙ join-cut comma line, read.1, read.2)

  pub numbers-line : free comma word ≡ true → (zs : List ℤ) → Each Short (pos 0) zs
      → numbers_line word (length zs) (cut comma (numbers_after word zs)) ≡ some zs
  unfolding numbers_after
  numbers-line h zs short = rw (cut-join comma word (map print zs) (word_free comma refl refl word h zs)) (numbers_fields word zs short)

-- ---- `C`

pub centre_printed : (n : ℕ) (line : List ℕ) (centre : List ℤ) → centre_line n line ≡ some centre
    → (print_centre centre ≡ line) × (length centre ≡ n) × Each Short (pos 0) centre
unfolding centre_line print_centre
centre_printed n line centre e = line-numbers centre_word n line centre e

pub printed_centre : (n : ℕ) (centre : List ℤ) → length centre ≡ n → Each Short (pos 0) centre → centre_line n (print_centre centre) ≡ some centre
unfolding centre_line print_centre free
printed_centre n centre many short = rw (← many) (numbers-line centre_word refl centre short)

pub centre_free : (centre : List ℤ) → free line_end (print_centre centre) ≡ true
unfolding print_centre free
centre_free centre = after_free centre_word refl centre

-- ---- `R`

pub record ResultWithin (r : Result) : Type 0 where
  pub radius_short : Short r.scaled_squared_radius
  pub floor_short : Short r.scaled_lower_bound
  pub moves_most : r.moves ≤ budget_limit

letter_same : (letter : List ℕ) (stated settled : Bool) → same letter (letter_of stated) ≡ true → some stated ≡ some settled
    → letter ∷ [] ≡ letter_of settled ∷ []
letter_same letter stated settled h read =
    let is : stated ≡ settled = cc in
    rw (← is) (ap (λ (l : List ℕ). l ∷ []) (same_eq letter (letter_of stated) h))

ending_letter : (fields : List (List ℕ)) (settled : Bool) → ending_of fields ≡ some settled → fields ≡ letter_of settled ∷ []
ending_letter [] settled e = unlike e
ending_letter (letter ∷ []) settled e = first (same letter settled_letter) refl e
  where
    first : (t : Bool) → same letter settled_letter ≡ t → cond t (some true) (cond (same letter budget_letter) (some false) none) ≡ some settled
        → letter ∷ [] ≡ letter_of settled ∷ []
    first true h read = letter_same letter true settled h read
    first false h read =
        let test = cond_some (same letter budget_letter) read in
        letter_same letter false settled test.0 test.1
ending_letter (letter ∷ next ∷ fields) settled e = unlike e

letter_ending : (settled : Bool) → ending_of (letter_of settled ∷ []) ≡ some settled
unfolding same
letter_ending true = refl
letter_ending false = refl

moves_number : (z : ℤ) (moves : ℕ) → moves_of z ≡ some moves → (pos moves ≡ z) × (moves ≤ budget_limit)
moves_number (pos n) moves e =
    let test = cond_some (leb n budget_limit) e in
    let is : n ≡ moves = cc test.1 in
    rw (← is) (refl, leb-true n budget_limit test.0)
moves_number (negsuc k) moves e = unlike e

result_with_lem : (M L : ℤ) (moves : Option ℕ) (ending : Option Bool) (r : Result) → result_with M L moves ending ≡ some r
    → (r.scaled_squared_radius ≡ M) × (r.scaled_lower_bound ≡ L) × (moves ≡ some r.moves) × (ending ≡ some r.settled)
result_with_lem M L none ending r e = unlike e
result_with_lem M L (some moves) none r e = unlike e
result_with_lem M L (some moves) (some settled) r e =
    let made : record { scaled_squared_radius = M; scaled_lower_bound = L; moves = moves; settled = settled } ≡ r = cc in
    rw (← made) (refl, refl, refl, refl)

result_numbers : Result → List ℤ
result_numbers r = r.scaled_squared_radius ∷ r.scaled_lower_bound ∷ pos r.moves ∷ []

-- the fields after the word
numbers_result : (zs : List ℤ) (ending : Option Bool) (r : Result) → length zs ≡ 3 → Each Short (pos 0) zs → result_of (some zs) ending ≡ some r
    → (result_numbers r ≡ zs) × (ending ≡ some r.settled) × ResultWithin r
unfolding result_numbers
numbers_result [] ending r many short e = absurd (omega arith)
numbers_result (M ∷ []) ending r many short e = absurd (omega arith)
numbers_result (M ∷ L ∷ []) ending r many short e = absurd (omega arith)
numbers_result (M ∷ L ∷ z ∷ []) ending r many short e =
    let read = result_with_lem M L (moves_of z) ending r e in
    let moved = moves_number z r.moves read.2 in (
      ap₂ ◌∷◌ read.0 (ap₂ ◌∷◌ read.1 (ap (λ (y : ℤ). y ∷ []) moved.0)),
      read.3,
      record {
        radius_short = rw read.0 (short 0 (omega arith));
        floor_short = rw read.1 (short 1 (omega arith));
        moves_most = moved.1;
      },
    )
numbers_result (M ∷ L ∷ z ∷ y ∷ zs) ending r many short e = absurd (omega arith)

fields_result : (fields : List (List ℕ)) (r : Result) → result_fields fields ≡ some r
    → ((result_word ∷ map print (result_numbers r)) ++ (letter_of r.settled ∷ []) ≡ fields) × ResultWithin r
unfolding result_fields
fields_result fields r e = go (numbers_line result_word 3 (take 4 fields)) refl e
  where
    go : (o : Option (List ℤ)) → numbers_line result_word 3 (take 4 fields) ≡ o → result_of o (ending_of (drop 4 fields)) ≡ some r
        → ((result_word ∷ map print (result_numbers r)) ++ (letter_of r.settled ∷ []) ≡ fields) × ResultWithin r
    go none h read = unlike read
    go (some zs) h read =
        let numbers = fields_numbers result_word 3 (take 4 fields) zs h in
        let stated = numbers_result zs (ending_of (drop 4 fields)) r numbers.1 numbers.2 read in
        let letter = ending_letter (drop 4 fields) r.settled stated.1 in (
          ap₂ ◌++◌ (ap (λ (l : List ℤ). result_word ∷ map print l) stated.0 ∙ numbers.0) (sym letter) ∙ take-append-drop 4 fields,
          stated.2,
        )

result_joined : (r : Result) → print_result r ≡ join comma ((result_word ∷ map print (result_numbers r)) ++ (letter_of r.settled ∷ []))
unfolding print_result numbers_after result_numbers
result_joined r = sym (join_more comma result_word (letter_of r.settled) (map print (result_numbers r)))

pub result_printed : (line : List ℕ) (r : Result) → result_line line ≡ some r → (print_result r ≡ line) × ResultWithin r
unfolding result_line
result_printed line r e =
    let read = fields_result (cut comma line) r e in
    (result_joined r ∙ ap (join comma) read.0 ∙ join-cut comma line, read.1)

letter_free : (settled : Bool) → (free comma (letter_of settled) ≡ true) × (free line_end (letter_of settled) ≡ true)
unfolding free
letter_free true = (refl, refl)
letter_free false = (refl, refl)

module _ (r : Result) where
  joined_free : (c : ℕ) → is_digit c ≡ false → eqb c hyphen ≡ false → free c result_word ≡ true → free c (letter_of r.settled) ≡ true
      → all_free c ((result_word ∷ map print (result_numbers r)) ++ (letter_of r.settled ∷ [])) ≡ true
  unfolding all_free result_numbers
  joined_free c digit sign h k =
      rw (h, k, print-free c digit sign r.scaled_squared_radius, print-free c digit sign r.scaled_lower_bound, print-free c digit sign (pos r.moves))

  pub result_free : free line_end (print_result r) ≡ true
  unfolding free
  result_free =
      ap (free line_end) (result_joined r)
      ∙ join_free comma line_end ((result_word ∷ map print (result_numbers r)) ++ (letter_of r.settled ∷ [])) (λ e. omega arith)
      (joined_free line_end refl refl refl (letter_free r.settled).1)

  pub printed_result : ResultWithin r → result_line (print_result r) ≡ some r
  unfolding result_line result_fields result_numbers free
  printed_result within =
      let short : Each Short (pos 0) (result_numbers r) =
      each_cons Short (pos 0) r.scaled_squared_radius (r.scaled_lower_bound ∷ pos r.moves ∷ []) within.radius_short
      (each_cons Short (pos 0) r.scaled_lower_bound (pos r.moves ∷ []) within.floor_short
      (each_cons Short (pos 0) (pos r.moves) [] (omega (arith, within.moves_most)) (λ k h. absurd (omega arith)))) in
      ap result_fields
      (ap (cut comma) (result_joined r)
      ∙ cut-join comma result_word (map print (result_numbers r) ++ (letter_of r.settled ∷ []))
      (joined_free comma refl refl refl (letter_free r.settled).0))
      ∙ ap₂ result_of (numbers_fields result_word (result_numbers r) short) (letter_ending r.settled)
      ∙ ap (λ (moves : Option ℕ). result_with r.scaled_squared_radius r.scaled_lower_bound moves (some r.settled))
      (ap (λ (t : Bool). cond t (some r.moves) none) (le-leb r.moves budget_limit within.moves_most))

-- ---- `W`

weight_past_lem : (limit last : ℕ) (row weight : ℤ) (w : Weight) → weight_past limit last row weight ≡ some w
    → (pos w.row ≡ row) × (pos w.weight ≡ weight) × (weight_within limit last w ≡ true)
weight_past_lem limit last (pos row) (pos weight) w e =
    let test = cond_some (weight_within limit last (record { row = row; weight = weight })) e in
    let made : record { row = row; weight = weight } ≡ w = cc test.1 in
    rw (← made) (refl, refl, test.0)
weight_past_lem limit last (pos row) (negsuc k) w e = unlike e
weight_past_lem limit last (negsuc k) weight w e = unlike e

module _ (limit last : ℕ) where
  pub weight_within_lem : (w : Weight) → weight_within limit last w ≡ true → (last < w.row) × (w.row ≤ limit) × (1 ≤ w.weight)
  weight_within_lem w h =
      let tests = both (ltb last w.row && leb w.row limit) (leb 1 w.weight) h in
      let rows = both (ltb last w.row) (leb w.row limit) tests.0 in
      (ltb-true last w.row rows.0, leb-true w.row limit rows.1, leb-true 1 w.weight tests.1)

  pub within_weight : (w : Weight) → last < w.row → w.row ≤ limit → 1 ≤ w.weight → weight_within limit last w ≡ true
  within_weight w past most some_weight =
      ap₂ ◌&&◌ (ap₂ ◌&&◌ (lt-ltb last w.row past) (le-leb w.row limit most)) (le-leb 1 w.weight some_weight)

  numbers_weight : (zs : List ℤ) (w : Weight) → length zs ≡ 2 → Each Short (pos 0) zs → weight_stated limit last (some zs) ≡ some w
      → (pos w.row ∷ pos w.weight ∷ [] ≡ zs) × (weight_within limit last w ≡ true) × (w.weight < magnitude_limit)
  numbers_weight [] w many short e = absurd (omega arith)
  numbers_weight (row ∷ []) w many short e = absurd (omega arith)
  numbers_weight (row ∷ weight ∷ []) w many short e =
      let read = weight_past_lem limit last row weight w e in (
        ap₂ ◌∷◌ read.0 (ap (λ (z : ℤ). z ∷ []) read.1),
        read.2,
        subst Short (sym read.1) (short 1 (omega arith)),
      )
  numbers_weight (row ∷ weight ∷ z ∷ zs) w many short e = absurd (omega arith)

  pub weight_printed : (line : List ℕ) (w : Weight) → weight_line limit last line ≡ some w
      → (print_weight w ≡ line) × (weight_within limit last w ≡ true) × (w.weight < magnitude_limit)
  unfolding weight_line print_weight
  weight_printed line w e = go (numbers_line weight_word 2 (cut comma line)) refl e
    where
      go : (o : Option (List ℤ)) → numbers_line weight_word 2 (cut comma line) ≡ o → weight_stated limit last o ≡ some w
          → (numbers_after weight_word (pos w.row ∷ pos w.weight ∷ []) ≡ line) × (weight_within limit last w ≡ true) × (w.weight < magnitude_limit)
      go none h read = unlike read
      go (some zs) h read =
          let numbers = line-numbers weight_word 2 line zs h in
          let stated = numbers_weight zs w numbers.1 numbers.2 read in
          (ap (numbers_after weight_word) stated.0 ∙ numbers.0, stated.1, stated.2)

  pub printed_weight : limit < magnitude_limit → (w : Weight) → weight_within limit last w ≡ true → w.weight < magnitude_limit
      → weight_line limit last (print_weight w) ≡ some w
  unfolding weight_line print_weight free
  printed_weight below w within weight_short =
      let rows = weight_within_lem w within in
      let short : Each Short (pos 0) (pos w.row ∷ pos w.weight ∷ []) =
      each_cons Short (pos 0) (pos w.row) (pos w.weight ∷ []) (omega (arith, rows.1))
      (each_cons Short (pos 0) (pos w.weight) [] weight_short (λ k h. absurd (omega arith))) in
      ap (weight_stated limit last) (numbers-line weight_word refl (pos w.row ∷ pos w.weight ∷ []) short)
      ∙ ap (λ (t : Bool). cond t (some w) none) within

pub weight_free : (w : Weight) → free line_end (print_weight w) ≡ true
unfolding print_weight free
weight_free w = after_free weight_word refl (pos w.row ∷ pos w.weight ∷ [])
