-- The lines of a record that are read field by field: a word and numbers, and the `C` line.
--     number_read_lem                                 a field from what is kept of a number
--     number_none, number_some                    what an answer to a field says of it
--     numbers_first k fields                       the numbers of the first k fields, if there are so many
--     NumbersSoFar, numbers_none, numbers_next_lem    the numbers of a line as they are read
--     numbers_other, numbers_few, numbers-stop    what stops their walk: another word, a missing field, one that is no number
--     numbers_done                                what it ends with
--     numbers_no, numbers_no_line, numbers_some   whether a line starts with a word and numbers
--     numbers-held                                what the machine reads of them in the lent places
--     numbers-rest                                the fields after them
--     ends_at next length                         whether the numbers end where a line of so many bytes does
--     numbers-end, numbers_no_end                 a line that ends with them, and one that does not
--     centre_read                                 a `C` line
use Prim.Native.Nat.{ℕ, zero, suc, ◌+◌, ◌-◌, ◌≤◌, ◌<◌}
use mathlib.Core.Path.{◌≡◌, refl, sym, ap, ap₂, ◌∙◌}
use mathlib.Core.Bool.{Bool, true, false, cond, ◌&&◌, and-false}
use mathlib.Core.List.{List, [], ◌∷◌, ◌++◌, map, append-nil, append_assoc, map-append}
use mathlib.Core.Option
use mathlib.Core.Option.{Option, none, some}
use Rattle.std.specs.Prelude.{Option as Answer, None, Some}
use Rattle.std.specs.Option.{option_eq}
use native.Mathlib.Numerals.{add-one}
use native.Mathlib.Omega.{arith}
use borrow.Author.Tests.{leb-true, leb-false, eqb-true, eqb-false, ltb-true, ltb-false, le-ltb, eq-eqb, ne_eqb}
use lib.Dec.{eqb, leb, ltb, eqb-zero-suc, eqb-suc-suc}
use lib.IntN.{ℤ, pos, negsuc, nat_abs}
use lib.ListN.{length, get_or, set, take, drop, length-append, length-set, length-map, length-take, length-drop, get_or-append, get_or-map}
use lib.Seq.{drop-cons, set_at, take_all}
use mir.Syntax.{w64}
use mir.Facts.{to_z-of_z}
use Rattle.integers.specs.Reading.{back}
use Rattle.integers.specs.Tests.{impossible, cond_same, cond_some}
use Rattle.lists.specs.Gathered.{gathered_none, gathered_next}
use Rattle.text.specs.Parts.{comma, cut, same, part_end, parts_from, part_start}
use Rattle.text.specs.Clauses.{PartEnd}
use Rattle.text.specs.PartsLaws.{parts_none, parts_some, parts_from_lem, first_part_from, part-start, part_start_most}
use Rattle.number.specs.Number.{plain, print}
use Rattle.number.specs.Clauses.{magnitude_limit, saturated, number_of, plain_read}
use Rattle.number.specs.ContractLaws.{saturated_small}
use Rattle.record_lines.specs.Lines.{short_number, record_number, and_number, numbers_of, numbers_line, centre_word, centre_line}
use Rattle.record_lines.specs.LinesLaws.{fields_numbers}
use Rattle.record_lines.specs.Clauses.{held_signed, held, kept_number, number_read, next_of, numbers_starting, numbers_next, NumbersRead, is_there, CentreRead}
use Rattle.record_lines.specs.ContractLaws.{held_fits}

-- ---- one field

pub number_read_lem : (field : List ℕ) → kept_number (plain_read (plain field)) ≡ number_read (record_number field)
unfolding record_number
number_read_lem field = go (plain field)
  where
    -- whatever its sign
    kept : (z : ℤ) (negative : Bool) → plain_read (some z) ≡ Some (number_of negative (saturated (nat_abs z))) → held z ≡ held_signed negative (nat_abs z)
        → (t : Bool) → ltb (nat_abs z) magnitude_limit ≡ t → kept_number (plain_read (some z)) ≡ number_read (short_number (some z))
    kept z negative p h true e =
        ap kept_number (p ∙ ap (λ k. Some (number_of negative k)) (saturated_small (nat_abs z) (ltb-true (nat_abs z) magnitude_limit e))) ∙ ap₂ (λ t y. cond t (Some y) None) e (sym h)
        ∙ sym (ap (λ t. number_read (cond t (some z) none)) e)
    kept z negative p h false e =
        let k : ltb (saturated (nat_abs z)) magnitude_limit ≡ false =
        le-ltb (saturated (nat_abs z)) magnitude_limit (omega (arith, ltb-false (nat_abs z) magnitude_limit e)) in
        ap kept_number p ∙ ap (λ t. cond t (Some (held_signed negative (saturated (nat_abs z)))) None) k
        ∙ sym (ap (λ t. number_read (cond t (some z) none)) e)

    go : (o : Option ℤ) → kept_number (plain_read o) ≡ number_read (short_number o)
    go none = refl
    go (some (pos k)) = kept (pos k) false refl refl (ltb k magnitude_limit) refl
    go (some (negsuc k)) = kept (negsuc k) true refl refl (ltb (suc k) magnitude_limit) refl

module _ (field : List ℕ) where
  pub number_none : None ≡ number_read (record_number field) → record_number field ≡ none
  number_none h = go (record_number field) h
    where
      go : (o : Option ℤ) → None ≡ number_read o → o ≡ none
      go none h = refl
      go (some z) h = impossible (cc)

  pub number_some : (x : ℤ) → Some x ≡ number_read (record_number field) → (z : ℤ) × (record_number field ≡ some z) × (x ≡ held z)
  number_some x h = go (record_number field) refl h
    where
      go : (o : Option ℤ) → record_number field ≡ o → Some x ≡ number_read o → (z : ℤ) × (record_number field ≡ some z) × (x ≡ held z)
      go none e h = impossible (cc)
      go (some z) e h = (z, e, cc)

-- ---- the numbers of a line

-- the numbers of the first k fields, if there are so many
unfoldable pub numbers_first : ℕ → List (List ℕ) → Option (List ℤ)
numbers_first zero fields = some []
numbers_first (suc k) [] = none
numbers_first (suc k) (field ∷ fields) = and_number (record_number field) (numbers_first k fields)

first_numbers : (k : ℕ) (fields : List (List ℕ)) → cond (eqb (length (take k fields)) k) (numbers_of (take k fields)) none ≡ numbers_first k fields
unfolding numbers_first numbers_of
first_numbers zero fields = refl
first_numbers (suc k) [] = ap (λ t. cond t (some []) none) (eqb-zero-suc k)
first_numbers (suc k) (field ∷ fields) =
    ap (λ t. cond t (and_number (record_number field) (numbers_of (take k fields))) none) (eqb-suc-suc (length (take k fields)) k)
    ∙ go (eqb (length (take k fields)) k) (record_number field) (numbers_of (take k fields))
    ∙ ap (and_number (record_number field)) (first_numbers k fields)
  where
    go : (t : Bool) (o : Option ℤ) (zs : Option (List ℤ)) → cond t (and_number o zs) none ≡ and_number o (cond t zs none)
    go true o zs = refl
    go false none zs = refl
    go false (some z) zs = refl

module _ (word : List ℕ) (count : ℕ) (line : List ℕ) where
  starting : (first : List ℕ) (fields : List (List ℕ)) → cut comma line ≡ first ∷ fields
      → numbers_starting word count line ≡ cond (same first word) (numbers_first count fields) none
  unfolding numbers_line
  starting first fields e =
      ap (λ l. numbers_line word count (take (suc count) l)) e
      ∙ ap (λ t. cond (same first word && t) (numbers_of (take count fields)) none) (eqb-suc-suc (length (take count fields)) count)
      ∙ go (same first word) ∙ ap (λ o. cond (same first word) o none) (first_numbers count fields)
    where
      go : (t : Bool) → cond (t && eqb (length (take count fields)) count) (numbers_of (take count fields)) none
          ≡ cond t (cond (eqb (length (take count fields)) count) (numbers_of (take count fields)) none) none
      go true = refl
      go false = refl

-- before turn i of the walk over count numbers: each field so far is one, the numbers of all are they with those of the fields
-- from here on, and they stand in the first places
pub record NumbersSoFar (word : List ℕ) (count : ℕ) (line : List ℕ) (lent₀ lent : List ℤ) (from i : ℕ) : Type 0 where
  pub numbers : List ℤ
  pub passed : length numbers ≡ i
  pub within : i ≤ count
  pub here : from ≡ part_start comma line 0 (i + 1)
  pub continues : numbers_starting word count line
      ≡ Option.map (λ (l : List ℤ). numbers ++ l) (numbers_first (count - i) (parts_from comma line from))
  pub same_length : length lent ≡ length lent₀
  pub placed : lent ≡ map held numbers ++ drop i lent₀

not_numbers : {word : List ℕ} {count : ℕ} {line : List ℕ} {lent₀ lent : List ℤ} → numbers_starting word count line ≡ none → length lent ≡ length lent₀
    → NumbersRead word count line lent₀ lent None
unfolding numbers_next
not_numbers {word} {count} {line} e l =
    record {
      is = sym (ap (λ o. next_of o (part_start comma line 0 (suc count))) e);
      same_length = l;
      written = λ zs u. impossible (cc);
    }

-- the word is the first field
module _ {word : List ℕ} {count : ℕ} {line : List ℕ} {lent₀ : List ℤ} {e : ℕ} (f : PartEnd comma line 0 e) where
  pub numbers_other : same (take e line) word ≡ false → NumbersRead word count line lent₀ lent₀ None
  numbers_other h =
      not_numbers
      (starting word count line (take e line) (parts_from comma line (e + 1)) (first_part_from comma line e f)
      ∙ ap (λ t. cond t (numbers_first count (parts_from comma line (e + 1))) none) h) refl

  pub numbers_none : same (take e line) word ≡ true → NumbersSoFar word count line lent₀ lent₀ (e + 1) 0
  unfolding part_start
  numbers_none h =
      let k : count ≡ count - 0 = omega arith in
      record {
        numbers = [];
        passed = refl;
        within = omega arith;
        here = add-one e ∙ ap suc f.is;
        continues =
            starting word count line (take e line) (parts_from comma line (e + 1)) (first_part_from comma line e f)
            ∙ ap₂ (λ t k. cond t (numbers_first k (parts_from comma line (e + 1))) none) h k
            ∙ gathered_none (numbers_first (count - 0) (parts_from comma line (e + 1)));
        same_length = refl;
        placed = refl;
      }

module _ {word : List ℕ} {count : ℕ} {line : List ℕ} {lent₀ lent : List ℤ} {from i : ℕ}
    (f : NumbersSoFar word count line lent₀ lent from i) where
  -- the fields from here on, in a turn
  turn : (fields : List (List ℕ)) → parts_from comma line from ≡ fields → i < count
      → numbers_starting word count line ≡ Option.map (λ (l : List ℤ). f.numbers ++ l) (numbers_first (suc (count - (i + 1))) fields)
  turn fields e h =
      let k : count - i ≡ suc (count - (i + 1)) = omega arith in
      f.continues ∙ ap₂ (λ k l. Option.map (λ (l : List ℤ). f.numbers ++ l) (numbers_first k l)) k e

  pub numbers_few : i < count → length line < from → NumbersRead word count line lent₀ lent None
  unfolding numbers_first
  numbers_few h k = not_numbers (turn [] (parts_none comma line from k) h) f.same_length

  module _ {e : ℕ} (h : i < count) (within : from ≤ length line) (end : PartEnd comma line from e) where
    pub numbers-stop : record_number (take (e - from) (drop from line)) ≡ none → NumbersRead word count line lent₀ lent None
    unfolding numbers_first
    numbers-stop k =
        not_numbers
        (turn _ (parts_from_lem comma line from e within end) h
        ∙ ap (λ o. Option.map (λ (l : List ℤ). f.numbers ++ l) (and_number o (numbers_first (count - (i + 1)) (parts_from comma line (e + 1))))) k)
        f.same_length

    pub numbers_next_lem : {z x : ℤ} {lent' : List ℤ} → record_number (take (e - from) (drop from line)) ≡ some z → x ≡ held z → i < length lent₀
        → lent' ≡ set lent i x → NumbersSoFar word count line lent₀ lent' (e + 1) (i + 1)
    unfolding numbers_first part_start
    numbers_next_lem {z} {x} k r b l =
        let zs = map held f.numbers in
        record {
          numbers = f.numbers ++ (z ∷ []);
          passed = length-append f.numbers (z ∷ []) ∙ omega (arith, f.passed);
          within = omega arith;
          here = add-one e ∙ ap suc (end.is ∙ ap (part_end comma line) f.here) ∙ ap (part_start comma line 0) (sym (add-one (i + 1)));
          continues =
              turn _ (parts_from_lem comma line from e within end) h
              ∙ ap (λ o. Option.map (λ (l : List ℤ). f.numbers ++ l) (and_number o (numbers_first (count - (i + 1)) (parts_from comma line (e + 1))))) k
              ∙ gathered_next f.numbers z (numbers_first (count - (i + 1)) (parts_from comma line (e + 1)));
          same_length = ap length l ∙ length-set lent i x ∙ f.same_length;
          placed =
              l ∙ ap (λ l. set l i x) (f.placed ∙ ap (λ l. zs ++ l) (drop-cons lent₀ i x b))
              ∙ set_at zs (get_or lent₀ i x) (drop (suc i) lent₀) x i (length-map f.numbers held ∙ f.passed)
              ∙ ap₂ (λ y j. zs ++ (y ∷ drop j lent₀)) r (sym (add-one i))
              ∙ sym (append_assoc zs (held z ∷ []) (drop (i + 1) lent₀))
              ∙ ap (λ l. l ++ drop (i + 1) lent₀) (sym (map-append held f.numbers (z ∷ [])));
        }

  pub numbers_done : count ≤ i → NumbersRead word count line lent₀ lent (Some from)
  unfolding numbers_first numbers_next
  numbers_done h =
      let n : i ≡ count = omega (arith, f.within) in
      let k : count - i ≡ 0 = omega arith in
      let all : numbers_starting word count line ≡ some f.numbers =
      f.continues ∙ ap (λ k. Option.map (λ (l : List ℤ). f.numbers ++ l) (numbers_first k (parts_from comma line from))) k
      ∙ ap some (append-nil f.numbers) in
      record {
        is =
            ap Some (f.here ∙ ap (part_start comma line 0) (add-one i ∙ ap suc n))
            ∙ sym (ap (λ o. next_of o (part_start comma line 0 (suc count))) all);
        same_length = f.same_length;
        written = λ zs u.
            let v : f.numbers ≡ zs = cc (all) in
            f.placed ∙ ap₂ (λ l j. map held l ++ drop j lent₀) v n;
      }

-- ---- the end of the numbers

module _ (word : List ℕ) (count : ℕ) (line : List ℕ) (zs : List ℤ) (e : numbers_starting word count line ≡ some zs) where
  -- a line that starts with a word and numbers has that many numbers
  start-count : length zs ≡ count
  start-count = (fields_numbers word count (take (suc count) (cut comma line)) zs e).1

  -- it ends with them where its fields are no more
  start-end : eqb (part_start comma line 0 (suc count)) (length line + 1) ≡ eqb (length (cut comma line)) (suc count)
  start-end = go (leb at (length line)) refl
    where
      fields : List (List ℕ)
      fields = cut comma line

      at : ℕ
      at = part_start comma line 0 (suc count)

      enough : suc count ≤ length fields
      enough =
          omega (
            arith,
            ap length (fields_numbers word count (take (suc count) fields) zs e).0,
            length-map zs print,
            start-count,
            length-take (suc count) fields,
          )

      go : (t : Bool) → leb at (length line) ≡ t → eqb at (length line + 1) ≡ eqb (length fields) (suc count)
      go true t =
          let h = leb-true at (length line) t in
          let more = parts_some comma line at h in
          let n : length (drop (suc count) fields) ≡ suc (length more.1) = ap length (sym (part-start comma line (suc count)) ∙ more.2) in
          ne_eqb at (length line + 1) (λ k. omega arith)
          ∙ sym (ne_eqb (length fields) (suc count) (λ k. omega (arith, length-drop (suc count) fields)))
      go false t =
          let h = leb-false at (length line) t in
          let n : length (drop (suc count) fields) ≡ 0 = ap length (sym (part-start comma line (suc count)) ∙ parts_none comma line at h) in
          eq-eqb at (length line + 1) (omega (arith, part_start_most comma line (suc count) enough))
          ∙ sym (eq-eqb (length fields) (suc count) (omega (arith, enough, length-drop (suc count) fields)))

-- whether the numbers end where a line of so many bytes does
abbrev pub ends_at : Answer ℕ → ℕ → Bool
ends_at next length = option_eq eqb next (Some (length + 1))

-- a line is a word and numbers where it starts with them and ends there
numbers_whole : (word : List ℕ) (count : ℕ) (line : List ℕ)
    → numbers_line word count (cut comma line) ≡ cond (ends_at (numbers_next word count line) (length line)) (numbers_starting word count line) none
unfolding numbers_next numbers_line
numbers_whole word count line = whole (eqb (length (cut comma line)) (suc count)) refl ∙ sym (ends (numbers_starting word count line) refl)
  where
    whole : (t : Bool) → eqb (length (cut comma line)) (suc count) ≡ t
        → numbers_line word count (cut comma line) ≡ cond (eqb (length (cut comma line)) (suc count)) (numbers_starting word count line) none
    whole true e =
        ap (numbers_line word count)
        (sym (take_all (suc count) (cut comma line) (omega (arith, eqb-true (length (cut comma line)) (suc count) e))))
        ∙ sym (ap (λ t. cond t (numbers_starting word count line) none) e)
    whole false e =
        let first = same (get_or (cut comma line) 0 []) word in
        ap (λ t. cond (first && t) (numbers_of (drop 1 (cut comma line))) none) e
        ∙ ap (λ t. cond t (numbers_of (drop 1 (cut comma line))) none) (and-false first)
        ∙ sym (ap (λ t. cond t (numbers_starting word count line) none) e)

    ends : (o : Option (List ℤ)) → numbers_starting word count line ≡ o
        → cond (ends_at (next_of o (part_start comma line 0 (suc count))) (length line)) o none ≡ cond (eqb (length (cut comma line)) (suc count)) o none
    ends none e = sym (cond_same (eqb (length (cut comma line)) (suc count)) none)
    ends (some zs) e = ap (λ t. cond t (some zs) none) (start-end word count line zs e)

module _ {word : List ℕ} {count : ℕ} {line : List ℕ} {lent₀ lent : List ℤ} where
  pub numbers_no : NumbersRead word count line lent₀ lent None → numbers_starting word count line ≡ none
  unfolding numbers_next
  numbers_no f = go (numbers_starting word count line) f.is
    where
      go : (o : Option (List ℤ)) → None ≡ next_of o (part_start comma line 0 (suc count)) → o ≡ none
      go none e = refl
      go (some zs) e = impossible (cc)

  pub numbers_no_line : NumbersRead word count line lent₀ lent None → numbers_line word count (cut comma line) ≡ none
  numbers_no_line f =
      numbers_whole word count line ∙ ap (λ a. cond (ends_at a (length line)) (numbers_starting word count line) none) (sym f.is)

  module _ {next : ℕ} (f : NumbersRead word count line lent₀ lent (Some next)) where
    pub numbers_some : (zs : List ℤ) × (numbers_starting word count line ≡ some zs) × (next ≡ part_start comma line 0 (suc count))
    unfolding numbers_next
    numbers_some = go (numbers_starting word count line) f.is
      where
        go : (o : Option (List ℤ)) → Some next ≡ next_of o (part_start comma line 0 (suc count))
            → (zs : List ℤ) × (o ≡ some zs) × (next ≡ part_start comma line 0 (suc count))
        go none e = impossible (cc)
        go (some zs) e = (zs, refl, cc)

    -- what the machine reads in the first places
    pub numbers-held : (k : ℕ) → k < count → back w64 (get_or lent k (pos 0)) ≡ held (get_or numbers_some.0 k (pos 0))
    numbers-held k h =
        let zs = numbers_some.0 in
        ap (λ l. back w64 (get_or l k (pos 0))) (f.written zs numbers_some.1)
        ∙ ap (back w64)
        (get_or-append (map held zs) (drop count lent₀) (pos 0) k (omega (arith, length-map zs held, start-count word count line zs numbers_some.1))
        ∙ get_or-map held zs k (pos 0))
        ∙ to_z-of_z (held_fits (get_or zs k (pos 0)))

    pub numbers-rest : parts_from comma line next ≡ drop (suc count) (cut comma line)
    numbers-rest = ap (parts_from comma line) numbers_some.2 ∙ part-start comma line (suc count)

    pub numbers-end : next ≡ length line + 1 → numbers_line word count (cut comma line) ≡ some numbers_some.0
    numbers-end h =
        numbers_whole word count line
        ∙ ap₂ (λ t o. cond t o none) (ap (λ a. ends_at a (length line)) (sym f.is) ∙ eq-eqb next (length line + 1) h) numbers_some.1

    pub numbers_no_end : (next ≡ length line + 1 → ⊥) → numbers_line word count (cut comma line) ≡ none
    numbers_no_end h =
        numbers_whole word count line
        ∙ ap (λ t. cond t (numbers_starting word count line) none)
        (ap (λ a. ends_at a (length line)) (sym f.is) ∙ ne_eqb next (length line + 1) h)

-- ---- a `C` line

pub centre_read : {n : ℕ} {line : List ℕ} {lent₀ lent : List ℤ} {next : Answer ℕ} → NumbersRead centre_word n line lent₀ lent next
    → CentreRead n line lent₀ lent (ends_at next (length line))
unfolding centre_line
centre_read {n} {line} {lent₀} {lent} {next} f =
    record {
      is = go next f (ends_at next (length line)) refl;
      same_length = f.same_length;
      written = λ zs u.
          f.written zs (cond_some (ends_at (numbers_next centre_word n line) (length line)) (sym (numbers_whole centre_word n line) ∙ u)).1;
    }
  where
    go : (a : Answer ℕ) → NumbersRead centre_word n line lent₀ lent a → (t : Bool) → ends_at a (length line) ≡ t
        → ends_at a (length line) ≡ is_there (numbers_line centre_word n (cut comma line))
    go None g t e = sym (ap is_there (numbers_no_line g))
    go (Some next) g true e = e ∙ sym (ap is_there (numbers-end g (eqb-true next (length line + 1) e)))
    go (Some next) g false e = e ∙ sym (ap is_there (numbers_no_end g (eqb-false next (length line + 1) e)))
