-- The first field of a line as a label, byte by byte.
--     first_field line                 the first field of a line
--     Labelling line i key            what holds past i bytes of a label, key being their number
--     label-start, label_next         before the first byte, and past one more
--     label_ends                      the field ends past these bytes: key is its number
--     label_long, label-stop          it does not, for bytes that are too many, or by a byte that is no label's: it is no label
--     label_ended                     what is answered for it
--     field_label, field_no_label     it is a label where its number is not 0, and only there
--     found_label, found_no_label     so is a field of which a number is found, or none
--     found_row_key, found_no_row_key the number that is found of a row's label
--     label-comma, label_whole        a field with a comma in it is no label; one without is its first field
use Rattle.std.specs.Prelude.{ℕ, zero, suc, ◌+◌, ◌*◌, ◌^◌, ◌≤◌, ◌<◌, ◌≡◌, refl, Bool, true, false, cond, List, eqb, leb, length, get_or, take, drop}
use Rattle.std.specs.Prelude.{Option as Answer, None, Some}
use Rattle.std.proofs.Common.{zero-le, sym, ap, ◌∙◌, arith, eqb-true, le-leb, leb-false, length-take-le, get_or-take}
use borrow.Author.Tests.{eqb-false}
use Rattle.std.proofs.lemmas.Bool.{lt-leb}
use Rattle.std.proofs.Math.Seq.{take-length}
use Rattle.text.specs.Parts.{comma, part_end}
use Rattle.text.specs.Clauses.{PartEnd}
use Rattle.text.specs.PartsLaws.{part_end_lem, end_next, free-end}
use Rattle.integers.specs.Tests.{clash, impossible}
use Rattle.limits.specs.Limits.{label_limit}
use Rattle.label.specs.Label.{is_label}
use Rattle.label.specs.Key.{key_base, label_digit, key_from, label_key}
use Rattle.label.specs.RowLabel.{row_label_key}
use Rattle.label.specs.LabelLaws.{digit_most, key_long, key_short, key_none, key_stop, key_further, key_done, digit_below, key_label, label-free}
use Rattle.number.specs.Clauses.{above_zero}
use Rattle.label.specs.Clauses.{FirstFieldRead, label_found, row_label_found}

abbrev pub first_field : List ℕ → List ℕ
first_field line = take (part_end comma line 0) line

-- the field ends where it does from here on, and its number is that of the bytes from here on after these
pub record Labelling (line : List ℕ) (i key : ℕ) : Type 0 where
  pub inside : i ≤ length line
  pub end : part_end comma line i ≡ part_end comma line 0
  pub below : key < key_base ^ i
  pub is : key_from (first_field line) 0 ≡ key_from (drop i (first_field line)) key

pub label-start : (line : List ℕ) → Labelling line 0 0
label-start line = record { inside = zero-le; end = refl; below = omega arith; is = refl }

module _ (line : List ℕ) (i key : ℕ) (s : Labelling line i key) where
  field_length : length (first_field line) ≡ part_end comma line 0
  field_length = length-take-le (part_end comma line 0) line (part_end_lem comma line 0 zero-le).high

  module _ (d : ℕ) (h : i < length line) (e : d ≡ label_digit (get_or line i 0)) where
    -- the digit of a byte of the field
    digit_here : i < part_end comma line 0 → d ≡ label_digit (get_or (first_field line) i 0)
    digit_here l = e ∙ ap label_digit (sym (get_or-take (part_end comma line 0) line i 0 l))

    pub label_next : (d ≡ 0 → ⊥) → Labelling line (i + 1) (key * key_base + d)
    label_next some =
        let on = end_next comma line i h (λ c. some (e ∙ ap label_digit c)) in
        let within : i < part_end comma line 0 = omega (arith, (part_end_lem comma line (i + 1) (omega arith)).low, on, s.end) in
        record {
          inside = omega arith;
          end = on ∙ s.end;
          below = digit_below key i d s.below (omega (arith, e, digit_most (get_or line i 0)));
          is = s.is ∙ key_further (first_field line) i key d (omega (arith, field_length)) (digit_here within) some;
        }

  module _ (f : ℕ) (p : PartEnd comma line i f) where
    first : PartEnd comma line 0 f
    first = record { is = p.is ∙ s.end; low = zero-le; high = p.high }

    of_field : {k : ℕ} → k ≡ label_key (first_field line) → FirstFieldRead label_key line k f
    of_field e = record { part = first; is = e ∙ ap (λ n. label_key (take n line)) (sym first.is) }

    pub label_ends : f ≡ i → i ≤ label_limit → FirstFieldRead label_key line key f
    label_ends same short =
        of_field (sym (key_short (first_field line) (le-leb (length (first_field line)) label_limit (omega (arith, field_length, first.is)))
        ∙ s.is ∙ key_done (first_field line) i key (omega (arith, field_length, first.is))))

    pub label_long : label_limit ≤ i → (f ≡ i → ⊥) → FirstFieldRead label_key line 0 f
    label_long full other =
        of_field (sym (key_long (first_field line) (lt-leb (length (first_field line)) label_limit (omega (arith, field_length, first.is, p.low)))))

    pub label-stop : (d : ℕ) → i < length line → d ≡ label_digit (get_or line i 0) → d ≡ 0 → (f ≡ i → ⊥) → FirstFieldRead label_key line 0 f
    label-stop d h e none other =
        let within : i < part_end comma line 0 = omega (arith, first.is, p.low) in
        of_field (sym (key_none (first_field line)
        (s.is ∙ key_stop (first_field line) i key d (omega (arith, field_length)) (digit_here d h e within) none)))

    -- what is answered for it
    pub label_ended : (r : Answer ℕ) → i ≤ label_limit → ((f ≡ i → ⊥) → FirstFieldRead label_key line 0 f)
        → r ≡ cond (eqb f i) (above_zero key) None → FirstFieldRead label_found line r f
    label_ended r short other is = go (eqb f i) refl
      where
        go : (t : Bool) → eqb f i ≡ t → FirstFieldRead label_found line r f
        go true e =
            let read = label_ends (eqb-true f i e) short in
            record { part = read.part; is = is ∙ ap (λ t. cond t (above_zero key) None) e ∙ ap above_zero read.is }
        go false e =
            let read = other (eqb-false f i e) in
            record { part = read.part; is = is ∙ ap (λ t. cond t (above_zero key) None) e ∙ ap above_zero read.is }

-- ---- whether it is one

module _ (line : List ℕ) (key end : ℕ) (read : FirstFieldRead label_key line key end) where
  by_key : (t : Bool) → leb 1 key ≡ t → is_label (take end line) ≡ t
  by_key t h = sym (key_label (take end line)) ∙ ap (leb 1) (sym read.is) ∙ h

  pub field_label : (key ≡ 0 → ⊥) → is_label (take end line) ≡ true
  field_label some = by_key true (le-leb 1 key (omega arith))

  pub field_no_label : key ≡ 0 → is_label (take end line) ≡ false
  field_no_label none = by_key false (ap (leb 1) none)

-- the number that is found is the label's
found_key : (n : ℕ) {key : ℕ} → Some key ≡ above_zero n → (n ≡ key) × (key ≡ 0 → ⊥)
found_key zero e = impossible (cc)
found_key (suc k) {key} e = let is : suc k ≡ key = cc in (is, λ z. omega arith)

no_key : (n : ℕ) → None ≡ above_zero n → n ≡ 0
no_key zero e = refl
no_key (suc k) e = impossible (cc)

module _ {line : List ℕ} {end : ℕ} where
  pub found_label : {key : ℕ} → FirstFieldRead label_found line (Some key) end → is_label (take end line) ≡ true
  found_label {key} read =
      let found = found_key (label_key (take end line)) read.is in
      field_label line key end (record { part = read.part; is = sym found.0 }) found.1

  pub found_no_label : FirstFieldRead label_found line None end → is_label (take end line) ≡ false
  found_no_label read = field_no_label line 0 end (record { part = read.part; is = sym (no_key (label_key (take end line)) read.is) }) refl

  pub found_row_key : {key : ℕ} → FirstFieldRead row_label_found line (Some key) end → (key ≡ row_label_key (take end line)) × (key ≡ 0 → ⊥)
  found_row_key read =
      let found = found_key (row_label_key (take end line)) read.is in
      (sym found.0, found.1)

  pub found_no_row_key : FirstFieldRead row_label_found line None end → row_label_key (take end line) ≡ 0
  found_no_row_key read = no_key (row_label_key (take end line)) read.is

-- ---- a field by itself

module _ (f : List ℕ) (e : ℕ) (p : PartEnd comma f 0 e) where
  pub label-comma : e < length f → label_key f ≡ 0
  label-comma h = go (is_label f) refl
    where
      go : (t : Bool) → is_label f ≡ t → label_key f ≡ 0
      go true l = clash (label-free comma f refl l) ((free-end comma f e p).1 h)
      go false l = let none = leb-false 1 (label_key f) (key_label f ∙ l) in omega arith

  pub label_whole : length f ≤ e → label_key (take e f) ≡ label_key f
  label_whole h =
      let whole : e ≡ length f = omega (arith, p.high) in
      ap (λ n. label_key (take n f)) whole ∙ ap label_key (take-length f)
