-- Laws of the number that the code keeps.
--     saturated_small                            a number below 10^19 is kept as it is
--     above_zero_some                            a number that is not 0 stands for itself
--     saturated-grown                            one digit more, after what is kept or after the number itself
--     digits_saturated                           what the digits make after a number depends on what is kept of it
--     digits_end, digits_more                    the digits from an index on: none, and one more
--     unsigned_ends                              where a field ends that starts with digits
--     unsigned_other, -empty, -zero, -whole      such a field as a number without a sign
--     with_sign_lem, minus_zero                      a number with its sign
--     plain_led, plain_other                     a field as a plain number, by what is read after its hyphen, or of all of it where it has none
--     field_whole, field_parted                  a field by itself, without a comma and with one
use Rattle.std.specs.Prelude.{ℕ, zero, suc, ◌+◌, ◌-◌, ◌*◌, ◌≤◌, ◌<◌, ◌≡◌, refl, Bool, true, false, cond, ◌&&◌, eqb, leb, ℤ, pos, get_or, drop}
use Rattle.std.specs.Prelude.{Option as Answer, None, Some}
use Rattle.std.proofs.Common.{sym, ◌∙◌, subst, eq-eqb, ne_eqb, leb-true, leb-false, take_all}
use Rattle.std.proofs.Math.Path.{ap}
use mathlib.Core.List.{List, [], ◌∷◌, ◌++◌}
use Rattle.std.proofs.Math.Option.{Option, none, some, map}
use native.Mathlib.Omega.{arith}
use Rattle.std.proofs.Math.ListN.{length}
use Rattle.integers.specs.Tests.{clash, cond_same}
use Rattle.text.specs.Parts.{comma, free}
use Rattle.text.specs.Fields.{starts_with, leading}
use Rattle.text.specs.Clauses.{PartEnd, FieldRead}
use Rattle.text.specs.PartsLaws.{part_at, free-end}
use Rattle.text.specs.FieldsLaws.{field_length, field_first, leading_on, leading_done, leading_end, leading_whole, leading_stopped}
use Rattle.number.specs.Number.{hyphen, digit_zero, is_digit, digits_from, magnitude_of, negated, plain}
use Rattle.number.specs.NumberLaws.{digit_step, digit_none, magnitude_empty, magnitude_zero, magnitude_one, magnitude_first, plain-signed, plain_unsigned, print-plain, print-free}
use Rattle.number.specs.Clauses.{magnitude_limit, saturated, grown, magnitude_read, plain_read, above_zero, unsigned_field, plain_field, with_sign, number_of, LeadingDigits}
use Rattle.number.specs.declared.Number.{Number}

pub saturated_small : (n : ℕ) → n < magnitude_limit → saturated n ≡ n
saturated_small n h = omega arith

pub saturated-grown : (n d : ℕ) → saturated (saturated n * 10 + d) ≡ saturated (n * 10 + d)
saturated-grown n d = omega arith

pub above_zero_some : (n : ℕ) → (n ≡ 0 → ⊥) → above_zero n ≡ Some n
above_zero_some zero h = absurd (h refl)
above_zero_some (suc k) h = refl

-- ---- digits

pub digits_saturated : (l : List ℕ) (n : ℕ) → magnitude_read (digits_from l n) ≡ magnitude_read (digits_from l (saturated n))
unfolding digits_from
digits_saturated [] n = let e : saturated n ≡ saturated (saturated n) = omega arith in ap Some e
digits_saturated (b ∷ l) n = go (is_digit b) refl (digits_saturated l (n * 10 + (b - digit_zero))) (digits_saturated l (saturated n * 10 + (b - digit_zero)))
  where
    go : (t : Bool) → is_digit b ≡ t →
        magnitude_read (digits_from l (n * 10 + (b - digit_zero))) ≡ magnitude_read (digits_from l (saturated (n * 10 + (b - digit_zero)))) →
        magnitude_read (digits_from l (saturated n * 10 + (b - digit_zero))) ≡ magnitude_read (digits_from l (saturated (saturated n * 10 + (b - digit_zero)))) →
        magnitude_read (digits_from (b ∷ l) n) ≡ magnitude_read (digits_from (b ∷ l) (saturated n))
    go true e whole kept =
        ap magnitude_read (digit_step b l n e)
        ∙ whole
        ∙ ap (λ (k : ℕ). magnitude_read (digits_from l k)) (sym (saturated-grown n (b - digit_zero)))
        ∙ sym kept
        ∙ ap magnitude_read (sym (digit_step b l (saturated n) e))
    go false e whole kept = ap magnitude_read (digit_none b l n e ∙ sym (digit_none b l (saturated n) e))

-- the digits that stand from an index on
abbrev run : List ℕ → ℕ → List ℕ
run s at = leading is_digit (drop at s)

module _ (s : List ℕ) (i n : ℕ) where
  pub digits_end : (i < length s → is_digit (get_or s i 0) ≡ false) → n ≤ magnitude_limit
      → (magnitude_read (digits_from (run s i) n) ≡ Some n) × (length (run s i) ≡ 0)
  unfolding digits_from
  digits_end h k =
      let e : saturated n ≡ n = omega arith in
      let none : run s i ≡ [] = leading_done is_digit s i h in
      (ap (λ (l : List ℕ). magnitude_read (digits_from l n)) none ∙ ap Some e, ap length none)

  pub digits_more : (r : ℕ) → i < length s → is_digit (get_or s i 0) ≡ true → r ≡ grown n (get_or s i 0)
      → (magnitude_read (digits_from (run s i) n) ≡ magnitude_read (digits_from (run s (i + 1)) r)) × (length (run s i) ≡ suc (length (run s (i + 1))))
  digits_more r h e is =
      let more = leading_on is_digit s i h e in
      let rest = run s (i + 1) in (
        ap (λ (l : List ℕ). magnitude_read (digits_from l n)) more
            ∙ ap magnitude_read (digit_step (get_or s i 0) rest n e)
            ∙ digits_saturated rest (n * 10 + (get_or s i 0 - digit_zero))
            ∙ ap (λ (k : ℕ). magnitude_read (digits_from rest k)) (sym is),
        ap length more,
      )

-- digits, and then a byte that is none
digits_stop : (l : List ℕ) (b : ℕ) (r : List ℕ) (n : ℕ) → is_digit b ≡ false → digits_from (leading is_digit l ++ (b ∷ r)) n ≡ none
unfolding leading
digits_stop [] b r n h = digit_none b r n h
digits_stop (x ∷ l) b r n h = go (is_digit x) refl (λ k. digits_stop l b r k h)
  where
    go : (t : Bool) → is_digit x ≡ t → ((k : ℕ) → digits_from (leading is_digit l ++ (b ∷ r)) k ≡ none)
        → digits_from (cond t (x ∷ leading is_digit l) [] ++ (b ∷ r)) n ≡ none
    go true e f = digit_step x (leading is_digit l ++ (b ∷ r)) n e ∙ f (n * 10 + (x - digit_zero))
    go false e f = digit_none b r n h

magnitude_none : (l : List ℕ) → digits_from l 0 ≡ none → magnitude_of l ≡ none
unfolding magnitude_of
magnitude_none [] h = refl
magnitude_none (b ∷ []) h = h
magnitude_none (b ∷ c ∷ l) h = ap (cond (eqb b digit_zero) none) h ∙ cond_same (eqb b digit_zero) none

-- ---- a number without a sign, in the field that starts at an index

module _ (s : List ℕ) (at : ℕ) {m e end : ℕ} (d : LeadingDigits s at m e) (p : PartEnd comma s e end) where
  pub unsigned_ends : PartEnd comma s at end
  unsigned_ends = leading_end is_digit comma refl s at end (subst (λ k. PartEnd comma s k end) d.ends p)

  pub unsigned_other : (e ≡ end → ⊥) → unsigned_field (part_at s at end) ≡ None
  unsigned_other h =
      let found = leading_stopped is_digit comma refl s at end unsigned_ends (λ k. h (d.ends ∙ sym k)) in
      ap magnitude_read
      (magnitude_none (part_at s at end)
      (ap (λ (l : List ℕ). digits_from l 0) found.2 ∙ digits_stop (drop at s) found.0 found.1 0 found.3))

  pub unsigned_empty : at ≡ end → unsigned_field (part_at s at end) ≡ None
  unsigned_empty h = ap magnitude_read (magnitude_empty (part_at s at end) (omega (arith, field_length s at end p.high)))

  pub unsigned_zero : at + 1 < end → get_or s at 0 ≡ digit_zero → unsigned_field (part_at s at end) ≡ None
  unsigned_zero h k =
      ap magnitude_read
      (magnitude_zero (part_at s at end) (omega (arith, field_length s at end p.high)) (field_first s at end p.high (omega arith) ∙ k))

  pub unsigned_whole : e ≡ end → (at ≡ end → ⊥) → (at + 1 < end → get_or s at 0 ≡ digit_zero → ⊥) → unsigned_field (part_at s at end) ≡ Some m
  unsigned_whole h some_byte k =
      ap magnitude_read (go (leb end (at + 1)) refl)
      ∙ ap (λ (l : List ℕ). magnitude_read (digits_from l 0)) (leading_whole is_digit comma refl s at end (sym h ∙ d.ends))
      ∙ sym d.is
    where
      low : at ≤ end
      low = unsigned_ends.low

      go : (t : Bool) → leb end (at + 1) ≡ t → magnitude_of (part_at s at end) ≡ digits_from (part_at s at end) 0
      go true t = magnitude_one (part_at s at end) (omega (arith, field_length s at end p.high, leb-true end (at + 1) t, low))
      go false t =
          let more = leb-false end (at + 1) t in
          magnitude_first (part_at s at end) (omega (arith, field_length s at end p.high))
          (λ z. k more (sym (field_first s at end p.high (omega arith)) ∙ z))

-- ---- plain numbers

pub with_sign_lem : (negative : Bool) (m : ℕ) → (negative && eqb m 0) ≡ false → with_sign negative (Some m) ≡ Some (number_of negative m)
with_sign_lem false m h = refl
with_sign_lem true zero h = clash refl h
with_sign_lem true (suc k) h = refl

pub minus_zero : (negative : Bool) (m : ℕ) → (negative && eqb m 0) ≡ true → with_sign negative (Some m) ≡ None
minus_zero false m h = clash h refl
minus_zero true zero h = refl
minus_zero true (suc k) h = clash h (ne_eqb (suc k) 0 (λ e. omega arith))

map_read : (o : Option ℕ) → plain_read (map pos o) ≡ with_sign false (magnitude_read o)
map_read none = refl
map_read (some n) = refl

negated-read : (o : Option ℕ) → plain_read (negated o) ≡ with_sign true (magnitude_read o)
negated-read none = refl
negated-read (some zero) = refl
negated-read (some (suc k)) = sym (with_sign_lem true (saturated (suc k)) (ne_eqb (saturated (suc k)) 0 (λ e. omega arith)))

pub plain_other : (l : List ℕ) → starts_with hyphen l ≡ false → plain_field l ≡ with_sign false (unsigned_field l)
unfolding plain magnitude_of
plain_other [] h = refl
plain_other (b ∷ l) h = ap plain_read (plain_unsigned (b ∷ l) (omega arith) (λ e. clash (eq-eqb b hyphen e) h)) ∙ map_read (magnitude_of (b ∷ l))

pub plain_led : (l : List ℕ) → plain_field (hyphen ∷ l) ≡ with_sign true (unsigned_field l)
plain_led l = ap plain_read (plain-signed (hyphen ∷ l) (omega arith) refl) ∙ negated-read (magnitude_of l)

-- ---- a field by itself

module _ (s : List ℕ) {number : Answer Number} {e : ℕ} (f : FieldRead plain_field s 0 number e) where
  pub field_whole : length s ≤ e → number ≡ plain_field s
  field_whole h = f.is ∙ ap plain_field (take_all (e - 0) s (omega arith))

  -- no comma stands in a number
  pub field_parted : e < length s → plain_field s ≡ None
  field_parted h = go (plain s) refl
    where
      go : (o : Option ℤ) → plain s ≡ o → plain_read o ≡ None
      go none k = refl
      go (some z) k =
          clash (ap (free comma) (sym (print-plain s z k)) ∙ print-free comma refl refl z) ((free-end comma s e f.ends).1 h)
