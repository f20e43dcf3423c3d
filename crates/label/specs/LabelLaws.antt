-- Laws of labels and their keys.
--     digit_at                         the digit of a byte, by the three tests
--     digit_most                       a digit is at most label_byte_count
--     key_long, key_short              the key of a field that is too long for a label, and of any other
--     key_none                         a field whose bytes have no key has none
--     key_stop, key_further, key_done  the key from an index on, by the digit of the byte there, and at the end
--     digit_below, digit_fits          one digit more is one power of key_base more; no more than a label has are below key_base ^ label_limit
--     key_label                        the key is 0 where the field is no label, and only there
--     label_short                      a label has at most 12 bytes
--     label_empty                      a field of no bytes is no label
--     key_injective                    labels with the same key are the same
--     label-free                       a label has no byte that may not stand in one
--     no_digit, no_hyphen              a byte that stands in no label is no digit and no hyphen
use Rattle.std.specs.Prelude.{ℕ, zero, suc, ◌+◌, ◌-◌, ◌*◌, ◌/◌, ◌%◌, ◌^◌, ◌≤◌, ◌<◌, ◌≡◌, refl, Bool, true, false, not, cond, ◌&&◌, ◌||◌, List, [], ◌∷◌, eqb, leb, length, get_or, drop}
use Rattle.std.proofs.Common.{sym, subst, ◌∙◌, add-zero, add-suc, pow-suc, add-one, arith, leb-true, eqb-true, le-leb, ne_eqb, drop_of_length-le, drop-cons}
use Rattle.std.proofs.Math.Path.{ap, ap₂}
use Rattle.std.proofs.Math.Nat.{pow-le-pow_right, one-le-pow}
use Rattle.std.proofs.lemmas.Bool.{lt-leb}
use Rattle.text.specs.Parts.{free}
use Rattle.integers.specs.Tests.{both, clash, neither, cond_same}
use Rattle.number.specs.Number.{hyphen, digit_zero, digit_nine, is_digit}
use Rattle.label.specs.Label.{letter_a, letter_z, is_letter, is_label_byte, label_bytes, is_label}
use Rattle.limits.specs.Limits.{label_limit}
use Rattle.label.specs.Key.{label_byte_count, key_base, before_letters, before_digits, label_digit, key_after, key_from, label_key}

-- ---- digits

pub digit_at : (b : ℕ) {letter digit dash : Bool} → is_letter b ≡ letter → is_digit b ≡ digit → eqb b hyphen ≡ dash
    → label_digit b ≡ cond letter (b - before_letters) (cond digit (b - before_digits) (cond dash label_byte_count 0))
digit_at b p q r =
    ap₂ (λ x y. cond x (b - before_letters) y) p (ap₂ (λ x y. cond x (b - before_digits) y) q (ap (λ x. cond x label_byte_count 0) r))

-- the byte of a digit
byte_of : ℕ → ℕ
byte_of d = cond (leb d 26) (d + before_letters) (cond (leb d 36) (d + before_digits) hyphen)

-- d is the digit of the byte b, which stands in labels or does not
record Read (b d : ℕ) (labelled : Bool) : Type 0 where
  positive : leb 1 d ≡ labelled
  most : d ≤ label_byte_count
  back : labelled ≡ true → byte_of d ≡ b

digit_read : (b : ℕ) → Read b (label_digit b) (is_label_byte b)
unfolding byte_of
digit_read b = go (is_letter b) (is_digit b) (eqb b hyphen) refl refl refl
  where
    go : (x y z : Bool) → is_letter b ≡ x → is_digit b ≡ y → eqb b hyphen ≡ z
        → Read b (cond x (b - before_letters) (cond y (b - before_digits) (cond z label_byte_count 0))) (x || (y || z))
    go true y z p q r =
        let t = both (leb letter_a b) (leb b letter_z) p in
        let low = leb-true letter_a b t.0 in
        let high = leb-true b letter_z t.1 in
        record {
          positive = le-leb 1 (b - before_letters) (omega arith);
          most = omega arith;
          back = λ h. ap (λ t. cond t (b - before_letters + before_letters) (cond (leb (b - before_letters) 36) (b - before_letters + before_digits) hyphen)) (le-leb (b - before_letters) 26 (omega arith)) ∙ omega arith;
        }
    go false true z p q r =
        let t = both (leb digit_zero b) (leb b digit_nine) q in
        let low = leb-true digit_zero b t.0 in
        let high = leb-true b digit_nine t.1 in
        record {
          positive = le-leb 1 (b - before_digits) (omega arith);
          most = omega arith;
          back =
              λ h.
              ap₂ (λ t u. cond t (b - before_digits + before_letters) (cond u (b - before_digits + before_digits) hyphen)) (lt-leb (b - before_digits) 26 (omega arith)) (le-leb (b - before_digits) 36 (omega arith))
              ∙ omega arith;
        }
    go false false true p q r = record { positive = refl; most = omega arith; back = λ h. sym (eqb-true b hyphen r) }
    go false false false p q r = record { positive = refl; most = omega arith; back = λ h. clash h refl }

pub digit_most : (b : ℕ) → label_digit b ≤ label_byte_count
digit_most b = (digit_read b).most

-- ---- keys

pub key_long : (f : List ℕ) → leb (length f) label_limit ≡ false → label_key f ≡ 0
unfolding label_key
key_long f h = ap (λ t. cond t (key_from f 0) 0) h

pub key_short : (f : List ℕ) → leb (length f) label_limit ≡ true → label_key f ≡ key_from f 0
unfolding label_key
key_short f h = ap (λ t. cond t (key_from f 0) 0) h

pub key_none : (f : List ℕ) → key_from f 0 ≡ 0 → label_key f ≡ 0
unfolding label_key
key_none f h = ap (λ k. cond (leb (length f) label_limit) k 0) h ∙ cond_same (leb (length f) label_limit) 0

pub key_done : (f : List ℕ) (i k : ℕ) → length f ≤ i → key_from (drop i f) k ≡ k
unfolding key_from
key_done f i k h = ap (λ l. key_from l k) (drop_of_length-le f h)

after : (d : ℕ) (further : ℕ → ℕ) (k : ℕ) → (d ≡ 0 → ⊥) → key_after d further k ≡ further (k * key_base + d)
after zero further k h = absurd (h refl)
after (suc d) further k h = refl

module _ (f : List ℕ) (i k d : ℕ) (h : i < length f) (e : d ≡ label_digit (get_or f i 0)) where
  key_at : key_from (drop i f) k ≡ key_after d (key_from (drop (i + 1) f)) k
  unfolding key_from
  key_at = ap (λ l. key_from l k) (drop-cons f i 0 h) ∙ ap₂ (λ x j. key_after x (key_from (drop j f)) k) (sym e) (sym (add-one i))

  pub key_stop : d ≡ 0 → key_from (drop i f) k ≡ 0
  key_stop z = key_at ∙ ap (λ x. key_after x (key_from (drop (i + 1) f)) k) z

  pub key_further : (d ≡ 0 → ⊥) → key_from (drop i f) k ≡ key_from (drop (i + 1) f) (k * key_base + d)
  key_further n = key_at ∙ after d (key_from (drop (i + 1) f)) k n

power_most : (i : ℕ) → i ≤ label_limit → key_base ^ i ≤ key_base ^ label_limit
power_most i h = pow-le-pow_right (omega arith) h

pub digit_below : (k i d : ℕ) → k < key_base ^ i → d ≤ label_byte_count → k * key_base + d < key_base ^ (i + 1)
digit_below k i d h m = omega (arith, ap (λ j. key_base ^ j) (add-one i) ∙ pow-suc key_base i)

pub digit_fits : (k i : ℕ) → k < key_base ^ i → i < label_limit → k * key_base + label_byte_count < key_base ^ label_limit
digit_fits k i h l = omega (arith, power_most (i + 1) (omega arith), digit_below k i label_byte_count h (omega arith))

from_most : (l : List ℕ) (k i : ℕ) → k < key_base ^ i → key_from l k < key_base ^ (i + length l)
unfolding key_from
from_most [] k i h = subst (λ j. k < key_base ^ j) (sym (add-zero i)) h
from_most (b ∷ l) k i h = go (label_digit b) (digit_most b) (from_most l)
  where
    go : (d : ℕ) → d ≤ label_byte_count → ((k i : ℕ) → k < key_base ^ i → key_from l k < key_base ^ (i + length l)) → key_after d (key_from l) k < key_base ^ (i + suc (length l))
    go zero m f = one-le-pow (i + suc (length l)) key_base (omega arith)
    go (suc d) m f =
        let e : i + 1 + length l ≡ i + suc (length l) = omega arith in
        subst (λ j. key_from l (k * key_base + suc d) < key_base ^ j) e (f (k * key_base + suc d) (i + 1) (digit_below k i (suc d) h m))

-- ---- which keys are 0

after_positive : (l : List ℕ) (k d : ℕ) (t : Bool) → leb 1 d ≡ t → ((k : ℕ) → 1 ≤ k → leb 1 (key_from l k) ≡ label_bytes l)
    → leb 1 (key_after d (key_from l) k) ≡ (t && label_bytes l)
after_positive l k zero t h f = ap (λ s. s && label_bytes l) h
after_positive l k (suc d) t h f =
    f (k * key_base + suc d) (omega arith) ∙ ap (λ s. s && label_bytes l) (sym (le-leb 1 (suc d) (omega arith)) ∙ h)

from_positive : (l : List ℕ) (k : ℕ) → 1 ≤ k → leb 1 (key_from l k) ≡ label_bytes l
unfolding key_from label_bytes
from_positive [] k h = le-leb 1 k h
from_positive (b ∷ l) k h = after_positive l k (label_digit b) (is_label_byte b) (digit_read b).positive (from_positive l)

pub key_label : (l : List ℕ) → leb 1 (label_key l) ≡ is_label l
unfolding key_from label_bytes label_key is_label
key_label [] = refl
key_label (b ∷ l) =
    go (leb (length (b ∷ l)) label_limit)
    ∙ ap (λ s. (s && leb (length (b ∷ l)) label_limit) && label_bytes (b ∷ l)) (sym (le-leb 1 (length (b ∷ l)) (omega arith)))
  where
    go : (t : Bool) → leb 1 (cond t (key_from (b ∷ l) 0) 0) ≡ (t && label_bytes (b ∷ l))
    go true = after_positive l 0 (label_digit b) (is_label_byte b) (digit_read b).positive (from_positive l)
    go false = refl

-- ---- what a label has

label_parts : (l : List ℕ) → is_label l ≡ true → (leb (length l) label_limit ≡ true) × (label_bytes l ≡ true)
unfolding is_label
label_parts l h =
    let t = both (leb 1 (length l) && leb (length l) label_limit) (label_bytes l) h in
    ((both (leb 1 (length l)) (leb (length l) label_limit) t.0).1, t.1)

pub label_short : (l : List ℕ) → is_label l ≡ true → length l ≤ label_limit
label_short l e = leb-true (length l) label_limit (label_parts l e).0

pub label_empty : (l : List ℕ) → length l ≡ 0 → is_label l ≡ false
unfolding is_label
label_empty l h = ap (λ n. (leb 1 n && leb n label_limit) && label_bytes l) h

-- ---- labels by their keys

-- the bytes of the key k in front of l, at most as many as the first number says
spell : ℕ → ℕ → List ℕ → List ℕ
spell zero k l = l
spell (suc n) zero l = l
spell (suc n) (suc k) l = spell n (suc k / key_base) (byte_of (suc k % key_base) ∷ l)

spell_zero : (n : ℕ) (l : List ℕ) → spell n 0 l ≡ l
unfolding spell
spell_zero zero l = refl
spell_zero (suc n) l = refl

spell_digit : (n k d b : ℕ) (l : List ℕ) → suc d ≤ label_byte_count → byte_of (suc d) ≡ b → spell (suc n) (k * key_base + suc d) l ≡ spell n k (b ∷ l)
unfolding spell
spell_digit n k d b l h e =
    let q : suc (k * key_base + d) / key_base ≡ k = omega arith in
    let r : suc (k * key_base + d) % key_base ≡ suc d = omega arith in
    ap (λ m. spell (suc n) m l) (add-suc (k * key_base) d) ∙ ap₂ (λ x y. spell n x (byte_of y ∷ l)) q r ∙ ap (λ x. spell n k (x ∷ l)) e

spell_from : (l : List ℕ) (k n : ℕ) → label_bytes l ≡ true → spell (n + length l) (key_from l k) [] ≡ spell n k l
unfolding key_from label_bytes
spell_from [] k n h = ap (λ m. spell m k []) (add-zero n)
spell_from (b ∷ l) k n h =
    let t = both (is_label_byte b) (label_bytes l) h in
    go (label_digit b) (digit_read b) t.0 (λ k n. spell_from l k n t.1)
  where
    go : (d : ℕ) → Read b d (is_label_byte b) → is_label_byte b ≡ true
        → ((k n : ℕ) → spell (n + length l) (key_from l k) [] ≡ spell n k l)
        → spell (n + suc (length l)) (key_after d (key_from l) k) [] ≡ spell n k (b ∷ l)
    go zero r t f = clash t (sym r.positive)
    go (suc d) r t f =
        let e : n + suc (length l) ≡ suc n + length l = omega arith in
        ap (λ m. spell m (key_from l (k * key_base + suc d)) []) e ∙ f (k * key_base + suc d) (suc n)
        ∙ spell_digit n k d b l (omega (arith, r.most)) (r.back t)

spell_key : (l : List ℕ) → is_label l ≡ true → spell label_limit (label_key l) [] ≡ l
spell_key l h =
    let m = label_short l h in
    let left = label_limit - length l in
    let e : label_limit ≡ left + length l = omega arith in
    ap₂ (λ n k. spell n k []) e (key_short l (label_parts l h).0) ∙ spell_from l 0 left (label_parts l h).1 ∙ spell_zero left l

pub key_injective : (k l : List ℕ) → is_label k ≡ true → is_label l ≡ true → label_key k ≡ label_key l → k ≡ l
key_injective k l h g e = sym (spell_key k h) ∙ ap (λ n. spell label_limit n []) e ∙ spell_key l g

-- ---- the bytes of a label

bytes_free : (c : ℕ) (l : List ℕ) → is_label_byte c ≡ false → label_bytes l ≡ true → free c l ≡ true
unfolding label_bytes free
bytes_free c [] h e = refl
bytes_free c (b ∷ l) h e =
    let t = both (is_label_byte b) (label_bytes l) e in
    ap₂ (λ x y. not x && y) (ne_eqb b c (λ q. clash t.0 (ap is_label_byte q ∙ h))) (bytes_free c l h t.1)

pub label-free : (c : ℕ) (l : List ℕ) → is_label_byte c ≡ false → is_label l ≡ true → free c l ≡ true
label-free c l h e = bytes_free c l h (label_parts l e).1

module _ (c : ℕ) (h : is_label_byte c ≡ false) where
  apart : (is_digit c ≡ false) × (eqb c hyphen ≡ false)
  apart = neither (is_digit c) (eqb c hyphen) (neither (is_letter c) (is_digit c || eqb c hyphen) h).1

  pub no_digit : is_digit c ≡ false
  no_digit = apart.0

  pub no_hyphen : eqb c hyphen ≡ false
  no_hyphen = apart.1
