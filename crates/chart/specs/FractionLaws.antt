-- A whole number divided by the total as a binary64 number.
--     in_float_lem              a whole number within 2^53 of 0 is a binary64 number
--     quotient_fraction     fraction_of D z is the quotient of z and D, each as a binary64 number
--     Exact D z x           x is exactly z/D, negative where z is below 0, and 0 is positive
--     fraction_exact        where the total is a power of two up to 2^1074 and z is less than 2^53 from 0, fraction_of D z is exact
use Rattle.std.specs.Prelude.{ℕ, suc, ◌+◌, ◌-◌, ◌*◌, ◌^◌, ◌≤◌, ◌<◌, ◌≡◌, refl, Bool, true, false, cond, T, eqb, ℤ, pos, negsuc, Float}
use Rattle.std.proofs.Math.Path.{sym, ap}
use Rattle.std.proofs.Common.{ap₂, ◌∙◌, subst, lt_trans, ne_of_gt, mul-one, zero-mul, mul_assoc, mul-pos, mul_comm, ne_eqb, lit<, le→leb, lt→ltb, pow-add, pow_pos, shl_lt}
use native.Mathlib.Omega.{arith}
use Rattle.std.proofs.Math.IntN.{nat_abs}
use Rattle.std.proofs.Math.Pow.{pow-lt}
use Rattle.std.specs.Float.{nan, inf, fin}
use Rattle.std.specs.Float.Ieee.{binary64, prec, emax, low, up, down, unlike, round, div, of_int, in_float}
use Rattle.std.specs.Float.Ieee.Exact.{HasValue, round_exact}
use Rattle.std.specs.Float.Ieee.Back.{round_whole}
use Rattle.std.specs.Float.Ieee.Scale.{round_same}
use Rattle.std.specs.Float.Ieee.Fits.{down_pos}
use Rattle.std.specs.Float.Ieee.Positive.{first_pos}
use Rattle.chart.specs.Fraction.{positive_zero, negative, fraction_of}

pub in_float_lem : (z : ℤ) → nat_abs z ≤ 2 ^ prec binary64 → T (in_float binary64 z)
unfolding in_float
in_float_lem (pos k) h = le→leb k (2 ^ prec binary64) h
in_float_lem (negsuc k) h = lt→ltb k (2 ^ prec binary64) h

-- a whole number as a binary64 number
of_integer : (z : ℤ) → of_int binary64 z ≡ round binary64 (negative z) (nat_abs z) 1
unfolding of_int
of_integer (pos k) = refl
of_integer (negsuc k) = refl

-- fractions x/E of size a and y/G of size d
cross : (x y a d E G : ℕ) → x * 1 ≡ a * E → y * 1 ≡ d * G → x * G * d ≡ a * (y * E)
cross x y a d E G v w =
    ap (λ (k : ℕ). k * G * d) (sym (mul-one x) ∙ v)
    ∙ mul_assoc (a * E) G d
    ∙ mul_assoc a E (G * d)
    ∙ ap (λ (k : ℕ). a * k) (mul_comm E (G * d) ∙ ap (λ (k : ℕ). k * E) (mul_comm G d ∙ sym (sym (mul-one y) ∙ w)))

-- the sign of a quotient by a number above 0
sign_kept : (s : Bool) → unlike s false ≡ s
sign_kept true = refl
sign_kept false = refl

-- a value over one above 0 is the quotient of what they have, rounded once
quotient : (x y : Float) (s : Bool) (a d : ℕ) → 0 < d → HasValue x s a 1 → HasValue y false d 1 → div binary64 x y ≡ round binary64 s a d
unfolding div
quotient nan y s a d p v w = absurd v
quotient (inf t) y s a d p v w = absurd v
quotient (fin t m e) nan s a d p v w = absurd w
quotient (fin t m e) (inf u) s a d p v w = absurd w
quotient (fin t m e) (fin u n g) s a d p v w =
    let numerator = m * up e * down g in
    let denominator = n * up g * down e in
    let some : 0 < n * up g = subst (λ (k : ℕ). 0 < k) (sym (sym (mul-one (n * up g)) ∙ w.1)) (mul-pos p (down_pos g)) in
    ap (λ (b : Bool). cond b (cond (eqb m 0) nan (inf (unlike t u))) (round binary64 (unlike t u) numerator denominator)) (ne_eqb n 0 (λ z. ne_of_gt (first_pos n (up g) some) z))
    ∙ ap₂ (λ (b c : Bool). round binary64 (unlike b c) numerator denominator) v.0 w.0
    ∙ ap (λ (b : Bool). round binary64 b numerator denominator) (sign_kept s)
    ∙ round_same binary64 s numerator denominator a d (mul-pos some (down_pos e)) p (cross (m * up e) (n * up g) a d (down e) (down g) v.1 w.1)

pub quotient_fraction : (D : ℕ) → 0 < D → D ≤ 2 ^ prec binary64 → (z : ℤ) → nat_abs z ≤ 2 ^ prec binary64
    → div binary64 (of_int binary64 z) (of_int binary64 (pos D)) ≡ fraction_of D z
unfolding fraction_of
quotient_fraction D p most z small =
    quotient (of_int binary64 z) (of_int binary64 (pos D)) (negative z) (nat_abs z) D p
    (subst (λ (x : Float). HasValue x (negative z) (nat_abs z) 1) (sym (of_integer z)) (round_whole binary64 (negative z) (nat_abs z) small))
    (subst (λ (x : Float). HasValue x false D 1) (sym (of_integer (pos D))) (round_whole binary64 false D most))

in_range_lem : (k j : ℕ) → k < 2 ^ prec binary64 → j ≤ low binary64 → k * 2 ^ j < 2 ^ (low binary64 + suc (emax binary64))
in_range_lem k j small most = lt_trans (shl_lt (prec binary64) j small) (pow-lt {j = low binary64 + suc (emax binary64)} (omega arith))

-- 0/D is 0/1
fraction_zero : (D : ℕ) → 0 < D → fraction_of D (pos 0) ≡ positive_zero
unfolding fraction_of round
fraction_zero D p = round_same binary64 false 0 D 0 1 p (lit< tt) (sym (zero-mul D))

-- x is exactly z/D, and 0 is positive
pub record Exact (D : ℕ) (z : ℤ) (x : Float) : Type 0 where
  pub value : HasValue x (negative z) (nat_abs z) D
  pub zero_positive : z ≡ pos 0 → x ≡ positive_zero

module _ (D e : ℕ) (power : D ≡ 2 ^ e) (most : e ≤ low binary64) where
  positive : 0 < D
  positive = subst (λ (x : ℕ). 0 < x) (sym power) (pow_pos e)

  -- z/D is z times a power of two in units of the smallest binary64 number
  pub fraction_exact : (z : ℤ) → nat_abs z < 2 ^ prec binary64 → Exact D z (fraction_of D z)
  unfolding fraction_of
  fraction_exact z small =
      let k = nat_abs z in
      let l = low binary64 in
      let split : l - e + e ≡ l = omega arith in
      let whole : 2 ^ (l - e) * D ≡ 2 ^ l =
      ap (λ (x : ℕ). 2 ^ (l - e) * x) power ∙ sym (pow-add 2 (l - e) e) ∙ ap (λ (x : ℕ). 2 ^ x) split in
      record {
        value =
            round_exact binary64 (negative z) k D k (l - e) positive small (in_range_lem k (l - e) small (omega arith))
            (ap (λ (x : ℕ). k * x) (sym whole) ∙ sym (mul_assoc k (2 ^ (l - e)) D));
        zero_positive = λ n. ap (fraction_of D) n ∙ fraction_zero D positive;
      }
