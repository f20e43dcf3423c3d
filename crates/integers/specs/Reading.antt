-- Signed values as the machine reads them, and natural numbers with a bound.
--     Bounded B r d                 r is the number d, which is at most B
--     back w z                      what the machine reads of a signed value of width w
--     Reads z d B                   the machine's reading z is the integer d, which is within B of 0
--     held, kept                    a parameter or an element of a signed type; the same or an operation's result, as an i64
--     number                        a number of 0 or more
--     addition, difference, product of two readings
--     fits                          what an operation or a cast to i64 asks
--     number_cast                   what a cast of a number of 0 or more to an unsigned type asks
--     sign_read                     the test of a reading's sign is that of the integer
--     opposite_fits, opposite_read  where it is below 0, 0 less the reading fits an i64 and is the magnitude
--     natural_read                  where it is not, the reading is the magnitude
--     square_cast, square_is        the square of a reading, cast to u64
--     passed, given, given₂         what a callee asks and gives of readings, as said of the integers themselves
-- A numeric bound that computes is given as `tt`.
-- A worked call stands at the end.
use Rattle.std.specs.Prelude.{◌≡◌, refl, ℕ, ◌+◌, ◌*◌, ◌^◌, ◌≤◌, ◌<◌, Bool, true, false, T, ltb, ℤ, pos, nat_abs, neg_ℤ, ◌+ℤ◌, ◌-ℤ◌, ◌*ℤ◌}
use Rattle.std.proofs.Common.{sym, ap, ap₂, subst, ◌∙◌, le_refl, mul-le-mul, arith, ltb→lt, to_z-of_z}
use Rattle.std.proofs.Math.IntN.{+ℤ_idl, neg_ℤ-neg_ℤ}
use Rattle.std.specs.Int.Signed.{non_neg, lt_z}
use Rattle.std.specs.Int.{Width, w64}
use mir.Val.{Fits, SFits, bits, to_z, of_z}
use Rattle.integers.specs.Sum.{square}
use Rattle.integers.specs.Absolute.{abs_add, abs_sub, abs_mul, abs_nonneg, abs_negative, fits64, back64, square_pos, square_le}

pub record Bounded (limit r defined : ℕ) : Type 0 where
  pub is : r ≡ defined
  pub most : r ≤ limit

-- what the machine reads of a signed value that it holds as bits
abbrev pub back : Width → ℤ → ℤ
back w z = to_z w (of_z w z)

pub record Reads (z d : ℤ) (B : ℕ) : Type 0 where
  pub is : z ≡ d
  pub most : nat_abs d ≤ B

pub held : {w : Width} {z : ℤ} {B : ℕ} → SFits w z → nat_abs z ≤ B → Reads (back w z) z B
held f h = record { is = to_z-of_z f; most = h }

pub number : {B : ℕ} (n : ℕ) → n ≤ B → Reads (pos n) (pos n) B
number n h = record { is = refl; most = h }

module _ {z d : ℤ} {B : ℕ} (r : Reads z d B) where
  pub fits : T (ltb B (2 ^ 63)) → SFits w64 z
  fits l = subst (SFits w64) (sym r.is) (fits64 d (omega (arith, r.most, ltb→lt B (2 ^ 63) l)))

  pub kept : T (ltb B (2 ^ 63)) → Reads (back w64 z) d B
  kept l = record { is = to_z-of_z (fits l) ∙ r.is; most = r.most }

  pub difference : {y e : ℤ} {C : ℕ} → Reads y e C → Reads (z -ℤ y) (d -ℤ e) (B + C)
  difference {y} {e} s = record { is = ap₂ ◌-ℤ◌ r.is s.is; most = omega (arith, abs_sub d e, r.most, s.most) }

  pub addition : {y e : ℤ} {C : ℕ} → Reads y e C → Reads (z +ℤ y) (d +ℤ e) (B + C)
  addition {y} {e} s = record { is = ap₂ ◌+ℤ◌ r.is s.is; most = omega (arith, abs_add d e, r.most, s.most) }

  pub product : {y e : ℤ} {C : ℕ} → Reads y e C → Reads (z *ℤ y) (d *ℤ e) (B * C)
  product {y} {e} {C} s =
      record { is = ap₂ ◌*ℤ◌ r.is s.is; most = subst (λ x. x ≤ B * C) (sym (abs_mul d e)) (mul-le-mul r.most s.most) }

pub number_cast : (w : Width) {z : ℤ} (n : ℕ) → z ≡ pos n → n < 2 ^ bits w → T (non_neg z) × Fits w (nat_abs z)
number_cast w n e h = subst (λ z. T (non_neg z) × Fits w (nat_abs z)) (sym e) (tt, record { fits = h })

-- ---- a signed value by its sign and magnitude

module _ (z : ℤ) (most : nat_abs z < 2 ^ 63) where
  pub sign_read : (t : Bool) → lt_z (back w64 z) (pos 0) ≡ t → lt_z z (pos 0) ≡ t
  sign_read t e = ap (λ x. lt_z x (pos 0)) (sym (back64 z most)) ∙ e

  module _ (negative : lt_z (back w64 z) (pos 0) ≡ true) where
    opposite : pos 0 -ℤ back w64 z ≡ pos (nat_abs z)
    opposite =
        ap (λ x. pos 0 -ℤ x) (back64 z most ∙ abs_negative z (sign_read true negative))
        ∙ +ℤ_idl (neg_ℤ (neg_ℤ (pos (nat_abs z))))
        ∙ neg_ℤ-neg_ℤ (pos (nat_abs z))

    opposite_small : nat_abs (pos 0 -ℤ back w64 z) < 2 ^ 63
    opposite_small = omega (arith, ap nat_abs opposite)

    pub opposite_fits : SFits w64 (pos 0 -ℤ back w64 z)
    opposite_fits = fits64 (pos 0 -ℤ back w64 z) opposite_small

    pub opposite_read : back w64 (pos 0 -ℤ back w64 z) ≡ pos (nat_abs z)
    opposite_read = back64 (pos 0 -ℤ back w64 z) opposite_small ∙ opposite

  pub natural_read : lt_z (back w64 z) (pos 0) ≡ false → back w64 z ≡ pos (nat_abs z)
  natural_read natural = back64 z most ∙ abs_nonneg z (sign_read false natural)

-- ---- squares

-- the square of a reading is the number `square d`
squared : {z d : ℤ} {B : ℕ} → Reads z d B → T (ltb (B * B) (2 ^ 63)) → back w64 (z *ℤ z) ≡ pos (square d)
squared {d = d} r l = (kept (product r r) l).is ∙ sym (square_pos d)

module _ {z d : ℤ} {B : ℕ} (r : Reads z d B) (l : T (ltb (B * B) (2 ^ 63))) where
  pub square_cast : T (non_neg (back w64 (z *ℤ z))) × Fits w64 (nat_abs (back w64 (z *ℤ z)))
  square_cast = number_cast w64 (square d) (squared r l) (omega (arith, square_le d r.most, ltb→lt (B * B) (2 ^ 63) l))

  pub square_is : Bounded (B * B) (nat_abs (back w64 (z *ℤ z))) (square d)
  square_is = subst (λ x. Bounded (B * B) (nat_abs x) (square d)) (sym (squared r l))
      (record { is = refl; most = square_le d r.most })

-- ---- what a callee is passed and gives

pub passed : {z d : ℤ} {B : ℕ} → Reads z d B → nat_abs z ≤ B
passed {B = B} r = subst (λ x. nat_abs x ≤ B) (sym r.is) r.most

module _ {z d : ℤ} {B : ℕ} (r : Reads z d B) {L v : ℕ} where
  pub given : (f : ℤ → ℕ) → Bounded L v (f z) → Bounded L v (f d)
  given f b = subst (Bounded L v) (ap f r.is) b

  pub given₂ : (f : ℤ → ℤ → ℕ) {y e : ℤ} {C : ℕ} → Reads y e C → Bounded L v (f z y) → Bounded L v (f d e)
  given₂ f s b = subst (Bounded L v) (ap₂ f r.is s.is) b

-- a worked call: the square of (3 times a - x) fits an i64, for a and x within 1,000 of 0
square_fits : (a x : ℤ) → Reads a a 1000 → Reads x x 1000 → SFits w64 ((pos 3 *ℤ a -ℤ x) *ℤ (pos 3 *ℤ a -ℤ x))
square_fits a x r s =
    let gap = difference (product (number 3 (le_refl 3)) r) s in
    fits (product gap gap) tt
