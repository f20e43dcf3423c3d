-- Absolute values and squares as naturals, and the integers that a signed width holds. State a range as `nat_abs z ≤ B`: `omega` reads it.
--     abs_ℕ                      nat_abs z ≤ B, by the two naturals `up z` and `down z` of Order
--     abs_le                     nat_abs z ≤ B exactly when - B ⊑ z and z ⊑ B
--     abs_above, abs_under       B < nat_abs z, from B < z or z < - B
--     abs_neg, abs_mul           of a negation and a product, equal
--     abs_add, abs_sub, abs_sum  of a sum, a difference, a sum over a range, at most
--     abs_zero                   only 0 has the absolute value 0
--     abs_same                   two integers with the same absolute value, at most 1 apart, are equal
--     square_pos                 the square as an integer
--     square_neg, square_mul     of a negation and a product
--     square_le, square_inv      nat_abs z ≤ B exactly when square z ≤ B * B
--     square_zero                only 0 has the square 0
--     fitsw, fits32, fits64      an integer below half the width's power fits it
--     backw, back32, back64      and is read back as it was written
--     fits_abs                   the bound of an integer that fits
--     within, within_not         nat_abs z ≤ B, by the tests - B ≤ z ≤ B, or by the failed tests z < - B and B < z
--     above, under, above_not, under_not    B < nat_abs z, by the test that says so
--     low_test, high_test        the test nat_abs z ≤ B of a signed value, by its reading's tests z < - B and then z ≤ B
--     abs_nonneg, abs_negative   z by its absolute value and the test of its sign
-- A worked call stands at the end.
use Rattle.std.specs.Prelude.{◌≡◌, refl, ◌↔◌, Bool, true, false, ℕ, zero, suc, ◌+◌, ◌*◌, ◌^◌, ◌≤◌, ◌<◌, T, leb, ℤ, pos, negsuc, neg_ℤ, nat_abs, ◌+ℤ◌, ◌-ℤ◌, ◌*ℤ◌}
use Rattle.std.proofs.Common.{sym, ◌∙◌, ap, subst, zero-le, le_refl, mul-suc, suc-mul, mul-le-mul, arith, le-leb, ltb→lt, to_z-of_z}
use Rattle.std.proofs.Math.Nat.{mul-mul-mul_comm}
use Rattle.std.proofs.Math.Decide.{dec_le}
use Rattle.std.proofs.lemmas.Bool.{lt-leb}
use Rattle.std.specs.Int.Signed.{le_z, lt_z, nat_abs-le}
use Rattle.std.specs.Int.{Width, w32, w64}
use mir.Val.{SFits, hbits, to_z, of_z}
use Rattle.integers.specs.Solver.{◌⊕◌, ⊝◌, #◌}
use Rattle.integers.specs.Order.{◌⊑◌, ◌≼◌, ◌≍◌, up, down, ⊑-ℕ, linear, le_z_true, le_z_false, lt_z_true, lt_z_false}
use Rattle.integers.specs.Sum.{sumℤ, sumℕ, square}

-- ---- absolute values

pub abs_ℕ : (z : ℤ) (B : ℕ) → (nat_abs z ≤ B) ↔ ((down z ≤ up z + B) × (up z ≤ down z + B))
abs_ℕ (pos n) B = (λ h. (omega arith, omega arith), λ h. omega arith)
abs_ℕ (negsuc n) B = (λ h. (omega arith, omega arith), λ h. omega arith)

pub abs_le : (z : ℤ) (B : ℕ) → (nat_abs z ≤ B) ↔ ((neg_ℤ (pos B) ⊑ z) × (z ⊑ pos B))
abs_le z B = (
  λ h. ((linear 2 (λ z b. ⊝ b ≼ z) z (pos B)).1 (omega (arith, (abs_ℕ z B).0 h)), (⊑-ℕ z (pos B)).1 (omega (arith, (abs_ℕ z B).0 h))),
  λ h. (abs_ℕ z B).1 (omega (arith, (linear 2 (λ z b. ⊝ b ≼ z) z (pos B)).0 h.0, (⊑-ℕ z (pos B)).0 h.1)),
)

pub abs_neg : (z : ℤ) → nat_abs (neg_ℤ z) ≡ nat_abs z
abs_neg (pos zero) = refl
abs_neg (pos (suc n)) = refl
abs_neg (negsuc n) = refl

pub abs_zero : (z : ℤ) → nat_abs z ≡ 0 → z ≡ pos 0
abs_zero (pos n) e = ap pos e
abs_zero (negsuc n) e = absurd (omega arith)

pub abs_same : (a b : ℤ) → nat_abs a ≡ nat_abs b → nat_abs (a -ℤ b) ≤ 1 → a ≡ b
abs_same (pos m) (pos n) e h = ap pos e
abs_same (pos m) (negsuc n) e h = absurd (omega arith)
abs_same (negsuc m) (pos zero) e h = absurd (omega arith)
abs_same (negsuc m) (pos (suc n)) e h = absurd (omega arith)
abs_same (negsuc m) (negsuc n) e h = let k : m ≡ n = omega arith in ap negsuc k

pub abs_add : (a b : ℤ) → nat_abs (a +ℤ b) ≤ nat_abs a + nat_abs b
abs_add a b = (abs_ℕ (a +ℤ b) (nat_abs a + nat_abs b)).1
    (omega (arith, (linear 3 (λ s a b. s ≍ a ⊕ b) (a +ℤ b) a b).0 refl, (abs_ℕ a (nat_abs a)).0 (le_refl (nat_abs a)), (abs_ℕ b (nat_abs b)).0 (le_refl (nat_abs b))))

pub abs_sub : (a b : ℤ) → nat_abs (a -ℤ b) ≤ nat_abs a + nat_abs b
abs_sub a b = subst (λ x. nat_abs (a -ℤ b) ≤ nat_abs a + x) (abs_neg b) (abs_add a (neg_ℤ b))

pub abs_mul : (a b : ℤ) → nat_abs (a *ℤ b) ≡ nat_abs a * nat_abs b
abs_mul (pos m) (pos n) = refl
abs_mul (pos m) (negsuc n) = abs_neg (pos (m * suc n))
abs_mul (negsuc m) (pos n) = abs_neg (pos (suc m * n))
abs_mul (negsuc m) (negsuc n) = refl

pub abs_sum : (n : ℕ) (f : ℕ → ℤ) → nat_abs (sumℤ n f) ≤ sumℕ n (λ i. nat_abs (f i))
unfolding sumℤ sumℕ
abs_sum zero f = zero-le
abs_sum (suc n) f = omega (arith, abs_add (sumℤ n f) (f n), abs_sum n f)

-- ---- squares

pub square_pos : (z : ℤ) → pos (square z) ≡ z *ℤ z
unfolding square
square_pos (pos n) = refl
square_pos (negsuc n) = refl

pub square_neg : (z : ℤ) → square (neg_ℤ z) ≡ square z
unfolding square
square_neg z = ap (λ x. x * x) (abs_neg z)

pub square_mul : (a b : ℤ) → square (a *ℤ b) ≡ square a * square b
unfolding square
square_mul a b = ap (λ x. x * x) (abs_mul a b) ∙ mul-mul-mul_comm (nat_abs a) (nat_abs b) (nat_abs a) (nat_abs b)

pub square_le : (z : ℤ) {B : ℕ} → nat_abs z ≤ B → square z ≤ B * B
unfolding square
square_le z h = mul-le-mul h h

pub square_inv : (z : ℤ) (B : ℕ) → square z ≤ B * B → nat_abs z ≤ B
unfolding square
square_inv z B h = go (dec_le (nat_abs z) B)
  where
    go : Dec (nat_abs z ≤ B) → nat_abs z ≤ B
    go (yes k) = k
    go (no k) =
        let l : suc B ≤ nat_abs z = omega arith in
        absurd (omega (arith, mul-le-mul l l, suc-mul B (suc B), mul-suc B B))

pub square_zero : (z : ℤ) → square z ≡ 0 → z ≡ pos 0
square_zero z e = abs_zero z (omega (arith, square_inv z 0 (omega arith)))

-- ---- widths

module _ (w : Width) where
  pub fitsw : (z : ℤ) → nat_abs z < 2 ^ hbits w → SFits w z
  fitsw (pos n) h = record { sfits = h }
  fitsw (negsuc n) h = record { sfits = omega arith }

  pub backw : (z : ℤ) → nat_abs z < 2 ^ hbits w → to_z w (of_z w z) ≡ z
  backw z h = to_z-of_z (fitsw z h)

  pub fits_abs : (z : ℤ) → SFits w z → nat_abs z ≤ 2 ^ hbits w
  fits_abs z f = nat_abs-le z f.sfits

module _ (z : ℤ) where
  pub fits32 : nat_abs z < 2 ^ 31 → SFits w32 z
  fits32 h = fitsw w32 z h

  pub fits64 : nat_abs z < 2 ^ 63 → SFits w64 z
  fits64 h = fitsw w64 z h

  pub back32 : nat_abs z < 2 ^ 31 → to_z w32 (of_z w32 z) ≡ z
  back32 h = backw w32 z h

  pub back64 : nat_abs z < 2 ^ 63 → to_z w64 (of_z w64 z) ≡ z
  back64 h = backw w64 z h

-- ---- tests, at a bound B

module _ (z : ℤ) (B : ℕ) where
  pub within : le_z (neg_ℤ (pos B)) z ≡ true → le_z z (pos B) ≡ true → nat_abs z ≤ B
  within h k = (abs_le z B).1 (le_z_true (neg_ℤ (pos B)) z h, le_z_true z (pos B) k)

  pub within_not : lt_z z (neg_ℤ (pos B)) ≡ false → lt_z (pos B) z ≡ false → nat_abs z ≤ B
  within_not h k = (abs_le z B).1 (lt_z_false z (neg_ℤ (pos B)) h, lt_z_false (pos B) z k)

  beyond : (nat_abs z ≤ B → ⊥) → B < nat_abs z
  beyond h = omega arith

  pub abs_above : pos B +ℤ pos 1 ⊑ z → B < nat_abs z
  abs_above l = beyond (λ h. omega (arith, (abs_ℕ z B).0 h, (linear 2 (λ b z. b ⊕ # (pos 1) ≼ z) (pos B) z).0 l))

  pub abs_under : z +ℤ pos 1 ⊑ neg_ℤ (pos B) → B < nat_abs z
  abs_under l = beyond (λ h. omega (arith, (abs_ℕ z B).0 h, (linear 2 (λ b z. z ⊕ # (pos 1) ≼ ⊝ b) (pos B) z).0 l))

  pub above : lt_z (pos B) z ≡ true → B < nat_abs z
  above e = abs_above (lt_z_true (pos B) z e)

  pub under : lt_z z (neg_ℤ (pos B)) ≡ true → B < nat_abs z
  under e = abs_under (lt_z_true z (neg_ℤ (pos B)) e)

  pub above_not : le_z z (pos B) ≡ false → B < nat_abs z
  above_not e = abs_above (le_z_false z (pos B) e)

  pub under_not : le_z (neg_ℤ (pos B)) z ≡ false → B < nat_abs z
  under_not e = abs_under (le_z_false (neg_ℤ (pos B)) z e)

-- a value whose reading is below - B is not within B of 0, and any other is exactly when its reading is at most B
module _ (w : Width) (z : ℤ) (f : SFits w z) (B : ℕ) where
  pub low_test : lt_z (to_z w (of_z w z)) (neg_ℤ (pos B)) ≡ true → false ≡ leb (nat_abs z) B
  low_test t = sym (lt-leb (nat_abs z) B (under z B (ap (λ x. lt_z x (neg_ℤ (pos B))) (sym (to_z-of_z f)) ∙ t)))

  pub high_test : lt_z (to_z w (of_z w z)) (neg_ℤ (pos B)) ≡ false → le_z (to_z w (of_z w z)) (pos B) ≡ leb (nat_abs z) B
  high_test t = ap (λ x. le_z x (pos B)) (to_z-of_z f) ∙ go (le_z z (pos B)) refl
    where
      go : (b : Bool) → le_z z (pos B) ≡ b → b ≡ leb (nat_abs z) B
      go true e =
          let low = lt_z_false z (neg_ℤ (pos B)) (ap (λ x. lt_z x (neg_ℤ (pos B))) (sym (to_z-of_z f)) ∙ t) in
          sym (le-leb (nat_abs z) B ((abs_le z B).1 (low, le_z_true z (pos B) e)))
      go false e = sym (lt-leb (nat_abs z) B (above_not z B e))

pub abs_nonneg : (z : ℤ) → lt_z z (pos 0) ≡ false → z ≡ pos (nat_abs z)
abs_nonneg (pos n) e = refl
abs_nonneg (negsuc n) e = let o : ◌≡◌ {A = ℕ} 0 1 = cc in absurd (omega arith)

pub abs_negative : (z : ℤ) → lt_z z (pos 0) ≡ true → z ≡ neg_ℤ (pos (nat_abs z))
abs_negative (pos n) e = let h : n < 0 = ltb→lt n 0 (subst T (sym e) tt) in absurd (omega arith)
abs_negative (negsuc n) e = refl

-- worked calls: a range test of the code, and the fit of a square
in_range_lem : (z : ℤ) → le_z (neg_ℤ (pos 1000)) z ≡ true → le_z z (pos 1000) ≡ true → nat_abs z ≤ 1000
in_range_lem z h k = within z 1000 h k

square-back : (a x : ℤ) → nat_abs a ≤ 1000 → nat_abs x ≤ 1000 → to_z w64 (of_z w64 ((a -ℤ x) *ℤ (a -ℤ x))) ≡ (a -ℤ x) *ℤ (a -ℤ x)
square-back a x h k =
    let gap : nat_abs (a -ℤ x) ≤ 2000 = omega (arith, abs_sub a x) in
    back64 ((a -ℤ x) *ℤ (a -ℤ x)) (omega (arith, abs_mul (a -ℤ x) (a -ℤ x), mul-le-mul gap gap))
