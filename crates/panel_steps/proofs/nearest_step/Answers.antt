-- `panel_steps::nearest_step` meets its contract: the magnitude is rounded, and a place of X below 0 has the opposite of that.
use Prim.Native.Nat.{ℕ, ◌^◌, ◌<◌}
use mathlib.Core.Path.{◌≡◌, refl, sym, ap, ◌∙◌}
use mathlib.Core.Bool.{true, false}
use native.Mathlib.Omega.{arith}
use borrow.Author.Tests.{le-ltb}
use lib.IntN.{ℤ, pos, negsuc, nat_abs, neg_ℤ, ◌-ℤ◌, +ℤ_idl}
use lib.Signed.{lt_z}
use mir.Syntax.{w32}
use mir.Val.{SFits, to_z}
use mir.ValLaws.{to_z_pos}
use Rattle.integers.specs.Tests.{clash}
use Rattle.integers.specs.Absolute.{abs_neg, abs_nonneg, fits32, back32, back64}
use Rattle.integers.specs.Reading.{Bounded, back, number_cast, sign_read, opposite_fits, opposite_read, natural_read}
use Rattle.limits.specs.Limits.{total, coordinate_limit}
use Rattle.panel_steps.specs.Panel.{nearest_magnitude, nearest_step}
use Rattle.panel_steps.proofs.nearest_step.Goals as goal

step-below : (D : ℕ) (z : ℤ) → lt_z z (pos 0) ≡ true → nearest_step D z ≡ neg_ℤ (pos (nearest_magnitude D (nat_abs z)))
step-below D (pos k) e = clash e (le-ltb k 0 (omega arith))
step-below D (negsuc k) e = refl

step-natural : (D : ℕ) (z : ℤ) → lt_z z (pos 0) ≡ false → nearest_step D z ≡ pos (nearest_magnitude D (nat_abs z))
step-natural D z e = ap (nearest_step D) (abs_nonneg z e)

-- a rounded magnitude r, and its opposite, as an i32
module _ (r : ℕ) {d : ℕ} (b : Bounded coordinate_limit r d) where
  signed : to_z w32 r ≡ pos d
  signed = to_z_pos w32 r (omega (arith, b.most)) ∙ ap pos b.is

  opposite : pos 0 -ℤ to_z w32 r ≡ neg_ℤ (pos d)
  opposite = ap (λ x. pos 0 -ℤ x) signed ∙ +ℤ_idl (neg_ℤ (pos d))

  opposite-held : SFits w32 (pos 0 -ℤ to_z w32 r) × (back w32 (pos 0 -ℤ to_z w32 r) ≡ neg_ℤ (pos d))
  opposite-held =
      let z = pos 0 -ℤ to_z w32 r in
      let small : nat_abs z < 2 ^ 31 = omega (arith, b.most, b.is, ap nat_abs opposite, abs_neg (pos d)) in
      (fits32 z small, back32 z small ∙ opposite)

pub overflow_sub-x : goal.overflow_sub-x
overflow_sub-x c = opposite_fits c.args.x (omega arith) c.if-x-lt0.true

pub overflow_cast-x : goal.overflow_cast-x
overflow_cast-x c =
    let x = c.args.x in
    number_cast w32 (nat_abs x) (opposite_read x (omega arith) c.if-x-lt0.true) (omega arith)

pub nearest_magnitude-below-requires : goal.nearest_magnitude-below-requires
nearest_magnitude-below-requires c = omega (arith, ap nat_abs (opposite_read c.args.x (omega arith) c.if-x-lt0.true))

pub overflow_sub-result : goal.overflow_sub-result
overflow_sub-result c = (opposite-held c.nearest_magnitude-below.result c.nearest_magnitude-below.ensures).0

pub returns-then-x-lt0 : goal.returns-then-x-lt0
returns-then-x-lt0 c =
    let x = c.args.x in
    let taken = c.if-x-lt0.true in
    (opposite-held c.nearest_magnitude-below.result c.nearest_magnitude-below.ensures).1
    ∙ ap (λ y. neg_ℤ (pos (nearest_magnitude total (nat_abs y)))) (opposite_read x (omega arith) taken)
    ∙ sym (step-below total x (sign_read x (omega arith) true taken))

pub overflow_cast-x-2 : goal.overflow_cast-x-2
overflow_cast-x-2 c =
    let x = c.args.x in
    number_cast w32 (nat_abs x) (natural_read x (omega arith) c.if-x-lt0.false) (omega arith)

pub returns : goal.returns
returns c =
    let x = c.args.x in
    let left = c.if-x-lt0.false in
    signed c.nearest_magnitude.result c.nearest_magnitude.ensures
    ∙ ap (λ y. pos (nearest_magnitude total (nat_abs y))) (back64 x (omega arith))
    ∙ sym (step-natural total x (sign_read x (omega arith) false left))
