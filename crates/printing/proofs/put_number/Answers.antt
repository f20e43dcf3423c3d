-- `printing::put_number` meets its contract. A number below 0 is printed as a hyphen and its magnitude, any other as its magnitude.
use Prim.Native.Nat.{◌^◌, ◌<◌}
use mathlib.Core.Path.{◌≡◌, refl, sym, ap, ◌∙◌}
use mathlib.Core.Bool.{true, false}
use mathlib.Core.List.{◌∷◌}
use native.Mathlib.Omega.{arith}
use lib.IntN.{ℤ, pos, nat_abs, ◌-ℤ◌}
use lib.ListN.{length-set}
use lib.Signed.{lt_z}
use mir.Syntax.{w64}
use Rattle.integers.specs.Absolute.{back64}
use Rattle.integers.specs.Reading.{back, number_cast, sign_read, opposite_fits, opposite_read, natural_read}
use Rattle.number.specs.Number.{hyphen, print_magnitude, print}
use Rattle.number.specs.NumberLaws.{print_natural, print-negative}
use Rattle.printing.specs.ContractLaws.{put_byte, put_then, put_as}
use Rattle.printing.proofs.put_number.Goals as goal

module _ (z : ℤ) (most : nat_abs z < 2 ^ 63) where
  printed-negative : lt_z (back w64 z) (pos 0) ≡ true → hyphen ∷ print_magnitude (nat_abs (back w64 (pos 0 -ℤ back w64 z))) ≡ print z
  printed-negative negative =
      ap (λ x. hyphen ∷ print_magnitude (nat_abs x)) (opposite_read z most negative) ∙ sym (print-negative z (sign_read z most true negative))

  printed-natural : lt_z (back w64 z) (pos 0) ≡ false → print_magnitude (nat_abs (back w64 z)) ≡ print z
  printed-natural natural = ap (λ x. print_magnitude (nat_abs x)) (back64 z most) ∙ sym (print_natural z (sign_read z most false natural))

pub overflow_sub-number : goal.overflow_sub-number
overflow_sub-number c = opposite_fits c.args.number (omega arith) c.if-number-lt0.true

pub overflow_cast-number : goal.overflow_cast-number
overflow_cast-number c = number_cast w64 (nat_abs c.args.number) (opposite_read c.args.number (omega arith) c.if-number-lt0.true) (omega arith)

pub put_magnitude-requires : goal.put_magnitude-requires
put_magnitude-requires c =
    let read = opposite_read c.args.number (omega arith) c.if-number-lt0.true in
    (omega (arith, ap nat_abs read), omega (arith, length-set c.args.out.now c.args.at hyphen))

pub shape_of-out-then-number-lt0 : goal.shape_of-out-then-number-lt0
shape_of-out-then-number-lt0 c = c.put_magnitude.ensures.same_length ∙ length-set c.args.out.now c.args.at hyphen

pub returns-then-number-lt0 : goal.returns-then-number-lt0
returns-then-number-lt0 c =
    put_as
    (put_then (put_byte c.args.out.now c.args.at hyphen (omega arith)) c.put_magnitude.ensures)
    (printed-negative c.args.number (omega arith) c.if-number-lt0.true)
    refl

pub overflow_cast-number-2 : goal.overflow_cast-number-2
overflow_cast-number-2 c = number_cast w64 (nat_abs c.args.number) (natural_read c.args.number (omega arith) c.if-number-lt0.false) (omega arith)

pub put_magnitude-requires-2 : goal.put_magnitude-requires-2
put_magnitude-requires-2 c =
    let read = natural_read c.args.number (omega arith) c.if-number-lt0.false in
    (omega (arith, ap nat_abs read), omega arith)

pub returns : goal.returns
returns c =
    put_as c.put_magnitude-2.ensures
    (printed-natural c.args.number (omega arith) c.if-number-lt0.false) refl
