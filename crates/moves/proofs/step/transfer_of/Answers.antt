-- `moves::step::transfer_of` meets its contract: the quotient is below the weight exactly where the dividend is below the weight times the
-- divisor.
use Prim.Native.Nat.{ℕ, ◌*◌, ◌/◌, ◌≤◌, ◌<◌}
use native.Mathlib.Nat.{div-lt_iff_lt-mul, le-div_iff_mul-le, mul-le-mul}
use native.Mathlib.Omega.{arith}
use Rattle.limits.specs.Limits.{separation_limit}
use Rattle.moves.proofs.step.transfer_of.Goals as goal

below : {x y w : ℕ} → 0 < y → x < w * y → x / y < w
below positive = (div-lt_iff_lt-mul positive).1

above : {x y w : ℕ} → 0 < y → w * y ≤ x → w ≤ x / y
above positive = (le-div_iff_mul-le positive).1

pub overflow_mul-weight : goal.overflow_mul-weight
overflow_mul-weight c =
    let a = c.args in
    record {
      fits = omega (arith, mul-le-mul {n₁ = a.weight} {m₁ = 2 * a.separation} {n₂ = 4294967295} {m₂ = 2 * separation_limit} (omega (arith, c.ranges.weight)) (omega (arith, c.requires.1.0)));
    }

pub returns-then-weight-divisor : goal.returns-then-weight-divisor
returns-then-weight-divisor c =
    let most = above (omega (arith, c.requires.0)) c.if-weight-divisor.true in
    record { is = omega (arith, most); most = omega arith }

pub overflow_cast-result : goal.overflow_cast-result
overflow_cast-result c = record { fits = omega (arith, below (omega (arith, c.requires.0)) c.if-weight-divisor.false, c.ranges.weight) }

pub returns : goal.returns
returns c =
    let less = below (omega (arith, c.requires.0)) c.if-weight-divisor.false in
    record { is = omega (arith, less); most = omega (arith, less) }
