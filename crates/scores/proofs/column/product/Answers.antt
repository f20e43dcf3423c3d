-- `scores::column::product` meets its contract: a u64 holds the product of two numbers of 32 bits.
use Prim.Native.Nat.{◌≤◌}
use native.Mathlib.Nat.{mul-le-mul}
use native.Mathlib.Omega.{arith}
use Rattle.scores.proofs.column.product.Goals as goal

pub overflow_mul-result : goal.overflow_mul-result
overflow_mul-result c =
    let first : c.args.t ≤ 4294967295 = omega arith in
    let second : c.args.distance ≤ 4294967295 = omega arith in
    record { fits = omega (arith, mul-le-mul first second) }
