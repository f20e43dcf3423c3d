-- `scores::column::raised` meets its contract: the product is at most `total` times what 32 bits hold, and a u64 holds the sum.
use Prim.Native.Nat.{◌*◌, ◌≤◌}
use native.Mathlib.Nat.{mul-le-mul}
use native.Mathlib.Omega.{arith}
use Rattle.limits.specs.Limits.{total}
use Rattle.scores.proofs.column.raised.Goals as goal

pub overflow_add-result : goal.overflow_add-result
overflow_add-result c =
    let most : c.args.t * c.args.distance ≤ total * 4294967295 = mul-le-mul {m₂ = 4294967295} c.requires.1 (omega arith) in
    record { fits = omega (arith, c.product.ensures) }
