-- `scores::column::moved_score` meets its contract: t times the shifted difference is t times the difference and t times the shift.
use Prim.Native.Nat.{ℕ, ◌+◌, ◌-◌, ◌*◌, ◌≤◌}
use mathlib.Core.Path.{◌≡◌, ap}
use native.Mathlib.Nat.{mul-add, mul-le-mul}
use native.Mathlib.Omega.{arith}
use Rattle.limits.specs.Limits.{total}
use Rattle.scores.specs.Clauses.{offset}
use Rattle.scores.proofs.column.moved_score.Goals.{After-product-2}
use Rattle.scores.proofs.column.moved_score.Goals as goal

shifted : (t g l s : ℕ) → l ≤ s → t * (g + s - l) + t * l ≡ t * g + t * s
shifted t g l s h =
    let back : g + s - l + l ≡ g + s = omega arith in
    omega (arith, mul-add t (g + s - l) l, mul-add t g s, ap (λ x. t * x) back)

product-most : (t d : ℕ) → t ≤ total → d ≤ 4294967295 → t * d ≤ total * 4294967295
product-most t d a b = mul-le-mul a b

-- the two products, with what is taken off beside the one and what is added beside the other, are equal
even : (c : After-product-2) → let a = c.args in c.product.result + a.t * a.lost ≡ a.t * a.gained + c.product-2.result
even c =
    let a = c.args in
    omega (
      arith,
      c.product.ensures,
      c.product-2.ensures,
      shifted a.t a.gained a.lost offset (omega (arith, c.requires.lost_most)),
    )

pub overflow_add-result : goal.overflow_add-result
overflow_add-result c =
    let a = c.args in
    let asked = c.requires in
    record {
      fits =
          omega (
            arith,
            c.product.ensures,
            asked.score_most,
            product-most a.t (a.gained + offset - a.lost) asked.factor (omega (arith, asked.gained_most)),
          );
    }

pub overflow_sub-result : goal.overflow_sub-result
overflow_sub-result c = omega (arith, even c, c.requires.held)

pub returns : goal.returns
returns c = omega (arith, even c, c.requires.held)
