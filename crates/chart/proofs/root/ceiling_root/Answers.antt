use Prim.Native.Nat.{ℕ, ◌+◌, ◌*◌, ◌/◌, ◌≤◌}
use mathlib.Core.Path.{◌≡◌, subst}
use native.Mathlib.Nat.{mul-le-mul}
use native.Mathlib.Omega.{arith}
use Rattle.limits.specs.Limits.{total}
use Rattle.chart.specs.Root.{root_limit}
use Rattle.chart.specs.RootLaws.{root_is}
use Rattle.chart.proofs.root.ceiling_root.Goals as goal

pub overflow_mul-middle : goal.overflow_mul-middle
overflow_mul-middle c =
    let l = c.loop-low in
    let most : (l.low + l.high) / 2 ≤ root_limit total = omega arith in
    omega (arith, mul-le-mul most most)

pub loop-low-preserved-then-middle-scaled_squared_radius : goal.loop-low-preserved-then-middle-scaled_squared_radius
loop-low-preserved-then-middle-scaled_squared_radius c =
    let l = c.loop-low in
    (omega arith, l.invariant.1, omega arith, l.invariant.3)

pub loop-low-preserved : goal.loop-low-preserved
loop-low-preserved c =
    let l = c.loop-low in
    (omega arith, omega arith, l.invariant.2, omega arith)

pub returns : goal.returns
returns c =
    let l = c.loop-low in
    let M = c.args.scaled_squared_radius in
    let next : l.high ≡ l.low + 1 = omega arith in
    record { is = root_is M l.low l.invariant.2 (subst (λ (x : ℕ). M ≤ x * x) next l.invariant.3); most = omega arith }
