use mathlib.Core.Path.{◌≡◌, ◌∙◌, ap}
use native.Mathlib.Omega.{arith}
use Rattle.geometry.specs.Places.{weights_total}
use Rattle.checking.specs.CheckLaws.{weights_total_zero, weights_total_next}
use Rattle.checking.proofs.weights_total.Goals as goal

pub loop-i-init : goal.loop-i-init
loop-i-init c = omega (arith, weights_total_zero c.args.weights.now)

pub overflow_add-sum : goal.overflow_add-sum
overflow_add-sum c = omega (arith, c.type_inv.weights c.loop-i.i)

pub loop-i-preserved : goal.loop-i-preserved
loop-i-preserved c =
    let i = c.loop-i.i in
    omega (arith, c.type_inv.weights i, weights_total_next i c.args.weights.now)

pub returns : goal.returns
returns c =
    let all : c.loop-i.i ≡ c.args.m = omega arith in
    c.loop-i.invariant.1.0 ∙ ap (λ i. weights_total i c.args.weights.now) all
