use mathlib.Core.Path.{◌≡◌, refl, ap, ◌∙◌}
use native.Mathlib.Omega.{arith}
use mir.Syntax.{w32}
use Rattle.integers.specs.Reading.{passed}
use Rattle.limits.specs.Limits.{total}
use Rattle.geometry.specs.Places.{tabulate, centre_of, centre_list}
use Rattle.geometry.specs.PlacesLaws.{centre_list_stored}
use Rattle.geometry.specs.TableLaws.{centre_held}
use Rattle.panel_steps.specs.Panel.{nearest_step}
use Rattle.panel_steps.specs.PanelLaws.{nearest_most}
use Rattle.panel_steps.proofs.steps_of.Invariants.{stepsIn}
use Rattle.panel_steps.proofs.steps_of.Goals as goal

pub loop-k-init : goal.loop-k-init
unfolding centre_list tabulate
loop-k-init c = refl

pub nearest_step-requires : goal.nearest_step-requires
nearest_step-requires c = passed (centre_held c.requires.1 c.loop-k.k (omega arith))

pub loop-k-preserved : goal.loop-k-preserved
loop-k-preserved c =
    let l = c.loop-k in
    let held = centre_held c.requires.1 l.k (omega arith) in
    centre_list_stored (stepsIn c.args.scaled_centre.now) l.k (omega arith) w32 l.steps c.nearest_step.result
    (omega (arith, nearest_most total (omega arith) (centre_of c.args.scaled_centre.now l.k) held.most))
    l.invariant (c.nearest_step.ensures ∙ ap (nearest_step total) held.is)

pub returns : goal.returns
returns c =
    let a = c.args in
    let e : c.loop-k.k ≡ a.n = omega arith in
    c.loop-k.invariant ∙ ap (λ k. centre_list k (stepsIn a.scaled_centre.now)) e
