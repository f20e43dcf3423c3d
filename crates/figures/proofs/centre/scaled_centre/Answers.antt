use mathlib.Core.Path.{◌≡◌, refl, ap, ◌∙◌}
use native.Mathlib.Omega.{arith}
use mir.Syntax.{w64}
use Rattle.geometry.specs.Figures.{scaled_centre}
use Rattle.geometry.proofs.FigureLaws.{centre_at_most}
use Rattle.geometry.specs.Move.{weight_of}
use Rattle.geometry.specs.Table.{coordinate}
use Rattle.geometry.specs.Places.{tabulate, centre_list}
use Rattle.geometry.specs.PlacesLaws.{centre_list_stored}
use Rattle.figures.proofs.centre.scaled_centre.Goals as goal

pub loop-k-init : goal.loop-k-init
unfolding centre_list tabulate
loop-k-init c = (omega arith, refl)

pub loop-k-preserved : goal.loop-k-preserved
loop-k-preserved c =
    let l = c.loop-k in
    let X = scaled_centre (coordinate c.args.rows.now c.args.n) (weight_of c.args.weights.now) c.args.m in (
      omega arith,
      centre_list_stored X l.k (omega arith) w64 l.scaled_centre c.centre_of_channel.result
          (omega (arith, centre_at_most c.requires.0 c.requires.1 l.k (omega arith))) l.invariant.1 c.centre_of_channel.ensures,
    )

pub returns : goal.returns
returns c =
    let a = c.args in
    let e : c.loop-k.k ≡ a.n = omega arith in
    c.loop-k.invariant.1 ∙ ap (λ k. centre_list k (scaled_centre (coordinate a.rows.now a.n) (weight_of a.weights.now) a.m)) e
