-- `chart::fraction` meets its contract: both whole numbers are binary64 numbers, and their quotient is the fraction.
use mathlib.Core.Path.{sym, ap, ◌∙◌, subst}
use lib.Dec.{T, lit<, lit≤}
use lib.IntN.{ℤ, pos}
use lib.Ieee.{binary64, in_float, div, of_int}
use mir.Syntax.{w64}
use mir.ValLaws.{to_z-of_z}
use Rattle.limits.specs.Limits.{total}
use Rattle.chart.specs.FractionLaws.{in_float_lem, quotient_fraction}
use Rattle.chart.proofs.fraction.Goals as goal

pub int_to_float-result : goal.int_to_float-result
int_to_float-result c = subst (λ (z : ℤ). T (in_float binary64 z)) (sym (to_z-of_z w64 c.args.x c.ranges.x)) (in_float_lem c.args.x c.requires)

pub returns : goal.returns
returns c =
    ap (λ (z : ℤ). div binary64 (of_int binary64 z) (of_int binary64 (pos total))) (to_z-of_z w64 c.args.x c.ranges.x)
    ∙ quotient_fraction total (lit< tt) (lit≤ tt) c.args.x c.requires
