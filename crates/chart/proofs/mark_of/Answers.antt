-- `chart::mark_of` meets its contract: a dot where M is 0, else a disc with the root as a fraction.
use mathlib.Core.Path.{sym, ap, ◌∙◌}
use native.Mathlib.Omega.{arith}
use lib.IntN.{pos, nat_abs}
use mir.Syntax.{w64}
use mir.ValLaws.{to_z_pos}
use Rattle.limits.specs.Limits.{total}
use Rattle.chart.specs.Fraction.{fraction_of}
use Rattle.chart.specs.Mark.{mark_of, Disc}
use Rattle.chart.specs.MarkLaws.{disc_of}
use Rattle.chart.proofs.mark_of.Goals as goal

pub returns-then-scaled_squared_radius-eq0 : goal.returns-then-scaled_squared_radius-eq0
returns-then-scaled_squared_radius-eq0 c =
    let s = c.args in
    sym (ap (mark_of total s.point) c.if-scaled_squared_radius-eq0.true)

pub fraction-radius-requires : goal.fraction-radius-requires
fraction-radius-requires c = omega (arith, ap nat_abs (to_z_pos w64 c.ceiling_root-root.result (omega arith)))

pub returns : goal.returns
returns c =
    let s = c.args in
    let root = c.ceiling_root-root in
    ap (Disc s.point)
    (c.fraction-radius.ensures ∙ ap (fraction_of total) (to_z_pos w64 root.result (omega arith) ∙ ap pos root.ensures.is))
    ∙ sym (disc_of total s.point s.scaled_squared_radius c.if-scaled_squared_radius-eq0.false)
