-- `chart::centre_fraction` meets its contract: the place of X is read back as it stands, since it is within its limit.
use mathlib.Core.Path.{ap, ◌∙◌}
use Prim.Native.Nat.{◌-◌}
use native.Mathlib.Omega.{arith}
use Rattle.integers.specs.Reading.{passed}
use Rattle.limits.specs.Limits.{total}
use Rattle.geometry.specs.TableLaws.{centre_held}
use Rattle.chart.specs.Fraction.{fraction_of}
use Rattle.chart.proofs.centre_fraction.Goals as goal

pub fraction-requires : goal.fraction-requires
fraction-requires c = omega (arith, passed (centre_held c.requires.0 (c.args.channel - 1) (omega arith)))

pub returns : goal.returns
returns c = c.fraction.ensures ∙ ap (fraction_of total) (centre_held c.requires.0 (c.args.channel - 1) (omega arith)).is
