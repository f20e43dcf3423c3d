-- `panel_steps::nearest_magnitude` meets its contract: the quotient is the definition's own, and nothing on the way to it is too large.
use mathlib.Core.Path.{refl}
use native.Mathlib.Omega.{arith}
use Rattle.panel_steps.proofs.nearest_magnitude.Goals as goal

pub returns : goal.returns
returns c = record { is = refl; most = omega arith }
