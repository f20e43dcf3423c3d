use mathlib.Core.Path.{ap}
use native.Mathlib.Omega.{arith}
use lib.ListN.{length}
use Rattle.number.specs.NumberLaws.{decimal_none}
use Rattle.printing.specs.ContractLaws.{width_first, width_next}
use Rattle.printing.proofs.width.Goals as goal

pub loop-rest-init : goal.loop-rest-init
loop-rest-init c = (omega arith, width_first _)

pub loop-rest-preserved : goal.loop-rest-preserved
loop-rest-preserved c = (omega arith, omega (arith, width_next c.loop-rest.rest c.loop-rest-test.true))

pub returns : goal.returns
returns c = omega (arith, ap length (decimal_none c.loop-rest.rest c.loop-rest.rest (omega arith)))
