use Rattle.std.proofs.Common.{arith}
use Rattle.std.proofs.lemmas.Bool.Decides.{nat_tests}
use Rattle.agreement.specs.Agreement.{ball_agrees}
use Rattle.agreement.proofs.ball_agrees.Goals as goal

pub returns-then-ball-given-2 : goal.returns-then-ball-given-2
unfolding ball_agrees
returns-then-ball-given-2 c = grind (arith, nat_tests)

pub returns-else-ball-given-2 : goal.returns-else-ball-given-2
unfolding ball_agrees
returns-else-ball-given-2 c = grind (arith, nat_tests)
