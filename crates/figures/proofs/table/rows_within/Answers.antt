use Rattle.std.proofs.Common.{arith}
use Rattle.std.proofs.lemmas.Bool.Decides.{nat_tests}
use Rattle.geometry.specs.Table.{rows_within}
use Rattle.figures.proofs.table.rows_within.Goals as goal

pub returns-then-m-n : goal.returns-then-m-n
unfolding rows_within
returns-then-m-n c = grind (arith, nat_tests)

pub returns-else-m-n : goal.returns-else-m-n
unfolding rows_within
returns-else-m-n c = grind (arith, nat_tests)
