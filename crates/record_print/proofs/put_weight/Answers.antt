-- A line of a word and numbers: row and weight are printed as the numbers that they are.
use native.Mathlib.Omega.{arith}
use Rattle.record_print.proofs.PrintSteps.{weight_below, weight_put}
use Rattle.record_print.proofs.put_weight.Goals as goal

pub returns : goal.returns
returns c = weight_put c.args.row c.args.weight (weight_below c.args.row c.args.weight (omega arith) (omega arith)) c.put_line.ensures
