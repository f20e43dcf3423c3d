-- The loop's invariant: what is printed so far, followed by the lines from the next row on, is the whole, and each row passed is within the
-- room of its line.
use Rattle.record_print.proofs.PrintSteps.{WeightsSoFar}
use Rattle.record_print.proofs.put_weights.Given as goal

abbrev pub invariant-loop-i : goal.invariant-loop-i
invariant-loop-i l = WeightsSoFar l.weights l.fn.out l.at l.out l.from l.i
