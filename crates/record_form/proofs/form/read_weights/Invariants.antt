-- The loop keeps what `WeightsSoFar` says of the lines so far and of the text from here on; each turn passes a line, so that what is
-- left of the text falls. Each return is a law of the walk.
use Prim.Native.Nat.{◌-◌}
use lib.ListN.{length}
use Rattle.record_form.proofs.WalkSteps.{WeightsSoFar}
use Rattle.record_form.proofs.form.read_weights.Given as goal

abbrev pub invariant-loop-from : goal.invariant-loop-from
invariant-loop-from l = WeightsSoFar l.text l.at l.fn.weights l.weights l.from l.last l.line

abbrev pub decreases-loop-from : goal.decreases-loop-from
decreases-loop-from l = length l.text - l.from
