-- The loop's invariant: the index is within the slice, which keeps its length. The measure is what is left of the slice.
use Rattle.std.proofs.Common.{length, ◌-◌, ◌≤◌}
use Rattle.program_io.proofs.descriptor.read_descriptor.Given as goal

abbrev pub invariant-loop-at : goal.invariant-loop-at
invariant-loop-at g l = l.at ≤ length l.text

abbrev pub decreases-loop-at : goal.decreases-loop-at
decreases-loop-at g l = length l.initial.text - l.at
