-- The loop's invariant: each number passed is within the range of its type. One that is not decides the answer.
use Rattle.reference_write.proofs.RangeSteps.{InRanges}
use Rattle.reference_write.proofs.row_in_range.Given as goal

abbrev pub invariant-loop-i : goal.invariant-loop-i
invariant-loop-i l = InRanges l.codes l.numbers l.n l.i
