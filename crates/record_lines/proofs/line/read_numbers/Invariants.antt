-- The loop's invariant: the fields so far are numbers, the numbers of all are they with those of the fields from here on, and they
-- stand in the first places. A first field that is not the word, and a field that is missing or no number, decide the answer.
use Rattle.record_lines.proofs.LineSteps.{NumbersSoFar}
use Rattle.record_lines.proofs.line.read_numbers.Given as goal

abbrev pub invariant-loop-i : goal.invariant-loop-i
invariant-loop-i l = NumbersSoFar l.word l.count l.line l.fn.numbers l.numbers l.from l.i
