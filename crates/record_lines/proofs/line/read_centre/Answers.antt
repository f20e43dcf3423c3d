-- The line is a `C` line where it starts with the word and n numbers and ends with them.
use Rattle.record_lines.proofs.LineSteps.{centre_read}
use Rattle.record_lines.proofs.line.read_centre.Goals as goal

pub returns : goal.returns
returns c = rw c.eq.ensures (centre_read c.read_numbers.ensures)
