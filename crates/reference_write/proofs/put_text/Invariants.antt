-- The heading is printed, then row by row what `Walk` says. A row with a fault decides the answer.
use lib.ListN.{length}
use Rattle.reference_write.specs.Writing.{lent_table}
use Rattle.reference_write.proofs.Walk.{Walk}
use Rattle.reference_write.proofs.put_text.Given as goal

abbrev pub invariant-loop-i : goal.invariant-loop-i
invariant-loop-i l = Walk (lent_table l.rows (length l.ends) l.n l.codes l.labels l.ends) l.out l.keys l.marks l.at l.from l.place l.i
