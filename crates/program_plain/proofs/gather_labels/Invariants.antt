-- The loop's invariant: the labels of the rows so far are gathered, each in its room.
use Rattle.program_plain.proofs.GatherSteps.{Gathering}
use Rattle.program_plain.proofs.gather_labels.Given as goal

abbrev pub invariant-loop-row : goal.invariant-loop-row
invariant-loop-row l = Gathering l.text l.starts l.fn.labels l.fn.ends l.labels l.ends l.length l.row
