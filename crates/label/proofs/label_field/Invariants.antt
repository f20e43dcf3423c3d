-- The loop keeps what `Labelling` says of the bytes passed. Where the field ends past them their number is its; where it does not,
-- the loop was left by a byte that is no label's or past as many as a label can have.
use Rattle.label.specs.ContractLaws.{Labelling}
use Rattle.label.proofs.label_field.Given as goal

abbrev pub invariant-loop-i : goal.invariant-loop-i
invariant-loop-i l = Labelling l.line l.i l.key
