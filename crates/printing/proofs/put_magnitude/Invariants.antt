-- `printing::put_magnitude` meets its contract. The loop's invariant: the digits of `rest` up to `place`, and the bytes printed from
-- `place` on, are the number.
use Rattle.number.specs.Number.{print_magnitude}
use Rattle.printing.specs.ContractLaws.{Printing}
use Rattle.printing.proofs.put_magnitude.Given as goal

abbrev pub invariant-loop-place : goal.invariant-loop-place
invariant-loop-place l = Printing (print_magnitude l.magnitude) l.fn.out l.at l.end l.out l.rest l.place
