use Prim.Native.Nat.{ℕ, ◌≤◌, ◌<◌}
use native.Mathlib.Omega.{arith}
use lib.ListN.{length}
use Rattle.number.specs.Number.{print_magnitude}
use Rattle.number.specs.NumberLaws.{magnitude_short}
use Rattle.number.specs.Clauses.{magnitude_limit}
use Rattle.printing.specs.Clauses.{number_digits}
use Rattle.printing.specs.ContractLaws.{printing_none, printing_next, printing_done}
use Rattle.printing.proofs.put_magnitude.Goals as goal

width-most : (n : ℕ) → n < magnitude_limit → length (print_magnitude n) ≤ number_digits
width-most n h = magnitude_short number_digits n (omega arith) (omega arith)

pub overflow_add-end : goal.overflow_add-end
overflow_add-end c = omega (arith, width-most c.args.magnitude c.requires.0)

pub loop-place-init : goal.loop-place-init
loop-place-init c = printing_none _ _ _ _ (omega arith) (omega (arith, width-most c.args.magnitude c.requires.0))

pub loop-place-preserved : goal.loop-place-preserved
loop-place-preserved c = printing_next c.loop-place-test.true c.loop-place.invariant

pub returns : goal.returns
returns c = printing_done c.loop-place-test.false c.loop-place.invariant
