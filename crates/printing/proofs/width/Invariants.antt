-- `printing::width` meets its contract. The loop's invariant: the number has the digits counted and those of `rest`. The measure
-- is `rest`.
use Prim.Native.Nat.{◌+◌, ◌/◌, ◌≤◌}
use mathlib.Core.Path.{◌≡◌}
use lib.ListN.{length}
use Rattle.number.specs.Number.{decimal, print_magnitude}
use Rattle.printing.proofs.width.Given as goal

abbrev pub invariant-loop-rest : goal.invariant-loop-rest
invariant-loop-rest l = (l.digits + l.rest ≤ 1 + l.magnitude / 10) × (length (print_magnitude l.magnitude) ≡ l.digits + length (decimal l.rest l.rest))

abbrev pub decreases-loop-rest : goal.decreases-loop-rest
decreases-loop-rest l = l.rest
