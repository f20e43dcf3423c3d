-- `checking::weights_total` meets its contract. The loop's invariant: the sum is that of the weights passed, each of which fits 32 bits.
--
use Prim.Native.Nat.{◌≤◌, ◌*◌}
use mathlib.Core.Path.{◌≡◌}
use Rattle.geometry.specs.Places.{weights_total}
use Rattle.checking.proofs.weights_total.Given as goal

abbrev pub invariant-loop-i : goal.invariant-loop-i
invariant-loop-i l = (l.i ≤ l.m) × ((l.sum ≡ weights_total l.i l.weights) × (l.sum ≤ l.i * 4294967295))
