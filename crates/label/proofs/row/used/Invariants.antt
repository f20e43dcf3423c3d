-- Whether the key is among the first keys is whether it is among those not passed yet.
use Prim.Native.Nat.{◌≤◌}
use mathlib.Core.Path.{◌≡◌}
use lib.ListN.{take, drop}
use Rattle.label.specs.RowLabel.{key_used}
use Rattle.label.proofs.row.used.Given as goal

abbrev pub invariant-loop-i : goal.invariant-loop-i
invariant-loop-i l = (l.i ≤ l.count) × (key_used l.key (take l.count l.keys) ≡ key_used l.key (drop l.i (take l.count l.keys)))
