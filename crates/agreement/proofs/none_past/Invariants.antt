-- `agreement::none_past` meets its contract. The loop's invariant: the weights passed, from place m on, are 0. A weight that is
-- not decides the answer.
use Prim.Native.Nat.{ℕ, ◌-◌, ◌≤◌, ◌<◌}
use mathlib.Core.Path.{◌≡◌}
use lib.ListN.{length, get_or}
use Rattle.agreement.proofs.none_past.Given as goal

abbrev pub invariant-loop-i : goal.invariant-loop-i
invariant-loop-i l = (l.m ≤ l.i) × ((j : ℕ) → j < l.i → l.m ≤ j → get_or l.weights j 0 ≡ 0)
