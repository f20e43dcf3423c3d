-- `panel_steps::steps_of` meets its contract. The loop's invariant: the places passed hold their channels' steps, the others 0.
use Prim.Native.Nat.{ℕ}
use mathlib.Core.Path.{◌≡◌}
use mathlib.Core.List.{List}
use lib.IntN.{ℤ}
use Rattle.limits.specs.Limits.{total}
use Rattle.geometry.specs.Places.{centre_of, centre_list}
use Rattle.panel_steps.specs.Panel.{nearest_step}
use Rattle.panel_steps.proofs.steps_of.Given as goal

abbrev pub stepsIn : List ℤ → ℕ → ℤ
stepsIn x k = nearest_step total (centre_of x k)

abbrev pub invariant-loop-k : goal.invariant-loop-k
invariant-loop-k l = l.steps ≡ centre_list l.k (stepsIn l.scaled_centre)
