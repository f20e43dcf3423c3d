-- The loop gives each place of the two slices its number. A place past the settings stays as it was.
use Rattle.lists.specs.Placed.{Placed}
use Rattle.alert_settings.proofs.SplitSteps.{first_at, second_at}
use Rattle.alert_settings.proofs.split.Given as goal

abbrev pub invariant-loop-j : goal.invariant-loop-j
invariant-loop-j l = Placed (first_at l.settings) 0 l.initial.ks l.ks l.j × Placed (second_at l.settings) 0 l.initial.cs l.cs l.j
