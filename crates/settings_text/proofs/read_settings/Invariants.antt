-- The loop's invariant: the lines so far are settings, their numbers stand in the first places, and what the text is read as is they with
-- what the lines from here on are read as. A line too many, one without its byte 10 and one that is no setting decide the answer. What is
-- left of the text falls.
use Prim.Native.Nat.{◌-◌}
use lib.ListN.{length}
use Rattle.settings_text.proofs.ReadSteps.{SettingsSoFar}
use Rattle.settings_text.proofs.read_settings.Given as goal

abbrev pub invariant-loop-at : goal.invariant-loop-at
invariant-loop-at l = SettingsSoFar l.text l.fn.settings l.settings l.lines l.at

abbrev pub decreases-loop-at : goal.decreases-loop-at
decreases-loop-at l = length l.text - l.at
