-- Each case starts after the one before it, so that what is left of the input falls.
use Rattle.std.proofs.Common.{length, ◌-◌}
use Rattle.reference_cases.proofs.run_all.Given as goal

abbrev pub decreases-loop-at : goal.decreases-loop-at
decreases-loop-at l = length l.input - l.at
