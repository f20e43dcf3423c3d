-- The loop keeps the test of all ends as the test of those from here on.
use mathlib.Core.Path.{◌≡◌}
use lib.ListN.{length, drop}
use Rattle.reference_write.specs.Labels.{ends_reach}
use Rattle.reference_write.proofs.ends_within.Given as goal

abbrev pub invariant-loop-end : goal.invariant-loop-end
invariant-loop-end l = ends_reach 0 l.ends (length l.labels) ≡ ends_reach l.reached (drop l.end-index l.ends) (length l.labels)
