-- The place that is marked is the number's.
use mathlib.Core.Path.{ap}
use mathlib.Core.Bool.{true}
use lib.ListN.{set}
use Rattle.label.proofs.marks.mark.Goals as goal

pub returns : goal.returns
returns c = ap (λ place. set c.args.marks.now place true) c.mark_place-place.ensures
