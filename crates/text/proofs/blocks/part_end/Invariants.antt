-- The part that starts at `from` ends where the one that starts at `at` does; each turn passes a block without the byte, and the
-- search from there on finds the end (`end-found`). What is left of the text falls.
use Prim.Native.Nat.{◌-◌, ◌≤◌}
use mathlib.Core.Path.{◌≡◌}
use lib.ListN.{length}
use Rattle.text.specs.Parts.{part_end}
use Rattle.text.proofs.blocks.part_end.Given as goal

abbrev pub invariant-loop-from : goal.invariant-loop-from
invariant-loop-from l = (l.at ≤ l.from) × (l.from ≤ length l.text) × (part_end l.byte l.text l.from ≡ part_end l.byte l.text l.at)

abbrev pub decreases-loop-from : goal.decreases-loop-from
decreases-loop-from l = length l.text - l.from
