-- Whether the byte stands nowhere among the first k bytes of the block is known before each turn.
use mathlib.Core.Path.{◌≡◌}
use lib.ListN.{take, drop}
use Rattle.text.specs.Parts.{free}
use Rattle.text.proofs.blocks.block_free.Given as goal

abbrev pub invariant-loop-k : goal.invariant-loop-k
invariant-loop-k l = l.clear ≡ free l.byte (take l.k (drop l.at l.text))
