use native.Mathlib.Omega.{arith}
use lib.IntN.{pos}
use Rattle.std.proofs.Common.{rules}
use Rattle.std.proofs.lemmas.Int.{to_z-of_z}
use Rattle.lent.specs.Filled.{filling_none, filling_next, filling_done}
use Rattle.export_record.proofs.centre_kept.Goals as goal

pub loop-channel-init : goal.loop-channel-init
loop-channel-init c = filling_none

-- the array where no place is left to fill
pub returns-then-n-channel : goal.returns-then-n-channel
returns-then-n-channel c = filling_done c.if-n-channel.true c.loop-channel.invariant

pub loop-channel-preserved : goal.loop-channel-preserved
loop-channel-preserved c = filling_next (pos 0) c.requires c.if-n-channel.false c.loop-channel.invariant (search (rules, to_z-of_z))

pub returns : goal.returns
returns c = filling_done (omega (arith, c.requires)) c.loop-channel.invariant
