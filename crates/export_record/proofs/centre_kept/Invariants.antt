-- The loop fills an array of 0 place by place, up to n.
use lib.IntN.{pos}
use lib.ListN.{replicate}
use Rattle.limits.specs.Limits.{channel_limit}
use Rattle.lent.specs.Filled.{Filling}
use Rattle.export_record.proofs.centre_kept.Given as goal

abbrev pub invariant-loop-channel : goal.invariant-loop-channel
invariant-loop-channel l = Filling (replicate channel_limit (pos 0)) l.scaled_centre l.n l.kept l.channel
