-- `channel::codes_known` meets its contract. The loop's invariant: the codes passed are those of types. A code that is not decides
-- the answer.
use mathlib.Core.Path.{◌≡◌}
use mathlib.Core.Bool.{true}
use lib.ListN.{take}
use Rattle.channel.specs.Channel.{channel_types, codes_known}
use Rattle.channel.proofs.codes_known.Given as goal

abbrev pub invariant-loop-code : goal.invariant-loop-code
invariant-loop-code l = codes_known channel_types (take l.code-index l.codes) ≡ true
