-- No tag has more bytes than there is room for.
use mathlib.Core.Path.{ap}
use native.Mathlib.Omega.{arith}
use lib.ListN.{length}
use Rattle.channel.specs.Channel.{channel_types}
use Rattle.channel.specs.ContractLaws.{house_short, type_short}
use Rattle.heading.proofs.put_tag.Goals as goal

pub put_bytes-requires : goal.put_bytes-requires
put_bytes-requires c = omega (arith, ap length c.tag_of.ensures.tag, type_short channel_types house_short c.args.code)
