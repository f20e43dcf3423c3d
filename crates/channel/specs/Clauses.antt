-- What the functions answer for the code of a type: its range, and its tag in three places.
--     range_of types code       the range of the type with this code
--     Tag                       a tag in three places, those past its length 0
--     tag_places tag            a tag in three places, with its length
--     tag_in types code         the tag of the type with this code
--     tag_at list at            the tag of the type at this place of a list
use Rattle.std.specs.Prelude.{ℕ, List, length, get_or}
use Rattle.limits.specs.Limits.{tag_limit}
use Rattle.lists.specs.Padded.{padded}
use Rattle.channel.specs.Channel.{ChannelType, no_type, Types, type_of}
use Rattle.channel.specs.declared.Range.{Range}

abbrev pub range_of : Types → ℕ → Range
range_of types code = record { low = (type_of types code).low; high = (type_of types code).high }

pub record Tag : Type 0 where
  pub bytes : List ℕ
  pub length : ℕ

abbrev pub tag_places : List ℕ → Tag
tag_places tag = record { bytes = padded tag_limit tag; length = length tag }

abbrev pub tag_in : Types → ℕ → Tag
tag_in types code = tag_places (type_of types code).tag

abbrev pub tag_at : List ChannelType → ℕ → Tag
tag_at list at = tag_places (get_or list at no_type).tag
