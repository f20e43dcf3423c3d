-- What the functions answer for a heading, and how many bytes a heading takes.
--     heading_read codes         a heading in eight places
--     tags_read types n tags     the heading of n channels with these tags
--     tag_room                   the room of a tag after a comma
--     heading_room word n        the room that printing a heading of n channels asks for, where n takes that of any number
--     heading_most word n        the most bytes of a heading of n channels
use Rattle.std.specs.Prelude.{ℕ, ◌+◌, ◌*◌, cond, List, eqb, length}
use Rattle.std.specs.Prelude.{Option as Answer, None, Some}
use Rattle.std.proofs.Math.Option.{Option, none, some}
use Rattle.lists.specs.Padded.{padded}
use Rattle.limits.specs.Limits.{channel_limit, tag_limit, channel_digits}
use Rattle.printing.specs.Clauses.{field_room}
use Rattle.channel.specs.Channel.{Types}
use Rattle.heading.specs.Heading.{codes_of_tags}
use Rattle.heading.specs.declared.Heading.{Heading}

abbrev pub heading_read : Option (List ℕ) → Answer Heading
heading_read none = None
heading_read (some codes) = Some (record { n = length codes; codes = padded channel_limit codes })

abbrev pub tags_read : Types → ℕ → List (List ℕ) → Answer Heading
tags_read types n tags = heading_read (cond (eqb n (length tags)) (codes_of_tags types tags) none)

abbrev pub tag_room : ℕ
tag_room = 1 + tag_limit

abbrev pub heading_room : List ℕ → ℕ → ℕ
heading_room word n = length word + field_room + n * tag_room

abbrev pub heading_most : List ℕ → ℕ → ℕ
heading_most word n = length word + 1 + channel_digits + n * tag_room
