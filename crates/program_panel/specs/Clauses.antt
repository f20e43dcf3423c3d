-- What panel asks and promises besides equations.
--     step_room      room for the line of a channel
--     panel_room     room for its output
use Rattle.std.specs.Prelude.{ℕ, ◌+◌, ◌*◌}
use Rattle.limits.specs.Limits.{channel_limit, tag_limit}
use Rattle.printing.specs.Clauses.{field_room}
use Rattle.program_lines.specs.Clauses.{answer_room}

-- a tag, a number after a comma, and byte 10
abbrev pub step_room : ℕ
step_room = tag_limit + field_room + 1

-- the line of a refusal, or the lines of the channels: the sum is enough for either
abbrev pub panel_room : ℕ
panel_room = answer_room + channel_limit * step_room
