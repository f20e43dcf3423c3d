-- The room for a line, and the most bytes of a line whose numbers have so many digits.
--     answer_room                    room for the printing of a refusal or a verdict
--     refusal_most number line       the most bytes of a refusal
--     quiet_most, alarm_most excess   the most bytes of a Quiet, and of an Alarm
use Rattle.std.specs.Prelude.{ℕ, ◌+◌, ◌*◌, length}
use Rattle.printing.specs.Clauses.{field_room}
use Rattle.program_lines.specs.Lines.{refusal_word, quiet_word, alarm_word}

-- a word, which is not longer than a number and its comma may be, two numbers and byte 10
abbrev pub answer_room : ℕ
answer_room = 3 * field_room + 1

-- a word, a comma before each number, and byte 10
abbrev pub refusal_most : ℕ → ℕ → ℕ
refusal_most number line = length refusal_word + (1 + number) + (1 + line) + 1

abbrev pub quiet_most : ℕ
quiet_most = length quiet_word + 1

abbrev pub alarm_most : ℕ → ℕ
alarm_most excess = length alarm_word + (1 + excess) + 1
