-- Document 01, "Texts": the record of an envelope, its `W` lines being those of the weights above 0, and how many bytes it has at most.
--     result_for M L moves settled            what the `R` line of an envelope states
--     record_of figures weights               what the record of an envelope states
--     record_text types e                     its text
--     unsigned_most digits, signed_most ..     the bytes of a comma and a number of so many digits, with no hyphen or with one
--     centre_most digits n                    of a `C` line of n numbers of so many digits
--     result_most distance made               of an `R` line, M and L having so many digits and the moves so many
--     weight_most row weight                  of a `W` line, its numbers having so many digits
--     record_most rows                        of a written record of so many rows: 3,252 of 256 (`house_most` of record)
use Rattle.std.specs.Prelude.{ℕ, ◌+◌, ◌*◌, Bool, List, pos, length, take}
use Rattle.limits.specs.Limits.{channel_limit, row_digits, weight_digits, centre_digits, distance_digits, moves_digits}
use Rattle.channel.specs.Channel.{Types}
use Rattle.heading.specs.Clauses.{heading_most}
use Rattle.envelope.specs.Figures.{channel_codes}
use Rattle.envelope.specs.declared.Figures.{Figures}
use Rattle.envelope.specs.declared.Envelope.{Envelope}
use Rattle.record_lines.specs.Lines.{Result, record_word, centre_word, result_word, weight_word}
use Rattle.record_form.specs.Record.{Record, print_record}
use Rattle.record_form.specs.Weights.{listed}

abbrev pub result_for : ℕ → ℕ → ℕ → Bool → Result
result_for M L moves settled = record { scaled_squared_radius = pos M; scaled_lower_bound = pos L; moves = moves; settled = settled }

-- places past n of the codes and X are not looked at
abbrev pub record_of : Figures → List ℕ → Record
record_of f weights =
    record {
      codes = channel_codes f;
      scaled_centre = take f.n f.ball.scaled_centre;
      result = result_for f.ball.scaled_squared_radius f.ball.scaled_lower_bound f.moves f.ball.settled;
      weights = listed 1 weights;
    }

unfoldable pub record_text : Types → Envelope → List ℕ
record_text types e = print_record types (record_of e.figures e.weights)

-- ---- the most bytes

abbrev pub unsigned_most : ℕ → ℕ
unsigned_most digits = digits + 1

abbrev pub signed_most : ℕ → ℕ
signed_most digits = digits + 2

abbrev pub centre_most : ℕ → ℕ → ℕ
centre_most digits n = length centre_word + signed_most digits * n

-- the last field is a letter
abbrev pub result_most : ℕ → ℕ → ℕ
result_most distance made = length result_word + 2 * unsigned_most distance + unsigned_most made + unsigned_most 1

abbrev pub weight_most : ℕ → ℕ → ℕ
weight_most row weight = length weight_word + unsigned_most row + unsigned_most weight

-- each line with its byte 10
abbrev pub record_most : ℕ → ℕ
record_most rows =
    (heading_most record_word channel_limit + 1)
    + (centre_most centre_digits channel_limit + 1)
    + (result_most distance_digits moves_digits + 1)
    + rows * (weight_most row_digits weight_digits + 1)
