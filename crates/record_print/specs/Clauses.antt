-- What the functions that print a record ask and write. A number may take the room of the largest that a record states, whatever its
-- own limit.
--     weight_lines weights                            the `W` lines of a record, each with its byte 10
--     numbers_room word count                         room for a line of a word and so many numbers, with its byte 10
--     result_room                                     room for an `R` line
--     centre_start, result_start, weights_start         where the lines after the heading start at most
--     record_room rows                                room for a record of so many rows
--     Printing figures weights                       figures whose record can be printed
use Rattle.std.specs.Prelude.{ℕ, ◌+◌, ◌*◌, ◌≤◌, ◌<◌, ◌^◌, List, map, nat_abs, length}
use Rattle.limits.specs.Limits.{row_limit, channel_limit}
use Rattle.geometry.specs.Places.{centre_of}
use Rattle.text.specs.Lines.{print_lines}
use Rattle.printing.specs.Clauses.{field_room}
use Rattle.envelope.specs.declared.Figures.{Figures}
use Rattle.record_lines.specs.Lines.{record_word, centre_word, result_word, weight_word, print_weight}
use Rattle.record_form.specs.Weights.{listed}
use Rattle.record_print.specs.Printed.{unsigned_most}
use Rattle.heading.specs.Clauses.{heading_most}

unfoldable pub weight_lines : List ℕ → List ℕ
weight_lines weights = print_lines (map print_weight (listed 1 weights))

-- ---- room

abbrev pub numbers_room : List ℕ → ℕ → ℕ
numbers_room word count = length word + count * field_room + 1

-- three numbers and a letter
abbrev pub result_room : ℕ
result_room = numbers_room result_word 3 + unsigned_most 1

abbrev pub centre_start : ℕ
centre_start = heading_most record_word channel_limit + 1

abbrev pub result_start : ℕ
result_start = centre_start + numbers_room centre_word channel_limit

abbrev pub weights_start : ℕ
weights_start = result_start + result_room

abbrev pub record_room : ℕ → ℕ
record_room rows = weights_start + rows * numbers_room weight_word 2

-- ---- what can be printed

-- n codes and places of X, and numbers below 2^63
pub record Printing (f : Figures) (weights : List ℕ) : Type 0 where
  pub channels : f.n ≤ channel_limit
  pub typed : f.n ≤ length f.codes
  pub places : f.n ≤ length f.ball.scaled_centre
  pub centre_small : (k : ℕ) → k < f.n → nat_abs (centre_of f.ball.scaled_centre k) < 2 ^ 63
  pub radius_small : f.ball.scaled_squared_radius < 2 ^ 63
  pub floor_small : f.ball.scaled_lower_bound < 2 ^ 63
  pub rows : length weights ≤ row_limit
