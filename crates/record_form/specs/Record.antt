-- Document 01, "Texts": the record, line by line, for any limit on rows and table of types; as it is written, and what may be written.
-- A text is in form exactly when it is the printing of a record within the limits, for a sound table of types and a limit on rows of
-- at most 19 digits (`form_printed`, `printed_form`).
--     Record                                 what a record states
--     Form                                   what a text is: faulty at a line, or in form
--     require_sound form refusal rest         the rest for what is in form, else the refusal for the faulty line
--     line_as read o                          what a line is read as, if it is there
--     and_line line o further                 a faulty line, or what follows it
--     with_weight w weights                   a `W` line before those that follow it
--     weights_from limit line last parts      the `W` lines from this line on, past row `last`
--     with_weights codes .. weights           the record of these `W` lines and what the lines before them state
--     form_of limit types parts               the text that is cut into these parts
--     form limit types text                  what a text is
--     print_record types record               the text of a record
--     weights_within limit last ws            each row is above the one before and within the limit, each weight is above 0 and has at most 19 digits
--     Within limit types record              a record that may be written
use Rattle.std.specs.Prelude.{ℕ, suc, ◌≤◌, ◌<◌, ◌≡◌, Bool, true, cond, ◌&&◌, List, [], ◌∷◌, map, leb, ltb, ℤ, pos, nat_abs, length, get_or, drop}
use Rattle.std.proofs.Math.Option.{Option, none, some}
use Rattle.limits.specs.Limits.{channel_limit, budget_limit}
use Rattle.text.specs.Parts.{line_end, cut, same}
use Rattle.text.specs.Lines.{print_lines, ended_line}
use Rattle.number.specs.Clauses.{magnitude_limit}
use Rattle.channel.specs.Channel.{Types}
use Rattle.heading.specs.Heading.{heading_of, print_heading, CodesWithin}
use Rattle.record_lines.specs.Lines.{record_word, Result, Weight, centre_line, result_line, weight_line, weight_within, print_centre, print_result, print_weight}

-- the codes of its tags, X, what its `R` line states, its `W` lines
pub record Record : Type 0 where
  pub codes : List ℕ
  pub scaled_centre : List ℤ
  pub result : Result
  pub weights : List Weight

pub data Form (A : Type 0) : Type 0 where
  faulty : ℕ → Form A
  sound : A → Form A

abbrev pub require_sound : {A B : Type 0} → Form A → (ℕ → B) → (A → B) → B
require_sound (sound a) refusal rest = rest a
require_sound (faulty line) refusal rest = refusal line

-- ---- what is read

-- what a line that is there and has its byte 10 is
abbrev pub line_as : {A : Type 0} → (List ℕ → Option A) → Option (List ℕ) → Option A
line_as read none = none
line_as read (some line) = read line

-- the first faulty line decides
abbrev pub and_line : {A B : Type 0} → ℕ → Option A → (A → Form B) → Form B
and_line line none further = faulty line
and_line line (some a) further = further a

abbrev pub with_weight : Weight → Form (List Weight) → Form (List Weight)
with_weight w (faulty line) = faulty line
with_weight w (sound ws) = sound (w ∷ ws)

-- nothing follows the last `W` line, and there is one: some row is above 0
unfoldable pub weights_from : ℕ → ℕ → ℕ → List (List ℕ) → Form (List Weight)
weights_from limit line last [] = faulty line
weights_from limit line last (part ∷ []) = cond (same part [] && leb 1 last) (sound []) (faulty line)
weights_from limit line last (part ∷ next ∷ parts) =
    and_line line (weight_line limit last part) (λ w. with_weight w (weights_from limit (suc line) w.row (next ∷ parts)))

abbrev pub with_weights : List ℕ → List ℤ → Result → Form (List Weight) → Form Record
with_weights codes scaled_centre result (faulty line) = faulty line
with_weights codes scaled_centre result (sound ws) = sound (record { codes = codes; scaled_centre = scaled_centre; result = result; weights = ws })

-- a missing line is the one after the last
unfoldable pub form_of : ℕ → Types → List (List ℕ) → Form Record
form_of limit types parts =
    and_line 1 (line_as (heading_of record_word channel_limit types) (ended_line parts))
    (λ codes. and_line 2 (line_as (centre_line (length codes)) (ended_line (drop 1 parts)))
    (λ scaled_centre. and_line 3 (line_as result_line (ended_line (drop 2 parts)))
    (λ result. with_weights codes scaled_centre result (weights_from limit 4 0 (drop 3 parts)))))

unfoldable pub form : ℕ → Types → List ℕ → Form Record
form limit types text = form_of limit types (cut line_end text)

-- ---- what is written

unfoldable pub print_record : Types → Record → List ℕ
print_record types r =
    print_lines
    (print_heading record_word types r.codes ∷ print_centre r.scaled_centre ∷ print_result r.result ∷ map print_weight r.weights)

-- ---- what may be written

unfoldable pub weights_within : ℕ → ℕ → List Weight → Bool
weights_within limit last [] = true
weights_within limit last (w ∷ ws) = (weight_within limit last w && ltb w.weight magnitude_limit) && weights_within limit w.row ws

-- the default of get_or is never met
pub record Within (limit : ℕ) (types : Types) (r : Record) : Type 0 where
  pub heading : CodesWithin channel_limit types r.codes
  pub complete : length r.scaled_centre ≡ length r.codes
  pub centre_short : (k : ℕ) → k < length r.scaled_centre → nat_abs (get_or r.scaled_centre k (pos 0)) < magnitude_limit
  pub radius_short : nat_abs r.result.scaled_squared_radius < magnitude_limit
  pub floor_short : nat_abs r.result.scaled_lower_bound < magnitude_limit
  pub moves_most : r.result.moves ≤ budget_limit
  pub some_weight : 1 ≤ length r.weights
  pub each_weight : weights_within limit 0 r.weights ≡ true
