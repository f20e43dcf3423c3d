-- What the functions that read a whole record answer, its numbers as they are kept.
--     held_weights ws, held_record r            a record with its numbers as they are kept
--     weights_fault, WeightsRead               the first faulty line of the `W` lines, the weights in the lent places besides
--     stated_fault, stated_record, stated_form   a record as it is read
--     form_after_centre, AfterCentreRead        the lines after the `C` line, and the record as it is read from them on
use Rattle.std.specs.Prelude.{ℕ, ◌≡◌, List, [], ◌∷◌, map, ℤ, length, drop}
use Rattle.std.specs.Prelude.{Result as Answer, Ok, Err}
use Rattle.lists.specs.Padded.{padded}
use Rattle.limits.specs.Limits.{row_limit, channel_limit}
use Rattle.geometry.specs.Places.{centre_list, centre_of}
use Rattle.text.specs.Parts.{line_end, parts_from}
use Rattle.text.specs.Lines.{ended_line}
use Rattle.record_lines.specs.Lines.{Weight, result_line}
use Rattle.record_lines.specs.Clauses.{held, held_weight}
use Rattle.record_form.specs.Record.{Record, Form, faulty, sound, line_as, and_line, weights_from, with_weights}
use Rattle.record_form.specs.Weights.{placed_in, weights_of}
use Rattle.record_form.specs.declared.form.Stated.{Stated}

-- ---- numbers as they are kept

unfoldable pub held_weights : List Weight → List Weight
held_weights [] = []
held_weights (w ∷ ws) = record { row = w.row; weight = held_weight w.weight } ∷ held_weights ws

abbrev pub held_record : Record → Record
held_record r =
    record {
      codes = r.codes;
      scaled_centre = map held r.scaled_centre;
      result =
          record {
            scaled_squared_radius = held r.result.scaled_squared_radius;
            scaled_lower_bound = held r.result.scaled_lower_bound;
            moves = r.result.moves;
            settled = r.result.settled;
          };
      weights = held_weights r.weights;
    }

-- ---- the text

abbrev pub weights_fault : Form (List Weight) → Answer (Unit {0}) ℕ
weights_fault (faulty line) = Err line
weights_fault (sound ws) = Ok tt

-- the `W` lines from index at of the text on, the first being line 4; the lent places are all 0 at first
pub record WeightsRead (text : List ℕ) (at : ℕ) (lent₀ lent : List ℕ) (r : Answer (Unit {0}) ℕ) : Type 0 where
  pub is : r ≡ weights_fault (weights_from row_limit 4 0 (parts_from line_end text at))
  pub same_length : length lent ≡ length lent₀
  pub written : (ws : List Weight) → weights_from row_limit 4 0 (parts_from line_end text at) ≡ sound ws → lent ≡ placed_in lent₀ (held_weights ws)

abbrev pub stated_fault : ℕ → Answer Stated ℕ
stated_fault line = Err line

abbrev pub stated_record : Record → Stated
stated_record r =
    record {
      n = length r.codes;
      codes = padded channel_limit r.codes;
      scaled_centre = centre_list (length r.codes) (centre_of r.scaled_centre);
      scaled_squared_radius = r.result.scaled_squared_radius;
      scaled_lower_bound = r.result.scaled_lower_bound;
      moves = r.result.moves;
      settled = r.result.settled;
      weights = weights_of row_limit r.weights;
    }

abbrev pub stated_form : Form Record → Answer Stated ℕ
stated_form (faulty line) = stated_fault line
stated_form (sound r) = Ok (stated_record (held_record r))

-- the lines after the `C` line of a record with these codes and this X
abbrev pub form_after_centre : List ℕ → List ℤ → List (List ℕ) → Form Record
form_after_centre codes scaled_centre parts =
    and_line 3 (line_as result_line (ended_line parts)) (λ result. with_weights codes scaled_centre result (weights_from row_limit 4 0 (drop 1 parts)))

-- the text from index at on, its first line being line 3; n and the places are those of the codes and of X as they are read
pub record AfterCentreRead (text : List ℕ) (at n : ℕ) (code-places : List ℕ) (centre-places : List ℤ) (r : Answer Stated ℕ) : Type 0 where
  pub is : (codes : List ℕ) (X : List ℤ) → n ≡ length codes → code-places ≡ padded channel_limit codes
      → centre-places ≡ centre_list (length codes) (centre_of (map held X))
      → r ≡ stated_form (form_after_centre codes X (parts_from line_end text at))
