-- What writing a reference text answers and leaves in the buffer.
--     written_text types content                      the text of accepted content, else none
--     content_written types content places            what writing it to so many places answers: 13 is tested last
--     reference_written limit types lent places       what `write` answers
--     fault_by labelled within repeated               the refusal that a row meets, 0 where there is none
--     RowRoom, text_room, TextAsked                   what printing a row and a text asks for
--     put_answer types content, TextPut                 what printing a text answers and leaves
use Rattle.std.specs.Prelude.{ℕ, ◌+◌, ◌*◌, ◌≤◌, ◌<◌, ◌≡◌, Bool, true, not, List, [], ℤ, pos, nat_abs, length, get_or, take}
use Rattle.refusal.specs.Number.{line_form, value_range, label_repeated}
use Rattle.refusal.specs.Outcome.{refused_at, require}
use Rattle.limits.specs.Limits.{row_limit, channel_limit, coordinate_limit}
use Rattle.lent.specs.Clauses.{not_written, written, text_written, TextWritten}
use Rattle.printing.specs.Clauses.{field_room}
use Rattle.channel.specs.Channel.{Types, channel_types}
use Rattle.reference_rows.specs.Rows.{Content, faulty, sound}
use Rattle.reference.specs.Printing.{print_text, reference_most}
use Rattle.reference_write.specs.Writing.{Lent, lent_within, lent_text}

abbrev pub written_text : Types → Content → List ℕ
written_text types (faulty number line) = []
written_text types (sound found) = print_text types found

abbrev pub content_written : Types → Content → ℕ → TextWritten
content_written types (faulty number line) places = not_written (refused_at number line)
content_written types (sound found) places = text_written (print_text types found) places

-- 8, row by row 3, 4, 5, then 13
unfoldable pub reference_written : ℕ → Types → Lent → ℕ → TextWritten
reference_written limit types lent places = content_written types (lent_text limit types lent) places

-- ---- the functions below

-- by the three tests of a row, in their order
abbrev pub fault_by : Bool → Bool → Bool → ℕ
fault_by labelled within repeated =
    require labelled line_form (λ _.
    require within value_range (λ _.
    require (not repeated) label_repeated (λ _.
    0)))

pub record RowRoom (label : List ℕ) (numbers : List ℤ) (n : ℕ) (out : List ℕ) (at : ℕ) : Type 0 where
  pub channels : n ≤ channel_limit
  pub places : n ≤ length numbers
  pub small : (k : ℕ) → k < n → nat_abs (get_or numbers k (pos 0)) ≤ coordinate_limit
  pub room : at + length label + n * field_room < length out

-- in the last line a number may take as many digits as the largest
abbrev pub text_room : ℕ
text_room = reference_most row_limit + channel_limit * field_room

pub record TextAsked (lent : Lent) (out : List ℕ) : Type 0 where
  pub within : lent_within row_limit channel_types lent ≡ true
  pub room : text_room ≤ length out

abbrev pub put_answer : Types → Content → TextWritten
put_answer types (faulty number line) = not_written (refused_at number line)
put_answer types (sound found) = written (length (print_text types found))

-- the text stands in the first places
pub record TextPut (content : Content) (out : List ℕ) (r : TextWritten) : Type 0 where
  pub is : r ≡ put_answer channel_types content
  pub within : r.length ≤ length out
  pub text : take r.length out ≡ written_text channel_types content
