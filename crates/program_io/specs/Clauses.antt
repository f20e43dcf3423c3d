-- What reading a text promises besides what no contract can say.
--     read_number got         what a read of the code answered as a number: how many bytes, or -1 where it failed
--     step_taken at next      what follows from a read at index at, as the code answers it
--     text_of_result r        what is answered for a text, where a reason is answered when it is not read
--     text_of_option r        the same, where the reason was told
--     Moved n got             what a read that was handed n bytes answers: -1, or how many bytes it read, at most n
--     Read r text             what was read stands in the first places of the slice; nothing where a read failed
use Rattle.std.specs.Prelude.{ℕ, ◌≤◌, ◌≡◌, false, List, ℤ, pos, negsuc, Option, Some, None, Result, Ok, Err}
use Rattle.io.specs.Counts.{IsPrefixLen}
use Rattle.program_io.specs.Reading.{TextRead, AfterRead, Done, More, not_read, read_whole}

module _ {E : Type 0} where
  abbrev pub read_number : Result ℕ E → ℤ
  read_number (Ok count) = pos count
  read_number (Err e) = negsuc 0

  abbrev pub step_taken : ℕ → Result (Option ℕ) E → AfterRead
  step_taken at (Ok (Some next)) = More next
  step_taken at (Ok None) = Done (read_whole at)
  step_taken at (Err e) = Done not_read

  abbrev pub text_of_result : Result ℕ E → TextRead
  text_of_result (Ok length) = read_whole length
  text_of_result (Err e) = not_read

abbrev pub text_of_option : Option ℕ → TextRead
text_of_option (Some length) = read_whole length
text_of_option None = not_read

abbrev pub Moved : ℕ → ℤ → Type 0
Moved n (pos k) = k ≤ n
Moved n (negsuc k) = k ≡ 0

pub record Read (r : TextRead) (text : List ℕ) : Type 0 where
  pub part : IsPrefixLen r.length text
  pub none : r.whole ≡ false → r.length ≡ 0
