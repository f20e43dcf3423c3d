-- What the functions that read the lines of a record answer. The magnitude of a number is held to the largest that its place has,
-- 2^63 - 1 or 2^32 - 1; no figure within the limits on an envelope, D being 65,536, is so large.
--     held_limit, held_weight_limit              2^63 - 1 and 2^32 - 1
--     held_signed negative magnitude, held z   what an i64 keeps of a number
--     kept_number p                            what a record keeps of a number that is read, if it has at most 19 digits
--     number_read o, number_field l             a number of a record, and a field of one, as they are read
--     held_weight w                            what a u32 keeps of a weight
--     next_of numbers next                     this index, if there are numbers
--     numbers_starting word count line         the numbers at the start of a line of a word and so many numbers, if it starts with them
--     numbers_next word count line             where the field after them starts, or would start, if the line starts with them
--     NumbersRead                             the numbers in the lent places besides
--     is_there o                               there is one
--     CentreRead                              whether a line is a `C` line, X in the lent places besides
--     result_read, weight_read                  an `R` and a `W` line as they are read
use Rattle.std.specs.Prelude.{ℕ, suc, min, ◌≡◌, Bool, true, false, cond, List, ◌++◌, map, ltb, ℤ, pos, negsuc, neg_ℤ, length, take, drop}
use Rattle.std.specs.Prelude.{Option as Answer, None, Some}
use Rattle.std.proofs.Math.Option.{Option, none, some}
use Rattle.text.specs.Parts.{comma, cut, part_start}
use Rattle.number.specs.Clauses.{magnitude_limit}
use Rattle.number.specs.declared.Number.{Number}
use Rattle.record_lines.specs.Lines.{Result, Weight, record_number, numbers_line, centre_line}
use Rattle.record_lines.specs.declared.line.ResultLine.{ResultLine}
use Rattle.record_lines.specs.declared.line.WeightLine.{WeightLine}

-- ---- numbers as they are kept

abbrev pub held_limit : ℕ
held_limit = 9223372036854775807

abbrev pub held_signed : Bool → ℕ → ℤ
held_signed false magnitude = pos (min magnitude held_limit)
held_signed true magnitude = neg_ℤ (pos (min magnitude held_limit))

abbrev pub held : ℤ → ℤ
held (pos k) = held_signed false k
held (negsuc k) = held_signed true (suc k)

abbrev pub held_weight_limit : ℕ
held_weight_limit = 4294967295

abbrev pub held_weight : ℕ → ℕ
held_weight w = min w held_weight_limit

abbrev pub kept_number : Answer Number → Answer ℤ
kept_number None = None
kept_number (Some number) = cond (ltb number.magnitude magnitude_limit) (Some (held_signed number.negative number.magnitude)) None

-- ---- lines

abbrev pub number_read : Option ℤ → Answer ℤ
number_read none = None
number_read (some z) = Some (held z)

abbrev pub number_field : List ℕ → Answer ℤ
number_field l = number_read (record_number l)

abbrev pub next_of : Option (List ℤ) → ℕ → Answer ℕ
next_of none next = None
next_of (some zs) next = Some next

-- the line may go on
abbrev pub numbers_starting : List ℕ → ℕ → List ℕ → Option (List ℤ)
numbers_starting word count line = numbers_line word count (take (suc count) (cut comma line))

unfoldable pub numbers_next : List ℕ → ℕ → List ℕ → Answer ℕ
numbers_next word count line = next_of (numbers_starting word count line) (part_start comma line 0 (suc count))

pub record NumbersRead (word : List ℕ) (count : ℕ) (line : List ℕ) (lent₀ lent : List ℤ) (r : Answer ℕ) : Type 0 where
  pub is : r ≡ numbers_next word count line
  pub same_length : length lent ≡ length lent₀
  pub written : (zs : List ℤ) → numbers_starting word count line ≡ some zs → lent ≡ map held zs ++ drop count lent₀

abbrev pub is_there : {A : Type 0} → Option A → Bool
is_there none = false
is_there (some a) = true

pub record CentreRead (n : ℕ) (line : List ℕ) (lent₀ lent : List ℤ) (r : Bool) : Type 0 where
  pub is : r ≡ is_there (centre_line n line)
  pub same_length : length lent ≡ length lent₀
  pub written : (zs : List ℤ) → centre_line n line ≡ some zs → lent ≡ map held zs ++ drop n lent₀

abbrev pub result_read : Option Result → Answer ResultLine
result_read none = None
result_read (some r) =
    Some
    (record { scaled_squared_radius = held r.scaled_squared_radius; scaled_lower_bound = held r.scaled_lower_bound; moves = r.moves; settled = r.settled })

abbrev pub weight_read : Option Weight → Answer WeightLine
weight_read none = None
weight_read (some w) = Some (record { row = w.row; weight = held_weight w.weight })
