-- What the functions that read a reading's line do.
--     Line                                     what a line is
--     line_of answer                           what it is by the answer
--     line_pairs types codes tags values        what a line with these tags and values is, if the values are in form
--     pairs_read types codes fields             what the fields after the label are
--     PairsRead                                the values in the lent places besides
--     line_read types codes reading             what a line is
--     line_alone line                           the line, where there is no byte 10 in it
--     LineRead                                 what stands before a text's last byte 10, the values in the lent places besides
use Rattle.std.specs.Prelude.{ℕ, ◌+◌, ◌≡◌, cond, List, ◌++◌, map, eqb, ℤ, length, drop, Result, Ok, Err}
use Rattle.std.proofs.Math.Option.{Option, none, some}
use Rattle.text.specs.Parts.{line_end, free}
use Rattle.channel.specs.Channel.{Types}
use Rattle.value.specs.Value.{Written, reads}
use Rattle.value.specs.Values.{values_of, values_in_range}
use Rattle.reading_line.specs.Reading.{Reading, tag_fields, value_fields, reading_line, tags_agree}
use Rattle.reading_line.specs.declared.Fault.{Fault}
use Rattle.reading_line.specs.declared.Fault.TheVariants as fault

-- not in form, in form with a tag that is not its channel's, in form and of its tags with a value outside its range, or within every range
pub data Line : Type 0 where
  Malformed : Line
  TagDiffers : Line
  OutOfRange : Line
  Within : Line

abbrev pub line_of : Result (Unit {0}) Fault → Line
line_of (Err fault.Malformed) = Malformed
line_of (Err fault.TagDiffers) = TagDiffers
line_of (Err fault.OutOfRange) = OutOfRange
line_of (Ok within) = Within

abbrev pub line_pairs : Types → List ℕ → List (List ℕ) → Option (List Written) → Line
line_pairs types codes tags none = Malformed
line_pairs types codes tags (some vs) =
    cond (tags_agree types codes tags) (cond (values_in_range types codes vs) Within OutOfRange) TagDiffers

-- exactly two fields for each code
abbrev pub pairs_read : Types → List ℕ → List (List ℕ) → Line
pairs_read types codes fields =
    cond (eqb (length fields) (length codes + length codes))
    (line_pairs types codes (tag_fields fields) (values_of (value_fields fields))) Malformed

-- the values of a line within stand in the first of the lent places
pub record PairsRead (types : Types) (codes : List ℕ) (fields : List (List ℕ)) (lent₀ lent : List ℤ) (r : Line) : Type 0 where
  pub is : r ≡ pairs_read types codes fields
  pub same_length : length lent ≡ length lent₀
  pub written : (vs : List Written) → values_of (value_fields fields) ≡ some vs → r ≡ Within
      → lent ≡ map reads vs ++ drop (length codes) lent₀

abbrev pub line_read : Types → List ℕ → Option Reading → Line
line_read types codes none = Malformed
line_read types codes (some reading) = line_pairs types codes reading.tags (some reading.values)

abbrev pub line_alone : List ℕ → Option (List ℕ)
line_alone line = cond (free line_end line) (some line) none

pub record LineRead (types : Types) (codes line : List ℕ) (lent₀ lent : List ℤ) (r : Line) : Type 0 where
  pub is : r ≡ line_read types codes (reading_line (length codes) (line_alone line))
  pub same_length : length lent ≡ length lent₀
  pub written : (reading : Reading) → reading_line (length codes) (line_alone line) ≡ some reading → r ≡ Within
      → lent ≡ map reads reading.values ++ drop (length codes) lent₀
