-- Document 01, "Texts": the lines of a record after its heading, `C`, `R` and `W`, for any limit on rows: read and printed.
--     record_word, centre_word, result_word, weight_word     the words `ENV`, `C`, `R` and `W`
--     settled_letter, budget_letter                        the letters `S` and `B`
--     short_number o                                      the number, if it has at most 19 digits
--     record_number field                                 the number that a field of a record is, if it is one
--     and_number o numbers                                the number before the others, if there is one
--     numbers_of fields                                   the numbers, if each field is one
--     numbers_line word count fields                      the numbers of a word and so many numbers, if the fields are those
--     centre_line n line                                  X, if the line is a `C` line of n channels
--     Result                                             what an `R` line states: M, L, moves and ending
--     letter_of settled                                   the letter of an ending
--     ending_of fields                                    the ending, if the one field is its letter
--     moves_of z                                          the moves, if the number is from 0 to the limit on a budget
--     result_with M L moves ending                        M, L, moves and ending, if the last two are there
--     result_of numbers ending                            the same, M, L and moves being the numbers
--     result_fields fields                                what an `R` line of these fields states, if they are those of one
--     result_line line                                    what an `R` line states, if the line is one
--     Weight                                             what a `W` line states: row and weight
--     weight_within limit last w                          the row is past row `last` and within the limit, the weight is above 0
--     weight_past limit last row weight                   row and weight, if they are so
--     weight_stated limit last numbers                    the same, row and weight being the numbers
--     weight_line limit last line                         what a `W` line past row `last` states, if the line is one
--     print_centre, print_result, print_weight              the lines as they are written
use Rattle.std.specs.Prelude.{ℕ, suc, Bool, true, false, cond, ◌&&◌, List, [], ◌∷◌, ◌++◌, eqb, leb, ltb, ℤ, pos, negsuc, nat_abs, length, get_or, take, drop}
use Rattle.std.proofs.Math.Option.{Option, none, some, map}
use Rattle.limits.specs.Limits.{budget_limit}
use Rattle.text.specs.Ascii.{ascii}
use Rattle.text.specs.Parts.{comma, cut, same}
use Rattle.number.specs.Number.{plain}
use Rattle.number.specs.Clauses.{magnitude_limit}
use Rattle.printing.specs.Clauses.{numbers_after}

-- ---- the fixed byte strings

abbrev pub record_word : List ℕ
record_word = ascii "ENV"

abbrev pub centre_word : List ℕ
centre_word = ascii "C"

abbrev pub result_word : List ℕ
result_word = ascii "R"

abbrev pub weight_word : List ℕ
weight_word = ascii "W"

abbrev pub settled_letter : List ℕ
settled_letter = ascii "S"

abbrev pub budget_letter : List ℕ
budget_letter = ascii "B"

-- ---- numbers

-- a plain number has no leading zeros, so that one of at most 19 digits is below 10^19
abbrev pub short_number : Option ℤ → Option ℤ
short_number none = none
short_number (some z) = cond (ltb (nat_abs z) magnitude_limit) (some z) none

unfoldable pub record_number : List ℕ → Option ℤ
record_number field = short_number (plain field)

abbrev pub and_number : Option ℤ → Option (List ℤ) → Option (List ℤ)
and_number none zs = none
and_number (some z) zs = map (λ (l : List ℤ). z ∷ l) zs

unfoldable pub numbers_of : List (List ℕ) → Option (List ℤ)
numbers_of [] = some []
numbers_of (field ∷ fields) = and_number (record_number field) (numbers_of fields)

-- the word, then exactly so many numbers
unfoldable pub numbers_line : List ℕ → ℕ → List (List ℕ) → Option (List ℤ)
numbers_line word count fields = cond (same (get_or fields 0 []) word && eqb (length fields) (suc count)) (numbers_of (drop 1 fields)) none

-- ---- `C` and X

unfoldable pub centre_line : ℕ → List ℕ → Option (List ℤ)
centre_line n line = numbers_line centre_word n (cut comma line)

unfoldable pub print_centre : List ℤ → List ℕ
print_centre scaled_centre = numbers_after centre_word scaled_centre

-- ---- `R`, M, L, moves, `S` or `B`

-- M and L may be below 0 in form; such a record agrees with no rows
pub record Result : Type 0 where
  pub scaled_squared_radius : ℤ
  pub scaled_lower_bound : ℤ
  pub moves : ℕ
  pub settled : Bool

abbrev pub letter_of : Bool → List ℕ
letter_of settled = cond settled settled_letter budget_letter

-- the ending that a letter alone states
abbrev pub ending_of : List (List ℕ) → Option Bool
ending_of [] = none
ending_of (letter ∷ []) = cond (same letter settled_letter) (some true) (cond (same letter budget_letter) (some false) none)
ending_of (letter ∷ next ∷ fields) = none

-- moves from 0 to 1,000,000
abbrev pub moves_of : ℤ → Option ℕ
moves_of (pos moves) = cond (leb moves budget_limit) (some moves) none
moves_of (negsuc k) = none

abbrev pub result_with : ℤ → ℤ → Option ℕ → Option Bool → Option Result
result_with M L none ending = none
result_with M L (some moves) none = none
result_with M L (some moves) (some settled) = some (record { scaled_squared_radius = M; scaled_lower_bound = L; moves = moves; settled = settled })

abbrev pub result_of : Option (List ℤ) → Option Bool → Option Result
result_of none ending = none
result_of (some zs) ending = result_with (get_or zs 0 (pos 0)) (get_or zs 1 (pos 0)) (moves_of (get_or zs 2 (pos 0))) ending

unfoldable pub result_fields : List (List ℕ) → Option Result
result_fields fields = result_of (numbers_line result_word 3 (take 4 fields)) (ending_of (drop 4 fields))

unfoldable pub result_line : List ℕ → Option Result
result_line line = result_fields (cut comma line)

unfoldable pub print_result : Result → List ℕ
print_result r = numbers_after result_word (r.scaled_squared_radius ∷ r.scaled_lower_bound ∷ pos r.moves ∷ []) ++ (comma ∷ letter_of r.settled)

-- ---- `W`, row, weight

-- rows count from 1
pub record Weight : Type 0 where
  pub row : ℕ
  pub weight : ℕ

-- a row past the last one and within the limit, a weight above 0
abbrev pub weight_within : ℕ → ℕ → Weight → Bool
weight_within limit last w = (ltb last w.row && leb w.row limit) && leb 1 w.weight

abbrev pub weight_past : ℕ → ℕ → ℤ → ℤ → Option Weight
weight_past limit last (pos row) (pos weight) =
    cond (weight_within limit last (record { row = row; weight = weight })) (some (record { row = row; weight = weight })) none
weight_past limit last (pos row) (negsuc k) = none
weight_past limit last (negsuc k) weight = none

abbrev pub weight_stated : ℕ → ℕ → Option (List ℤ) → Option Weight
weight_stated limit last none = none
weight_stated limit last (some zs) = weight_past limit last (get_or zs 0 (pos 0)) (get_or zs 1 (pos 0))

unfoldable pub weight_line : ℕ → ℕ → List ℕ → Option Weight
weight_line limit last line = weight_stated limit last (numbers_line weight_word 2 (cut comma line))

unfoldable pub print_weight : Weight → List ℕ
print_weight w = numbers_after weight_word (pos w.row ∷ pos w.weight ∷ [])
