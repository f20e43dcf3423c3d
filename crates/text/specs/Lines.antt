-- Document 01, "Texts": each line ends in byte 10.
--     print_lines lines     the lines, each ended by byte 10
--     ended lines          the parts of that text: the part after the last byte 10 is empty
--     ended_line parts      the first of these parts, where it is ended by byte 10
use Rattle.std.specs.Prelude.{ℕ, List, [], ◌∷◌, ◌++◌}
use Rattle.std.proofs.Math.Option.{Option, none, some}
use Rattle.text.specs.Parts.{line_end}

unfoldable pub print_lines : List (List ℕ) → List ℕ
print_lines [] = []
print_lines (line ∷ lines) = line ++ (line_end ∷ print_lines lines)

abbrev pub ended : List (List ℕ) → List (List ℕ)
ended lines = lines ++ ([] ∷ [])

-- a line that has its byte 10 is followed by another part
abbrev pub ended_line : List (List ℕ) → Option (List ℕ)
ended_line [] = none
ended_line (part ∷ []) = none
ended_line (part ∷ next ∷ parts) = some part
