-- Document 01, "Texts": a label is 1 to 12 bytes of A-Z, 0-9 and hyphen.
--     letter_a, letter_z  the bytes `A` and `Z`
--     is_letter b        the byte is one of A to Z
--     is_label_byte b     the byte may stand in a label
--     label_bytes l      every byte of l may stand in a label
--     is_label l         l is a label
use Rattle.std.specs.Prelude.{ℕ, Bool, true, ◌&&◌, ◌||◌, List, [], ◌∷◌, eqb, leb, length}
use Rattle.limits.specs.Limits.{label_limit}
use Rattle.text.specs.Ascii.{byte}
use Rattle.number.specs.Number.{hyphen, is_digit}

abbrev pub letter_a : ℕ
letter_a = byte "A"

abbrev pub letter_z : ℕ
letter_z = byte "Z"

abbrev pub is_letter : ℕ → Bool
is_letter b = leb letter_a b && leb b letter_z

abbrev pub is_label_byte : ℕ → Bool
is_label_byte b = is_letter b || (is_digit b || eqb b hyphen)

unfoldable pub label_bytes : List ℕ → Bool
label_bytes [] = true
label_bytes (b ∷ l) = is_label_byte b && label_bytes l

unfoldable pub is_label : List ℕ → Bool
unfolding label_bytes
is_label l = (leb 1 (length l) && leb (length l) label_limit) && label_bytes l
