-- A name as it is told.
--     name_limit                                    at most so many bytes of it are told
--     backslash                                    the byte before an escaped one
--     is_shown b                                    the byte stands for itself: `!` to `~`, 33 to 126, except the backslash
--     escaped_byte b                                the byte as it is told: else a backslash, `x` and two lower-case hex digits
--     escaped l                                    bytes as they are told, one after the other
--     escaped_start name                            the first bytes of a name
--     quoted_start name                             these in single quotes
--     escaped_name name                             a name: these, and `...` after the closing quote where it has more bytes
use Rattle.std.specs.Prelude.{ℕ, ◌/◌, ◌%◌, Bool, cond, not, ◌&&◌, List, [], ◌∷◌, ◌++◌, leb, eqb, length, take}
use Rattle.io.specs.Digits.{hex_digit_ascii}
use Rattle.text.specs.Ascii.{ascii, byte}

abbrev pub name_limit : ℕ
name_limit = 60

abbrev pub backslash : ℕ
backslash = byte "\\"

abbrev pub is_shown : ℕ → Bool
is_shown b = leb (byte "!") b && leb b (byte "~") && not (eqb b backslash)

-- the two digits of a byte are those of its quotient and of its remainder by 16
abbrev pub escaped_byte : ℕ → List ℕ
escaped_byte b = cond (is_shown b) (b ∷ []) (ascii "\\x" ++ (hex_digit_ascii (b / 16) ∷ hex_digit_ascii (b % 16) ∷ []))

unfoldable pub escaped : List ℕ → List ℕ
escaped [] = []
escaped (b ∷ l) = escaped_byte b ++ escaped l

abbrev pub escaped_start : List ℕ → List ℕ
escaped_start name = escaped (take name_limit name)

abbrev pub quoted_start : List ℕ → List ℕ
quoted_start name = (ascii "'" ++ escaped_start name) ++ ascii "'"

abbrev pub escaped_name : List ℕ → List ℕ
escaped_name name = quoted_start name ++ cond (leb (length name) name_limit) [] (ascii "...")
