-- The number by which the code tells labels apart: the digits 1 to 37 in base 38.
--     label_byte_count                how many bytes may stand in a label
--     key_base                       the base of the numbers
--     before_letters, before_digits   what is taken from a letter and from a digit: `A` is 1, `0` is 27
--     label_digit b                  which of these bytes b is, from 1; 0 for any other byte
--     key_after d f k                the number with one more digit, handed on, 0 where there is no digit
--     key_from l k                   the number of the bytes l after those of k, 0 where some byte is not of a label
--     label_key l                    the number by which the code tells labels apart, 0 where l is no label
use Rattle.std.specs.Prelude.{ℕ, zero, suc, ◌+◌, ◌-◌, ◌*◌, cond, List, [], ◌∷◌, eqb, leb, length}
use Rattle.number.specs.Number.{hyphen, digit_zero, is_digit}
use Rattle.label.specs.Label.{letter_a, is_letter}
use Rattle.limits.specs.Limits.{label_limit}

-- 26 letters, 10 digits and the hyphen, which is the last
abbrev pub label_byte_count : ℕ
label_byte_count = 26 + 10 + 1

-- 0 is the digit of no byte
abbrev pub key_base : ℕ
key_base = label_byte_count + 1

abbrev pub before_letters : ℕ
before_letters = letter_a - 1

abbrev pub before_digits : ℕ
before_digits = digit_zero - (26 + 1)

abbrev pub label_digit : ℕ → ℕ
label_digit b = cond (is_letter b) (b - before_letters) (cond (is_digit b) (b - before_digits) (cond (eqb b hyphen) label_byte_count 0))

-- the key with one more digit, 0 where there is none
abbrev pub key_after : ℕ → (ℕ → ℕ) → ℕ → ℕ
key_after zero further k = 0
key_after (suc d) further k = further (k * key_base + suc d)

unfoldable pub key_from : List ℕ → ℕ → ℕ
key_from [] k = k
key_from (b ∷ l) k = key_after (label_digit b) (key_from l) k

unfoldable pub label_key : List ℕ → ℕ
unfolding key_from
label_key l = cond (leb (length l) label_limit) (key_from l 0) 0
