-- Document 01, "Texts": a plain number is a whole decimal number without leading zeros, `-` before a negative one, never `-0`.
--     hyphen                the byte `-`
--     digit_zero, digit_nine  the bytes of the digits 0 and 9
--     is_digit b             the byte is that of a digit
--     digits_from l n        the number that the digits l make after those of n
--     magnitude_of l         the number that the digits l make, without a leading zero
--     negated o             the number below 0 with this magnitude, if there is one
--     plain l               the plain number that l is, if it is one
--     decimal f n           the digits of n, none of 0; f is at least n
--     print_magnitude n      the digits of n
--     print z               the plain number of z
use Rattle.std.specs.Prelude.{ℕ, zero, suc, ◌+◌, ◌-◌, ◌*◌, ◌/◌, ◌%◌, Bool, cond, ◌&&◌, List, [], ◌∷◌, ◌++◌, eqb, leb, ℤ, pos, negsuc}
use Rattle.std.proofs.Math.Option.{Option, none, some, map}
use Rattle.text.specs.Ascii.{byte}

abbrev pub hyphen : ℕ
hyphen = byte "-"

abbrev pub digit_zero : ℕ
digit_zero = byte "0"

abbrev pub digit_nine : ℕ
digit_nine = byte "9"

abbrev pub is_digit : ℕ → Bool
is_digit b = leb digit_zero b && leb b digit_nine

unfoldable pub digits_from : List ℕ → ℕ → Option ℕ
digits_from [] n = some n
digits_from (b ∷ l) n = cond (is_digit b) (digits_from l (n * 10 + (b - digit_zero))) none

unfoldable pub magnitude_of : List ℕ → Option ℕ
unfolding digits_from
magnitude_of [] = none
magnitude_of (b ∷ []) = digits_from (b ∷ []) 0
magnitude_of (b ∷ c ∷ l) = cond (eqb b digit_zero) none (digits_from (b ∷ c ∷ l) 0)

-- no number is `-0`
abbrev pub negated : Option ℕ → Option ℤ
negated none = none
negated (some zero) = none
negated (some (suc k)) = some (negsuc k)

unfoldable pub plain : List ℕ → Option ℤ
unfolding magnitude_of
plain [] = none
plain (b ∷ l) = cond (eqb b hyphen) (negated (magnitude_of l)) (map pos (magnitude_of (b ∷ l)))

unfoldable pub decimal : ℕ → ℕ → List ℕ
decimal zero n = []
decimal (suc f) zero = []
decimal (suc f) (suc k) = decimal f (suc k / 10) ++ ((digit_zero + suc k % 10) ∷ [])

unfoldable pub print_magnitude : ℕ → List ℕ
unfolding decimal
print_magnitude zero = digit_zero ∷ []
print_magnitude (suc k) = decimal (suc k) (suc k)

unfoldable pub print : ℤ → List ℕ
unfolding print_magnitude
print (pos n) = print_magnitude n
print (negsuc k) = hyphen ∷ print_magnitude (suc k)
