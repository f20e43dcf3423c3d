-- What the code keeps of a number: its sign, and its magnitude up to 10^19.
--     magnitude_limit      10^19, the least number with more digits than the largest s has
--     saturated n         n, or 10^19 where n is larger
--     grown n b           n with one more digit, the byte b
--     magnitude_read o     what the code answers for a number without a sign
--     plain_read o         what the code answers for a plain number
--     above_zero n         the number, 0 standing for none
--     unsigned_field l     what it answers for the field l as a number without a sign
--     plain_field l        what it answers for the field l as a plain number
--     count_read most o    what it answers for a plain number from 1 to the most
--     count_field most l   what it answers for the field l as one
--     number_of n m        the number with this sign and this magnitude
--     with_sign n m        what it answers for a number without a sign after a hyphen, or after none
--     LeadingDigits s at m e   the digits that stand from index at on end before index e and make the number that is kept as m
use Rattle.std.specs.Prelude.{ℕ, zero, suc, ◌+◌, ◌-◌, ◌*◌, ◌^◌, ◌≤◌, min, ◌≡◌, Bool, true, false, cond, ◌&&◌, leb, List, ℤ, pos, negsuc, length, drop}
use Rattle.std.specs.Prelude.{Option as Answer, None, Some}
use Rattle.std.proofs.Math.Option.{Option, none, some}
use Rattle.text.specs.Fields.{leading}
use Rattle.limits.specs.Limits.{record_digits}
use Rattle.number.specs.Number.{digit_zero, is_digit, digits_from, magnitude_of, plain}
use Rattle.number.specs.declared.Number.{Number}

abbrev pub magnitude_limit : ℕ
magnitude_limit = 10 ^ record_digits

abbrev pub saturated : ℕ → ℕ
saturated n = min n magnitude_limit

abbrev pub grown : ℕ → ℕ → ℕ
grown n b = saturated (n * 10 + (b - digit_zero))

abbrev pub number_of : Bool → ℕ → Number
number_of negative magnitude = record { negative = negative; magnitude = magnitude }

abbrev pub magnitude_read : Option ℕ → Answer ℕ
magnitude_read none = None
magnitude_read (some n) = Some (saturated n)

abbrev pub plain_read : Option ℤ → Answer Number
plain_read none = None
plain_read (some (pos n)) = Some (number_of false (saturated n))
plain_read (some (negsuc k)) = Some (number_of true (saturated (suc k)))

abbrev pub above_zero : ℕ → Answer ℕ
above_zero zero = None
above_zero (suc k) = Some (suc k)

abbrev pub unsigned_field : List ℕ → Answer ℕ
unsigned_field l = magnitude_read (magnitude_of l)

abbrev pub plain_field : List ℕ → Answer Number
plain_field l = plain_read (plain l)

abbrev pub with_sign : Bool → Answer ℕ → Answer Number
with_sign negative None = None
with_sign false (Some m) = Some (number_of false m)
with_sign true (Some zero) = None
with_sign true (Some (suc k)) = Some (number_of true (suc k))

abbrev pub count_read : ℕ → Option ℤ → Answer ℕ
count_read most none = None
count_read most (some (pos n)) = cond (leb 1 n && leb n most) (Some n) None
count_read most (some (negsuc k)) = None

abbrev pub count_field : ℕ → List ℕ → Answer ℕ
count_field most l = count_read most (plain l)

pub record LeadingDigits (s : List ℕ) (at m e : ℕ) : Type 0 where
  pub is : Some m ≡ magnitude_read (digits_from (leading is_digit (drop at s)) 0)
  pub ends : e ≡ at + length (leading is_digit (drop at s))
  pub high : e ≤ length s
