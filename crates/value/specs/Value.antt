-- Document 01, "Texts": a value is plain, or it is `<` and a plain number: below detection.
--     Written                    a value as it is written
--     less_than                   the byte `<`
--     value_of l                  the value that the field l is, if it is one
--     inRange range z            the whole number is within the range
--     below_range range           where a number may be that stands after `<`: from 1 to the high
--     value_in_range range v       the value is within the range
--     half z                     the whole part of z/2
--     reads v                    the number that a value reads as
--     print_value v               the field of a value
--     value_under range o         what the functions answer for a value under a range, if it is one
--     value_read range l          the same for the field l
use Rattle.std.specs.Prelude.{ℕ, Bool, cond, ◌&&◌, List, [], ◌∷◌, eqb, ℤ, pos, Result, Ok, Err}
use Rattle.std.proofs.Math.Option.{Option, none, some, map}
use Rattle.std.specs.Int.Signed.{le_z, quot_z}
use Rattle.text.specs.Ascii.{byte}
use Rattle.number.specs.Number.{plain, print}
use Rattle.channel.specs.declared.Range.{Range}
use Rattle.value.specs.declared.Fault.{Fault}
use Rattle.value.specs.declared.Fault.TheVariants.{Malformed, OutOfRange}

pub data Written : Type 0 where
  number : ℤ → Written
  below : ℤ → Written

abbrev pub less_than : ℕ
less_than = byte "<"

unfoldable pub value_of : List ℕ → Option Written
value_of [] = none
value_of (b ∷ l) = cond (eqb b less_than) (map below (plain l)) (map number (plain (b ∷ l)))

abbrev pub in_range : Range → ℤ → Bool
in_range range z = le_z range.low z && le_z z range.high

abbrev pub below_range : Range → Range
below_range range = record { low = pos 1; high = range.high }

abbrev pub value_in_range : Range → Written → Bool
value_in_range range (number z) = in_range range z
value_in_range range (below z) = in_range (below_range range) z

-- rounded toward 0; none below 0 is ever read
abbrev pub half : ℤ → ℤ
half z = quot_z z (pos 2)

-- document 02, job 3: `<v` means the whole part of v/2
abbrev pub reads : Written → ℤ
reads (number z) = z
reads (below z) = half z

unfoldable pub print_value : Written → List ℕ
print_value (number z) = print z
print_value (below z) = less_than ∷ print z

abbrev pub value_under : Range → Option Written → Result ℤ Fault
value_under range none = Err Malformed
value_under range (some v) = cond (value_in_range range v) (Ok (reads v)) (Err OutOfRange)

unfoldable pub value_read : Range → List ℕ → Result ℤ Fault
value_read range l = value_under range (value_of l)
