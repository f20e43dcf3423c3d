-- Document 01, "Chart and panel": a whole number divided by the total D, as a binary64 number.
--     positive_zero       0, positive
--     negative z         whether z is below 0; 0 is not
--     fraction_of D z     the binary64 number nearest to z/D, negative exactly where z is below 0; FractionLaws shows that it is z/D,
--                        nothing rounded, where D is a power of two up to 2^1074 and z is less than 2^53 from 0
use Rattle.std.specs.Prelude.{ℕ, Bool, true, false, ℤ, pos, negsuc, nat_abs, Float}
use Rattle.std.specs.Float.{fin, binary64}
use Rattle.std.specs.Float.Ieee.{round}

abbrev pub positive_zero : Float
positive_zero = fin false 0 (pos 0)

abbrev pub negative : ℤ → Bool
negative (pos k) = false
negative (negsuc k) = true

unfoldable pub fraction_of : ℕ → ℤ → Float
fraction_of D z = round binary64 (negative z) (nat_abs z) D
