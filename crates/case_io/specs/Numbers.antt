-- Numbers of the input, and numbers of a digest.
--     byte_at text at           the byte at this index, 0 past the end
--     two_bytes, four_bytes      a number of two or four bytes, the lowest first
--     raised_by most x          x with most added, where x is within most of 0; else 0
use Rattle.std.specs.Prelude.{ℕ, ◌+◌, ◌*◌, cond, List, ℤ, pos, nat_abs, ◌+ℤ◌, ◌-ℤ◌, get_or}
use Rattle.std.specs.Int.Signed.{lt_z}

abbrev pub byte_at : List ℕ → ℕ → ℕ
byte_at text at = get_or text at 0

abbrev pub two_bytes : List ℕ → ℕ → ℕ
two_bytes text at = byte_at text at + 256 * byte_at text (at + 1)

abbrev pub four_bytes : List ℕ → ℕ → ℕ
four_bytes text at = two_bytes text at + 65536 * two_bytes text (at + 2)

abbrev pub raised_by : ℤ → ℤ → ℕ
raised_by most x = cond (lt_z x (pos 0 -ℤ most)) 0 (cond (lt_z most x) 0 (nat_abs (x +ℤ most)))
