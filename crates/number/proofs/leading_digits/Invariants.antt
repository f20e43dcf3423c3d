-- `number::leading_digits` meets its contract. The loop's invariant: the digits from `at` on are those before i, which are all digits,
-- and those from i on, and make from 0 what those from i on make from the magnitude, which is at most 10^19.
use Prim.Native.Nat.{◌+◌, ◌≤◌}
use mathlib.Core.Path.{◌≡◌}
use lib.ListN.{length, drop}
use Rattle.text.specs.Fields.{leading}
use Rattle.number.specs.Number.{is_digit, digits_from}
use Rattle.number.specs.Clauses.{magnitude_limit, magnitude_read}
use Rattle.number.proofs.leading_digits.Given as goal

abbrev pub invariant-loop-i : goal.invariant-loop-i
invariant-loop-i l = (l.magnitude ≤ magnitude_limit)
    × (l.at + length (leading is_digit (drop l.at l.line)) ≡ l.i + length (leading is_digit (drop l.i l.line)))
    × (magnitude_read (digits_from (leading is_digit (drop l.at l.line)) 0) ≡ magnitude_read (digits_from (leading is_digit (drop l.i l.line)) l.magnitude))
