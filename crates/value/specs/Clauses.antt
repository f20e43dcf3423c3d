-- A number that the code keeps as sign and magnitude, under a range.
--     RangeWithin range         both ends of the range are within 4,000 of 0
--     signed negative n         the whole number with this sign and magnitude
--     under form range p        the number as a value of this form
--     plain_under range p        the number as a value of its own
--     below_under range p        the number as one that stands after `<`
--     written_under range b p    the number as the one or the other
--     WrittenRead s at b p e    p is the number in the field of s that starts at index at and ends at index e, after `<` where b holds
use Rattle.std.specs.Prelude.{ℕ, ◌≤◌, Bool, true, false, cond, List, ℤ, pos, neg_ℤ, nat_abs}
use Rattle.std.specs.Prelude.{Option as Answer, None, Some, Result, Err}
use Rattle.std.proofs.Math.Option.{some}
use Rattle.text.specs.Clauses.{PastByte, FieldRead}
use Rattle.number.specs.Clauses.{plain_field}
use Rattle.number.specs.declared.Number.{Number}
use Rattle.limits.specs.Limits.{coordinate_limit}
use Rattle.channel.specs.declared.Range.{Range}
use Rattle.value.specs.Value.{Written, number, below, less_than, value_under}
use Rattle.value.specs.declared.Fault.{Fault}
use Rattle.value.specs.declared.Fault.TheVariants.{Malformed}

pub record RangeWithin (range : Range) : Type 0 where
  pub low_end : nat_abs range.low ≤ coordinate_limit
  pub high_end : nat_abs range.high ≤ coordinate_limit

abbrev pub signed : Bool → ℕ → ℤ
signed false n = pos n
signed true n = neg_ℤ (pos n)

abbrev pub under : (ℤ → Written) → Range → Answer Number → Result ℤ Fault
under form range None = Err Malformed
under form range (Some p) = value_under range (some (form (signed p.negative p.magnitude)))

abbrev pub plain_under : Range → Answer Number → Result ℤ Fault
plain_under = under number

abbrev pub below_under : Range → Answer Number → Result ℤ Fault
below_under = under below

abbrev pub written_under : Range → Bool → Answer Number → Result ℤ Fault
written_under range after p = cond after (below_under range p) (plain_under range p)

pub record WrittenRead (s : List ℕ) (at : ℕ) (after : Bool) (p : Answer Number) (e : ℕ) : Type 0 where
  pub start : ℕ
  pub past : PastByte less_than s at after start
  pub read : FieldRead plain_field s start p e
