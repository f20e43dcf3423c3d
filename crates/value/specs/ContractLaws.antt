-- Laws of numbers under a range.
--     under_range range z v       v where z is within the range, else out of range
--     far_away                   farther from 0 than any range is out of range
--     below_within               the range of what stands after `<` is within 4,000 of 0 too
--     signed_abs                 how far a number is from 0
--     as_half v, below_plain      what stands after `<` is a plain number from 1 to the high that reads as its half
--     below_limit                what stands after `<` in range is not below 0, and at most 4,000
--     plain-read, below_read     a number kept up to 10^19 is judged as the number itself
--     value_led, value_other     a field as a value, by what is read after `<`, or of all of it where it has none
--     value-at                   a field as a value, by the number that is read in it
--     range_found                the range of a code is within 4,000 of 0
use Rattle.std.specs.Prelude.{ℕ, suc, ◌≤◌, ◌<◌, ◌≡◌, Bool, true, false, cond, ℤ, pos, negsuc, nat_abs}
use Rattle.std.specs.Prelude.{Option as Answer, None, Some, Result, Ok, Err}
use Rattle.std.proofs.Math.Path.{refl, sym, ap}
use Rattle.std.proofs.Common.{subst, ◌∙◌, arith}
use mathlib.Core.List.{List, [], ◌∷◌}
use Rattle.std.proofs.Math.Option.{Option, none, some, map}
use Rattle.std.proofs.Math.Decide.{dec_le}
use Rattle.std.specs.Int.Signed.{le_z}
use Rattle.integers.specs.Absolute.{abs_neg}
use Rattle.integers.specs.Tests.{both, clash, impossible}
use Rattle.text.specs.Fields.{starts_with}
use Rattle.text.specs.FieldsLaws.{read_past}
use Rattle.text.specs.Clauses.{FieldRead}
use Rattle.number.specs.Number.{plain}
use Rattle.number.specs.Clauses.{magnitude_limit, saturated, plain_read, plain_field}
use Rattle.number.specs.declared.Number.{Number}
use Rattle.channel.specs.Channel.{channel_types}
use Rattle.channel.specs.ChannelLaws.{house_sound, range_within}
use Rattle.channel.specs.Clauses.{range_of}
use Rattle.channel.specs.declared.Range.{Range}
use Rattle.limits.specs.Limits.{coordinate_limit}
use Rattle.value.specs.Value.{number, below, less_than, in_range, below_range, half, value_of, value_under, value_read}
use Rattle.value.specs.ValueLaws.{far_outside, between}
use Rattle.value.specs.Clauses.{RangeWithin, signed, plain_under, below_under, written_under, WrittenRead}
use Rattle.value.specs.declared.Fault.{Fault}
use Rattle.value.specs.declared.Fault.TheVariants.{Malformed, OutOfRange}

abbrev pub under_range : Range → ℤ → Result ℤ Fault → Result ℤ Fault
under_range range z v = cond (in_range range z) v (Err OutOfRange)

pub signed_abs : (negative : Bool) (n : ℕ) → nat_abs (signed negative n) ≡ n
signed_abs false n = refl
signed_abs true n = abs_neg (pos n)

-- a value that reads as half of its number
abbrev pub as_half : Result ℤ Fault → Result ℤ Fault
as_half (Err Malformed) = Err Malformed
as_half (Err OutOfRange) = Err OutOfRange
as_half (Ok z) = Ok (half z)

pub below_plain : (range : Range) (p : Answer Number) → as_half (plain_under (below_range range) p) ≡ below_under range p
below_plain range None = refl
below_plain range (Some p) = go (in_range (below_range range) (signed p.negative p.magnitude)) (signed p.negative p.magnitude)
  where
    go : (t : Bool) (z : ℤ) → as_half (cond t (Ok z) (Err OutOfRange)) ≡ cond t (Ok (half z)) (Err OutOfRange)
    go true z = refl
    go false z = refl

module _ (range : Range) (w : RangeWithin range) where
  pub far_away : (z : ℤ) (v : Result ℤ Fault) → coordinate_limit < nat_abs z → under_range range z v ≡ Err OutOfRange
  far_away z v f =
      ap (λ b. cond b v (Err OutOfRange)) (far_outside range.low range.high z (omega (arith, w.low_end)) (omega (arith, w.high_end)))

  pub below_within : RangeWithin (below_range range)
  below_within = record { low_end = omega arith; high_end = w.high_end }

  pub below_limit : (p : Answer Number) (z : ℤ) → plain_under (below_range range) p ≡ Ok z → (z ≡ pos (nat_abs z)) × (nat_abs z ≤ coordinate_limit)
  below_limit None z e = impossible (cc)
  below_limit (Some p) z e = go (in_range (below_range range) (signed p.negative p.magnitude)) refl e
    where
      positive : (x : ℤ) → le_z (pos 1) x ≡ true → x ≡ pos (nat_abs x)
      positive (pos k) h = refl
      positive (negsuc k) h = clash h refl

      go : (t : Bool) → in_range (below_range range) (signed p.negative p.magnitude) ≡ t → cond t (Ok (signed p.negative p.magnitude)) (Err OutOfRange) ≡ Ok z
          → (z ≡ pos (nat_abs z)) × (nat_abs z ≤ coordinate_limit)
      go true h e =
          let same : signed p.negative p.magnitude ≡ z = cc in
          let held : in_range (below_range range) z ≡ true = sym (ap (in_range (below_range range)) same) ∙ h in
          (positive z (both (le_z (pos 1) z) (le_z z range.high) held).0, between (pos 1) range.high z (omega arith, w.high_end) held)
      go false h e = impossible (cc)

-- ---- a number kept up to 10^19

module _ (range : Range) (w : RangeWithin range) where
  -- what is kept is the number, or both are far away
  saturated-under : (negative : Bool) (n : ℕ) (f : ℤ → Result ℤ Fault)
      → under_range range (signed negative (saturated n)) (f (signed negative (saturated n)))
      ≡ under_range range (signed negative n) (f (signed negative n))
  saturated-under negative n f = go (dec_le n magnitude_limit)
    where
      gone : (m : ℕ) → coordinate_limit < m → under_range range (signed negative m) (f (signed negative m)) ≡ Err OutOfRange
      gone m g = far_away range w (signed negative m) (f (signed negative m)) (omega (arith, signed_abs negative m))

      go : Dec (n ≤ magnitude_limit)
          → under_range range (signed negative (saturated n)) (f (signed negative (saturated n)))
          ≡ under_range range (signed negative n) (f (signed negative n))
      go (yes k) =
          let e : saturated n ≡ n = omega arith in
          ap (λ m. under_range range (signed negative m) (f (signed negative m))) e
      go (no k) = gone (saturated n) (omega arith) ∙ sym (gone n (omega arith))

  pub plain-read : (o : Option ℤ) → plain_under range (plain_read o) ≡ value_under range (map number o)
  plain-read none = refl
  plain-read (some (pos n)) = saturated-under false n Ok
  plain-read (some (negsuc k)) = saturated-under true (suc k) Ok

module _ (range : Range) (w : RangeWithin range) where
  pub below_read : (o : Option ℤ) → below_under range (plain_read o) ≡ value_under range (map below o)
  below_read none = refl
  below_read (some (pos n)) = saturated-under (below_range range) (below_within range w) false n (λ z. Ok (half z))
  below_read (some (negsuc k)) = saturated-under (below_range range) (below_within range w) true (suc k) (λ z. Ok (half z))

-- ---- a field, by its first byte

module _ (range : Range) (w : RangeWithin range) where
  pub value_led : (l : List ℕ) → value_read range (less_than ∷ l) ≡ written_under range true (plain_field l)
  unfolding value_read value_of
  value_led l = sym (below_read range w (plain l))

  pub value_other : (l : List ℕ) → starts_with less_than l ≡ false → value_read range l ≡ written_under range false (plain_field l)
  unfolding value_read value_of plain
  value_other [] h = refl
  value_other (b ∷ l) h =
      ap (λ t. value_under range (cond t (map below (plain l)) (map number (plain (b ∷ l))))) h
      ∙ sym (plain-read range w (plain (b ∷ l)))

  pub value-at : {s : List ℕ} {at : ℕ} {after : Bool} {p : Answer Number} {r : Result ℤ Fault} {e : ℕ} → WrittenRead s at after p e
      → r ≡ written_under range after p → FieldRead (value_read range) s at r e
  value-at written is =
      read_past _ (value_read range) (written_under range) less_than (λ z. omega arith) value_led value_other _ _ written.past written.read is

-- ---- the range of a code

pub range_found : (range : Range) (code : ℕ) → range ≡ range_of channel_types code → RangeWithin range
range_found range code e =
    let ends = range_within channel_types house_sound code in
    subst RangeWithin (sym e) record { low_end = ends.0; high_end = ends.1 }
