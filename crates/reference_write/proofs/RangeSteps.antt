-- The numbers of a row under their types, number by number.
--     InRanges codes numbers n i     the first i of n numbers are within their ranges
--     ranges_none, ranges_next       at the start of a loop over them, and after one that is within its range
--     ranges_fail, ranges_done       at one that is not, and at the end
use Prim.Native.Nat.{ℕ, ◌+◌, ◌≤◌, ◌<◌}
use mathlib.Core.Path.{◌≡◌, sym, ap, ap₂, ◌∙◌}
use mathlib.Core.Bool.{true, false}
use mathlib.Core.List.{List, map}
use mathlib.Core.Logic.{◌⊎◌, inl, inr}
use native.Mathlib.Omega.{arith}
use lib.IntN.{ℤ, pos}
use lib.ListN.{length, get_or, take, length-map, get_or-map}
use lib.Seq.{length-take-le, get_or-take}
use Rattle.integers.specs.SumLaws.{last_or_below}
use Rattle.integers.specs.Tests.{clash, refuted}
use Rattle.channel.specs.Channel.{channel_types}
use Rattle.channel.specs.Clauses.{range_of}
use Rattle.value.specs.Value.{Written, number, in_range, value_in_range}
use Rattle.value.specs.Values.{values_in_range}
use Rattle.value.specs.ValuesLaws.{in_range_lem, range_in}

pub record InRanges (codes : List ℕ) (numbers : List ℤ) (n i : ℕ) : Type 0 where
  pub within : i ≤ n
  pub each : (k : ℕ) → k < i → in_range (range_of channel_types (get_or codes k 0)) (get_or numbers k (pos 0)) ≡ true

module _ {codes : List ℕ} {numbers : List ℤ} {n : ℕ} where
  pub ranges_none : InRanges codes numbers n 0
  ranges_none = record { within = omega arith; each = λ k h. absurd (omega arith) }

  module _ {i : ℕ} (so_far : InRanges codes numbers n i) where
    pub ranges_next : i < n → in_range (range_of channel_types (get_or codes i 0)) (get_or numbers i (pos 0)) ≡ true → InRanges codes numbers n (i + 1)
    ranges_next below here = record { within = omega arith; each = λ k h. go k (last_or_below i k (omega arith)) }
      where
        go : (k : ℕ) → (k ≡ i) ⊎ (k < i) → in_range (range_of channel_types (get_or codes k 0)) (get_or numbers k (pos 0)) ≡ true
        go k (inl e) = rw e here
        go k (inr h) = so_far.each k h

    module _ (places : n ≤ length numbers) (typed : n ≤ length codes) where
      -- the test of one value
      value-at : (k : ℕ) → k < n
          → value_in_range (range_of channel_types (get_or (take n codes) k 0)) (get_or (map number (take n numbers)) k (number (pos 0)))
          ≡ in_range (range_of channel_types (get_or codes k 0)) (get_or numbers k (pos 0))
      value-at k h =
          ap₂ (λ (code : ℕ) (v : Written). value_in_range (range_of channel_types code) v) (get_or-take n codes k 0 h)
          (get_or-map number (take n numbers) k (pos 0) ∙ ap number (get_or-take n numbers k (pos 0) h))

      pub ranges_done : n ≤ i → true ≡ values_in_range channel_types (take n codes) (map number (take n numbers))
      ranges_done h =
          sym
          (range_in channel_types (take n codes) (map number (take n numbers))
          (λ k l.
          let below : k < n = omega (arith, length-take-le n codes typed) in
          value-at k below ∙ so_far.each k (omega arith)))

      pub ranges_fail : i < n → in_range (range_of channel_types (get_or codes i 0)) (get_or numbers i (pos 0)) ≡ false
          → false ≡ values_in_range channel_types (take n codes) (map number (take n numbers))
      ranges_fail below fault =
          refuted (values_in_range channel_types (take n codes) (map number (take n numbers)))
          (λ h.
          clash
          (in_range_lem channel_types (take n codes) (map number (take n numbers))
          (length-map (take n numbers) number ∙ length-take-le n numbers places ∙ sym (length-take-le n codes typed)) h i
          (omega (arith, length-take-le n codes typed)))
          (value-at i below ∙ fault))
