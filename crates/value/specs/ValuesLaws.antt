-- The values of a line, both ways, and their ranges at each value.
--     values_printed          fields that are read as values are their printing
--     printed_values          the printing of values is read as them
--     values_free             no byte that stands in no label and is not `<` stands in the printing of values
--     in_range_lem, range_in      the test of the ranges, at each value
use Prim.Native.Nat.{ℕ, zero, suc, ◌<◌}
use Rattle.std.specs.Prelude.{◌≡◌, true, false, eqb, pos, length, get_or}
use Rattle.std.proofs.Math.Path.{refl}
use Rattle.std.proofs.Common.{ap₂, arith, le_of_suc-le-suc}
use mathlib.Core.List.{List, [], ◌∷◌, map}
use Rattle.std.proofs.Math.Option.{Option, none, some}
use Rattle.integers.specs.Tests.{both, unlike}
use Rattle.text.specs.Parts.{all_free}
use Rattle.label.specs.Label.{is_label_byte}
use Rattle.label.specs.LabelLaws.{no_digit, no_hyphen}
use Rattle.channel.specs.Channel.{Types}
use Rattle.channel.specs.Clauses.{range_of}
use Rattle.value.specs.Value.{Written, number, less_than, value_of, value_in_range, print_value}
use Rattle.value.specs.ValueLaws.{value-print, print-value, value-free}
use Rattle.value.specs.Values.{and_value, values_of, values_in_range}

and_value_some : (o : Option Written) (os : Option (List Written)) (vs : List Written) → and_value o os ≡ some vs
    → (v : Written) × (rest : List Written) × (o ≡ some v) × (os ≡ some rest) × (vs ≡ v ∷ rest)
and_value_some none os vs e = unlike e
and_value_some (some v) none vs e = unlike e
and_value_some (some v) (some rest) vs e = (v, rest, refl, refl, cc)

pub values_printed : (fields : List (List ℕ)) (vs : List Written) → values_of fields ≡ some vs → map print_value vs ≡ fields
unfolding values_of
values_printed [] vs e = let empty : [] ≡ vs = cc in rw (← empty)
values_printed (field ∷ fields) vs e =
    let first = and_value_some (value_of field) (values_of fields) vs e in
    rw first.4 (ap₂ ◌∷◌ (print-value field first.0 first.2) (values_printed fields first.1 first.3))

pub printed_values : (vs : List Written) → values_of (map print_value vs) ≡ some vs
unfolding values_of
printed_values [] = refl
printed_values (v ∷ vs) = rw (value-print v, printed_values vs)

pub values_free : (c : ℕ) → is_label_byte c ≡ false → eqb c less_than ≡ false → (vs : List Written) → all_free c (map print_value vs) ≡ true
unfolding all_free
values_free c h other [] = refl
values_free c h other (v ∷ vs) = rw (value-free c (no_digit c h) (no_hyphen c h) other v) (values_free c h other vs)

-- ---- the ranges

module _ (types : Types) where
  pub in_range_lem : (codes : List ℕ) (vs : List Written) → length vs ≡ length codes → values_in_range types codes vs ≡ true
      → (k : ℕ) → k < length codes → value_in_range (range_of types (get_or codes k 0)) (get_or vs k (number (pos 0))) ≡ true
  unfolding values_in_range
  in_range_lem [] vs same_length h k l = absurd (omega arith)
  in_range_lem (code ∷ codes) [] same_length h k l = absurd (omega arith)
  in_range_lem (code ∷ codes) (v ∷ vs) same_length h zero l = (both (value_in_range (range_of types code) v) (values_in_range types codes vs) h).0
  in_range_lem (code ∷ codes) (v ∷ vs) same_length h (suc k) l =
      in_range_lem codes vs (omega arith) (both (value_in_range (range_of types code) v) (values_in_range types codes vs) h).1 k (le_of_suc-le-suc l)

  pub range_in : (codes : List ℕ) (vs : List Written)
      → ((k : ℕ) → k < length codes → value_in_range (range_of types (get_or codes k 0)) (get_or vs k (number (pos 0))) ≡ true)
      → values_in_range types codes vs ≡ true
  unfolding values_in_range
  range_in [] vs h = refl
  range_in (code ∷ codes) [] h = refl
  range_in (code ∷ codes) (v ∷ vs) h = rw (h 0 (omega arith)) (range_in codes vs (λ k l. h (suc k) (omega arith)))
