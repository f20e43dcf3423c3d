-- The values of a line, each in a field of its own under a type of its own.
--     and_value v values                the value before the others, if there is one
--     values_of fields                  the values that the fields are, if each is one
--     values_in_range types codes vs     each value is within the range of its type
use Rattle.std.specs.Prelude.{ℕ, Bool, true, ◌&&◌, List, [], ◌∷◌}
use Rattle.std.proofs.Math.Option.{Option, none, some, map}
use Rattle.channel.specs.Channel.{Types}
use Rattle.channel.specs.Clauses.{range_of}
use Rattle.value.specs.Value.{Written, value_of, value_in_range}

abbrev pub and_value : Option Written → Option (List Written) → Option (List Written)
and_value none values = none
and_value (some v) values = map (λ (l : List Written). v ∷ l) values

unfoldable pub values_of : List (List ℕ) → Option (List Written)
values_of [] = some []
values_of (field ∷ fields) = and_value (value_of field) (values_of fields)

unfoldable pub values_in_range : Types → List ℕ → List Written → Bool
values_in_range types [] values = true
values_in_range types (code ∷ codes) [] = true
values_in_range types (code ∷ codes) (v ∷ values) = value_in_range (range_of types code) v && values_in_range types codes values
