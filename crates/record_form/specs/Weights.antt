-- The `W` lines of a record and the weights of an envelope, row by row.
--     placed_in places ws     the places with each weight at its row
--     weights_of limit ws     the weights of so many rows: 0 where no `W` line has the row
--     listed row weights     a `W` line for each weight above 0, the first weight being that of this row
use Rattle.std.specs.Prelude.{ℕ, zero, suc, ◌-◌, List, [], ◌∷◌, replicate, set}
use Rattle.record_lines.specs.Lines.{Weight}

-- rows count from 1, places from 0
unfoldable pub placed_in : List ℕ → List Weight → List ℕ
placed_in places [] = places
placed_in places (w ∷ ws) = placed_in (set places (w.row - 1) w.weight) ws

unfoldable pub weights_of : ℕ → List Weight → List ℕ
weights_of limit ws = placed_in (replicate limit 0) ws

unfoldable pub listed : ℕ → List ℕ → List Weight
listed row [] = []
listed row (zero ∷ weights) = listed (suc row) weights
listed row (suc w ∷ weights) = record { row = row; weight = suc w } ∷ listed (suc row) weights
