-- Document 01, "One move", for any rows, weights and total D.
--     scaled_squared_distance_of D m n a w i        s of row i under the weights w
--     far_row D m n a w              the far row
--     near_row D m n a w             the near row
--     difference D m n a w          g
--     separation D m n a w          d²
--     is_settled g d                 whether g and d² say Settled
--     settled D m n a w             whether the weights are Settled
--     capped_step g d cap            t from g, d² and the most that may move
--     transfer D m n a w            t
--     move_weight t from to ws       the list of weights with t moved from one row to another
--     weight_of ws i                 the weight of row i in a list of weights, 0 past its end
--     moved D m n a ws              the list of weights after one move; a run asks for it only where they are not Settled
use Rattle.std.specs.Prelude.{ℕ, ◌+◌, ◌*◌, ◌-◌, ◌/◌, min, Bool, List, leb, ltb, ℤ, get_or, set}
use Rattle.geometry.specs.Figures.{squared_distance, scaled_centre, scaled_squared_distance}
use Rattle.geometry.specs.Select.{farthest, nearest}

-- Settled where g is at most d² (both 0 included); the source goes on until Δ is 0
abbrev pub is_settled : ℕ → ℕ → Bool
is_settled g d = leb g d

-- t is the whole part of (g + d² - 1)/(2d²), never more than the near row's weight. The source's step is Δ/d² (formula 26)
-- under the same cap (formula 27). D times it is g/(2d²), here rounded to the nearest whole number, a half down: above 0
-- exactly where g is above d², that is where moving 1 raises L. Where d² is 0 so is g, and the weights are Settled
abbrev pub capped_step : ℕ → ℕ → ℕ → ℕ
capped_step g d cap = min ((g + d - 1) / (2 * d)) cap

module _ (D m n : ℕ) (a : ℕ → ℕ → ℤ) (w : ℕ → ℕ) where
  unfoldable pub scaled_squared_distance_of : ℕ → ℕ
  scaled_squared_distance_of i = scaled_squared_distance D n (scaled_centre a w m) (a i)

  -- The far row has the largest s of all rows: the source's i' (formula 24), since ⟨a_i, x⟩ - b[i] falls as s rises
  unfoldable pub far_row : ℕ
  far_row = farthest ltb scaled_squared_distance_of m

  -- The near row has the smallest s among rows of weight above 0: the source's i''
  unfoldable pub near_row : ℕ
  near_row = nearest ltb w scaled_squared_distance_of m

  -- g = (s far - s near)/D, always whole. The source's Δ (formulas 11 and 18), in units of 1/D², is half of s far - s near
  unfoldable pub difference : ℕ
  difference = (scaled_squared_distance_of far_row - scaled_squared_distance_of near_row) / D

  -- d² is the squared distance between the two rows
  unfoldable pub separation : ℕ
  separation = squared_distance n (a far_row) (a near_row)

  unfoldable pub settled : Bool
  settled = is_settled difference separation

  unfoldable pub transfer : ℕ
  transfer = capped_step difference separation (w near_row)

-- The weight of row i in a list of weights: places past its end are 0
abbrev pub weight_of : List ℕ → ℕ → ℕ
weight_of ws i = get_or ws i 0

-- One row loses t, the other gains t, and no other weight changes (formula 31)
unfoldable pub move_weight : ℕ → ℕ → ℕ → List ℕ → List ℕ
move_weight t from to ws = let lowered = set ws from (get_or ws from 0 - t) in set lowered to (get_or lowered to 0 + t)

-- The weights after one move
unfoldable pub moved : ℕ → ℕ → ℕ → (ℕ → ℕ → ℤ) → List ℕ → List ℕ
moved D m n a ws =
    move_weight (transfer D m n a (weight_of ws)) (near_row D m n a (weight_of ws)) (far_row D m n a (weight_of ws)) ws
