-- What the functions of one move give, each by an equation with its definition.
--     each_from test at k                    whether a test holds of the k rows from `at` on
--     block_rows                             how many rows are tested together
--     FarHeld scores m i held               what is held is the far row of the first i of m rows, with its score
--     no_score                               what is held as a score before the first row of weight above 0
--     NearHeld scores ws m i held           what is held is the near row of the first i of m rows, with its score, if one of them has weight
--     FoundRow scores m row r               the row that a pass over the scores found, and its score
--     PairWith rows n far near gap r         two rows that were found, with the score of the first, a difference and d²
--     Paired D rows m n ws score r          the far and the near row with the far row's score, g and d²
--     Movable t from to ws                  both rows are in the list, and a u32 holds what each weight becomes
--     Scored rows m n ws scores             the scores are e of the weights
-- The equations take the total D; the bounds are those of the largest, `total`, which the machine's numbers hold.
use Rattle.std.specs.Prelude.{ℕ, zero, suc, ◌+◌, ◌^◌, ◌≤◌, ◌<◌, ◌≡◌, Bool, true, ◌&&◌, List, ltb, ℤ, length}
use Rattle.geometry.specs.Move.{far_row, near_row, difference, separation, weight_of}
use Rattle.geometry.specs.Figures.{squared_distance}
use Rattle.geometry.specs.Scores.{weighted_squared_distance}
use Rattle.geometry.specs.SelectLaws.{FarSoFar, NearSoFar}
use Rattle.geometry.specs.Table.{coordinate}
use Rattle.limits.specs.Limits.{total, separation_limit, difference_limit}
use Rattle.scores.specs.Clauses.{score_of}
use Rattle.moves.specs.declared.Selected.{Selected}
use Rattle.moves.specs.declared.Pair.{Pair}

-- whether a test holds of each of the k rows from `at` on
unfoldable pub each_from : (ℕ → Bool) → ℕ → ℕ → Bool
each_from test at zero = true
each_from test at (suc k) = each_from test at k && test (at + k)

-- a block: the rows that are tested together
abbrev pub block_rows : ℕ
block_rows = 8

-- what a pass over the rows holds once it has seen i of them
abbrev pub FarHeld : List ℕ → ℕ → ℕ → Selected → Type 0
FarHeld scores m i held = FarSoFar ltb (score_of scores) m i held.row held.score

-- above every score: the top bit of a u64
abbrev pub no_score : ℕ
no_score = 9223372036854775808

abbrev pub NearHeld : List ℕ → List ℕ → ℕ → ℕ → Selected → Type 0
NearHeld scores ws m i held = NearSoFar ltb (weight_of ws) (score_of scores) no_score m i held.row held.score

-- the row that a pass found among the first m, and its score
pub record FoundRow (scores : List ℕ) (m row : ℕ) (r : Selected) : Type 0 where
  pub is : r.row ≡ row
  pub within : r.row < m
  pub score_is : r.score ≡ score_of scores r.row

-- two rows that were found, with the score of the first, a difference and d²
pub record PairWith (rows : List ℤ) (n : ℕ) (far near : Selected) (gap : ℕ) (r : Pair) : Type 0 where
  pub is : r ≡ record { far = far.row; near = near.row; score = far.score; difference = gap; separation = r.separation }
  pub separation_is : r.separation ≡ squared_distance n (coordinate rows n far.row) (coordinate rows n near.row)
  pub separation_most : r.separation ≤ separation_limit

-- the far and the near row with the far row's score, g and d²
pub record Paired (D : ℕ) (rows : List ℤ) (m n : ℕ) (ws : List ℕ) (score : ℕ → ℕ) (r : Pair) : Type 0 where
  pub far_is : r.far ≡ far_row D m n (coordinate rows n) (weight_of ws)
  pub near_is : r.near ≡ near_row D m n (coordinate rows n) (weight_of ws)
  pub score_is : r.score ≡ score (far_row D m n (coordinate rows n) (weight_of ws))
  pub difference_is : r.difference ≡ difference D m n (coordinate rows n) (weight_of ws)
  pub separation_is : r.separation ≡ separation D m n (coordinate rows n) (weight_of ws)
  pub far_within : r.far < m
  pub near_within : r.near < m
  pub difference_most : r.difference ≤ difference_limit total
  pub separation_most : r.separation ≤ separation_limit

-- t can move from one row to another: both are in the list, the first has t, and the second with t is a u32
pub record Movable (t from to : ℕ) (ws : List ℕ) : Type 0 where
  pub from_within : from < length ws
  pub to_within : to < length ws
  pub lowered : t ≤ weight_of ws from
  pub raised : weight_of ws to + t < 2 ^ 32

-- the scores of the first m rows are e of the weights
pub record Scored (rows : List ℤ) (m n : ℕ) (ws scores : List ℕ) : Type 0 where
  pub places : m ≤ length scores
  pub are : (i : ℕ) → i < m → score_of scores i ≡ weighted_squared_distance m n (coordinate rows n) (weight_of ws) i
