-- A score of a row that orders the rows as s does, for any rows and weights: the sum of weight times squared distance.
--     weighted_squared_distance m n a w i      e of row i
use Rattle.std.specs.Prelude.{ℕ, ◌*◌, ℤ}
use Rattle.integers.specs.Sum.{sumℕ}
use Rattle.geometry.specs.Figures.{squared_distance}

-- e of row i is the sum over the rows j of the weight of j times the squared distance of the rows i and j. Under weights of sum D
-- it is (L + s)/D (`ScoreLaws`), so that it is whole, and a move changes it by t times a difference of two squared distances
unfoldable pub weighted_squared_distance : ℕ → ℕ → (ℕ → ℕ → ℤ) → (ℕ → ℕ) → ℕ → ℕ
weighted_squared_distance m n a w i = sumℕ m (λ j. w j * squared_distance n (a i) (a j))
