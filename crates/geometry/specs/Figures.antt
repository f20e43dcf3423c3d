-- Document 01, "Figures of a set of weights", for any rows, weights and total D.
--     squared_length n v                       the squared length of a vector of n coordinates
--     squared_distance n p q                   the squared distance between two points
--     scaled_centre a w m k                    X of channel k
--     scaled_squared_distance D n X p           s of a row p
--     largest m f                             the largest of f 0, …, f (m - 1); 0 of none
--     scaled_squared_radius D m n a X           M, the ball
--     weighted_squared_length m n a w           the sum of weight times the row's squared length
--     scaled_lower_bound D m n a w              L, the floor
--     largest_squared_distance m n a            the largest squared distance between two rows
-- Rows and channels count from 0. `a i k` is the coordinate of row i in channel k, `w i` the weight of row i, a point is
-- the function from channel to coordinate, n is the number of channels and m the number of rows. Rows may be equal; the
-- source's are distinct.
use Rattle.std.specs.Prelude.{ℕ, zero, suc, ◌*◌, ◌-◌, max, ℤ, pos, ◌-ℤ◌, ◌*ℤ◌}
use Rattle.integers.specs.Sum.{sumℤ, sumℕ, square}

unfoldable pub squared_length : ℕ → (ℕ → ℤ) → ℕ
squared_length n v = sumℕ n (λ k. square (v k))

unfoldable pub squared_distance : ℕ → (ℕ → ℤ) → (ℕ → ℤ) → ℕ
squared_distance n p q = squared_length n (λ k. p k -ℤ q k)

-- X is the sum of weight times row, channel by channel. The source's x is X/D (x = Au, stated with formula 4)
unfoldable pub scaled_centre : (ℕ → ℕ → ℤ) → (ℕ → ℕ) → ℕ → ℕ → ℤ
scaled_centre a w m k = sumℤ m (λ i. pos (w i) *ℤ a i k)

-- s of a row is the squared length of (D times row - X): D² times the source's ‖a_i - x‖²
unfoldable pub scaled_squared_distance : ℕ → ℕ → (ℕ → ℤ) → (ℕ → ℤ) → ℕ
scaled_squared_distance D n X p = squared_length n (λ k. pos D *ℤ p k -ℤ X k)

unfoldable pub largest : ℕ → (ℕ → ℕ) → ℕ
largest zero f = 0
largest (suc m) f = max (largest m f) (f m)

-- The ball M is the largest s. The squared radius is M/D². It is not the source's -2Q, which is the floor: rows may lie outside that
unfoldable pub scaled_squared_radius : ℕ → ℕ → ℕ → (ℕ → ℕ → ℤ) → (ℕ → ℤ) → ℕ
scaled_squared_radius D m n a X = largest m (λ i. scaled_squared_distance D n X (a i))

-- The sum of weight times the row's squared length
unfoldable pub weighted_squared_length : ℕ → ℕ → (ℕ → ℕ → ℤ) → (ℕ → ℕ) → ℕ
weighted_squared_length m n a w = sumℕ m (λ i. w i * squared_length n (a i))

-- The floor L is D times (the sum of weight times the row's squared length), less the squared length of X: D² times the
-- source's -2Q (formulas 2 and 4). Where the weights sum to D the second is at most the first, so nothing is cut off at 0
unfoldable pub scaled_lower_bound : ℕ → ℕ → ℕ → (ℕ → ℕ → ℤ) → (ℕ → ℕ) → ℕ
scaled_lower_bound D m n a w = D * weighted_squared_length m n a w - squared_length n (scaled_centre a w m)

-- The largest squared distance between two rows; the same row may be taken twice
unfoldable pub largest_squared_distance : ℕ → ℕ → (ℕ → ℕ → ℤ) → ℕ
largest_squared_distance m n a = largest m (λ i. largest m (λ j. squared_distance n (a i) (a j)))
