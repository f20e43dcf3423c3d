-- A disc holds the projection of each row that its ball holds, for any total D above 0.
--     OnDisc D n X M p         on each chart of two different channels, and in each channel, the point p is within the mark's radius
--     Projected D n b p        the same of the centre and the radius of the ball b
--     ten_apart, ten_apart_ball   the rows 0 and 10 of one channel, and their ball
--     same_channel_outside     on a chart of one channel against itself a row may lie outside
use Rattle.std.specs.Prelude.{ℕ, ◌-◌, ◌*◌, ◌≤◌, ◌<◌, ◌≢◌, List, [], ◌∷◌, ℤ, pos, nat_abs, ◌-ℤ◌, ◌*ℤ◌}
use Rattle.std.proofs.Common.{lit<}
use Rattle.std.specs.Float.Ieee.{size}
use Rattle.integers.specs.Sum.{sumℤ, sumℕ, square}
use Rattle.geometry.specs.Figures.{squared_length, scaled_centre, scaled_squared_distance, largest, scaled_squared_radius}
use Rattle.geometry.specs.Table.{coordinate, places_within, rows_within}
use Rattle.limits.specs.Limits.{total, row_limit}
use Rattle.geometry.specs.Places.{tabulate, centre_list, centre_of, weights_total}
use Rattle.ball.specs.Ball.{ball_of}
use Rattle.checking.specs.Check.{checking}
use Rattle.ball.specs.declared.Ball.{Ball}
use Rattle.chart.specs.Root.{root_below, ceiling_root}
use Rattle.chart.specs.Projection.{projected_squared_distance}

-- the root is the radius, in units of 1/D
pub record OnDisc (D n : ℕ) (X : ℕ → ℤ) (M : ℕ) (p : ℕ → ℤ) : Type 0 where
  pub projection_within : (h v : ℕ) → 1 ≤ h → h ≤ n → 1 ≤ v → v ≤ n → h ≢ v
      → projected_squared_distance D X p h v ≤ ceiling_root M * ceiling_root M
  pub each_channel_within : (h : ℕ) → 1 ≤ h → h ≤ n → nat_abs (pos D *ℤ p (h - 1) -ℤ X (h - 1)) ≤ ceiling_root M

-- ---- the rows of a ball

abbrev pub Projected : ℕ → ℕ → Ball → (ℕ → ℤ) → Type 0
Projected D n b p = OnDisc D n (centre_of b.scaled_centre) b.scaled_squared_radius p

-- ---- the same channel twice

abbrev pub ten_apart : List ℤ
ten_apart = pos 0 ∷ pos 10 ∷ []

-- as the check gives it for half the weight on each row
abbrev pub ten_apart_ball : Ball
ten_apart_ball = (checking total row_limit ten_apart 2 1 (32768 ∷ 32768 ∷ [])).ball

-- there the difference in that channel counts twice
pub same_channel_outside : ceiling_root ten_apart_ball.scaled_squared_radius * ceiling_root ten_apart_ball.scaled_squared_radius
    < projected_squared_distance total (centre_of ten_apart_ball.scaled_centre) (coordinate ten_apart 1 0) 1 1
unfolding checking rows_within places_within weights_total ball_of sumℤ sumℕ square squared_length scaled_centre scaled_squared_distance largest
    scaled_squared_radius coordinate tabulate centre_list ceiling_root root_below projected_squared_distance size
same_channel_outside = lit< tt
