-- How far from the mark's centre a chart of two channels shows a point.
--     projected_squared_distance D X p h v     the squared distance on the chart between the centre X/D and the point p, in units of 1/D²
-- The chart's channels count from 1, those of a point from 0.
use Rattle.std.specs.Prelude.{ℕ, ◌+◌, ◌-◌, ℤ, pos, ◌-ℤ◌, ◌*ℤ◌}
use Rattle.integers.specs.Sum.{square}

unfoldable pub projected_squared_distance : ℕ → (ℕ → ℤ) → (ℕ → ℤ) → ℕ → ℕ → ℕ
projected_squared_distance D X p h v =
    square (pos D *ℤ p (h - 1) -ℤ X (h - 1)) + square (pos D *ℤ p (v - 1) -ℤ X (v - 1))
