-- What is promised of the figures that a call hands out.
--     Tight D m n a b           what demand 3 of document 01 says of the figures b, with the limits that they keep
use Rattle.std.specs.Prelude.{ℕ, ◌*◌, ◌+◌, ◌-◌, ◌≤◌, ◌<◌, ◌≡◌, true, ℤ, pos, nat_abs, ◌-ℤ◌, ◌*ℤ◌}
use Rattle.geometry.specs.Figures.{squared_length, scaled_squared_distance, largest_squared_distance}
use Rattle.limits.specs.Limits.{centre_limit, distance_limit}
use Rattle.geometry.specs.Places.{centre_of}
use Rattle.geometry.specs.Rival.{Rival}
use Rattle.ball.specs.declared.Ball.{Ball}

-- X, M, L and Settled are b's fields; a i k is row i's coordinate in channel k
pub record Tight (D m n : ℕ) (a : ℕ → ℕ → ℤ) (b : Ball) : Type 0 where
  -- 3.1: every ball that holds all rows, from any centre Y/q, has D² P at least q² L + |q X - D Y|²
  pub rival_bound : (Y : ℕ → ℤ) (q P : ℕ) → Rival m n a Y q P
      → q * q * b.scaled_lower_bound + squared_length n (λ k. pos q *ℤ centre_of b.scaled_centre k -ℤ pos D *ℤ Y k) ≤ D * D * P
  -- 3.2: s of every row is at most M, s of some row equals M, and L is at most M
  pub every_row : (i : ℕ) → i < m → scaled_squared_distance D n (centre_of b.scaled_centre) (a i) ≤ b.scaled_squared_radius
  pub some_row : (i : ℕ) × (i < m) × (scaled_squared_distance D n (centre_of b.scaled_centre) (a i) ≡ b.scaled_squared_radius)
  pub floor : b.scaled_lower_bound ≤ b.scaled_squared_radius
  -- 3.3: where Settled, the gap is at most D times the largest squared distance between two rows
  pub gap : b.settled ≡ true → b.scaled_squared_radius - b.scaled_lower_bound ≤ D * largest_squared_distance m n a
  -- 2.14: X, M and L are within the limits on envelope figures
  pub centre_limit : (k : ℕ) → nat_abs (centre_of b.scaled_centre k) ≤ centre_limit D
  pub radius_limit : b.scaled_squared_radius ≤ distance_limit D
