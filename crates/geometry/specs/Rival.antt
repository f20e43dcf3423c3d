-- Demand 3 of document 01: any other ball that holds every row, its centre a fraction in each coordinate.
--     Rival m n a Y q P       the ball round Y/q of squared radius P/q² holds every row
use Rattle.std.specs.Prelude.{ℕ, ◌<◌, ◌≤◌, ℤ, pos, ◌-ℤ◌, ◌*ℤ◌}
use Rattle.geometry.specs.Figures.{squared_length}

-- P is at least the squared length of (q times row - Y) for every row
pub record Rival (m n : ℕ) (a : ℕ → ℕ → ℤ) (Y : ℕ → ℤ) (q P : ℕ) : Type 0 where
  pub some : 0 < q
  pub holds : (i : ℕ) → i < m → squared_length n (λ k. pos q *ℤ a i k -ℤ Y k) ≤ P
