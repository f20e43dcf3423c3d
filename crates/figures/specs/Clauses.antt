-- What the functions of the figures give besides a bounded number.
--     Weighted w a r     r is the weight w times the coordinate a
use Rattle.std.specs.Prelude.{ℕ, ◌*◌, ◌≤◌, ◌≡◌, ℤ, pos, nat_abs, ◌*ℤ◌}
use Rattle.limits.specs.Limits.{coordinate_limit}

pub record Weighted (w : ℕ) (a r : ℤ) : Type 0 where
  pub is : r ≡ pos w *ℤ a
  pub most : nat_abs r ≤ coordinate_limit * w
