-- What the check promises.
--     CheckPromise rows m n ws r      the definition's answer, and demand 3 where it is accepted
use Rattle.std.specs.Prelude.{ℕ, ◌≡◌, List, ℤ}
use Rattle.geometry.specs.Table.{coordinate}
use Rattle.limits.specs.Limits.{total, row_limit}
use Rattle.ball.specs.Clauses.{Tight}
use Rattle.checking.specs.Check.{checking, Checked}
use Rattle.refusal.specs.Outcome.{Accepted}

-- a check is the defined one, and where it is accepted demand 3 holds of its figures
pub record CheckPromise (rows : List ℤ) (m n : ℕ) (ws : List ℕ) (r : Checked) : Type 0 where
  pub is : r ≡ checking total row_limit rows m n ws
  pub tight : r.outcome ≡ Accepted → Tight total m n (coordinate rows n) r.ball
