-- Document 01, "Weights from anybody", for any total D and row limit.
--     Checked, checked_outcome a              what a check answers, in numbers
--     not_checked o                           a refused check
--     checking D limit rows m n ws           what the call answers
use Rattle.std.specs.Prelude.{ℕ, ◌&&◌, List, eqb, ℤ, length, Result, Ok, Err}
use Rattle.refusal.specs.Number.{outside_limits, disagreement}
use Rattle.refusal.specs.Outcome.{refused, require, Outcome, Accepted, refusal_outcome}
use Rattle.geometry.specs.Move.{weight_of}
use Rattle.geometry.specs.Table.{rows_within, coordinate}
use Rattle.geometry.specs.Places.{weights_total}
use Rattle.ball.specs.Ball.{ball_of, empty_ball}
use Rattle.refusal.specs.declared.Refusal.{Refusal}
use Rattle.ball.specs.declared.Ball.{Ball}

-- what a check answers, in numbers
pub record Checked : Type 0 where
  pub outcome : Outcome
  pub ball : Ball

abbrev pub not_checked : Outcome → Checked
not_checked o = record { outcome = o; ball = empty_ball }

-- 8 (a list that is not of m places included), then 12 for a sum other than D, then the figures
unfoldable pub checking : ℕ → ℕ → List ℤ → ℕ → ℕ → List ℕ → Checked
checking D limit rows m n ws =
    require (rows_within limit rows m n && eqb (length ws) m) (not_checked (refused outside_limits)) (λ _.
    require (eqb (weights_total m ws) D) (not_checked (refused disagreement)) (λ _.
    record { outcome = Accepted; ball = ball_of D m n (coordinate rows n) (weight_of ws) }))

abbrev pub checked_outcome : Result Ball Refusal → Checked
checked_outcome (Ok ball) = record { outcome = Accepted; ball = ball }
checked_outcome (Err r) = not_checked (refusal_outcome r)
