-- Document 01, "A drawing", for any total D and row limit.
--     DrawingOutcome, drawing_outcome limit a    what a drawing answers, in numbers
--     Run, run stop next b made ws         the iteration of a move with a budget of b further moves, after `made` moves
--     start limit D                        all weight on the first row
--     run_from D m n a b made ws            the moves of document 01 from the weights ws
--     drawn D m n a r, not_drawn limit o    an accepted and a refused drawing
--     drawing D limit rows m n b           what the call answers for a budget of b
use Rattle.std.specs.Prelude.{ℕ, zero, suc, Bool, cond, List, leb, ℤ, replicate, set, Result, Ok, Err}
use Rattle.refusal.specs.Number.{outside_limits, budget_too_large}
use Rattle.refusal.specs.Outcome.{refused, require, Outcome, Accepted, refusal_outcome}
use Rattle.geometry.specs.Move.{settled, moved, weight_of}
use Rattle.geometry.specs.Table.{rows_within, coordinate}
use Rattle.limits.specs.Limits.{budget_limit}
use Rattle.ball.specs.Ball.{ball_of, empty_ball}
use Rattle.refusal.specs.declared.Refusal.{Refusal}
use Rattle.ball.specs.declared.Ball.{Ball}
use Rattle.drawing.specs.declared.Drawing.{Drawing}

-- the weights at the end of a run and the moves made
pub record Run : Type 0 where
  pub weights : List ℕ
  pub moves : ℕ

-- It ends when the weights are Settled, else when the budget has been moved. Which of the two is read off the last weights
-- by `ball_of`, so that a last move that settles them ends Settled
unfoldable pub run : (List ℕ → Bool) → (List ℕ → List ℕ) → ℕ → ℕ → List ℕ → Run
run stop next zero made ws = record { weights = ws; moves = made }
run stop next (suc b) made ws =
    cond (stop ws) (record { weights = ws; moves = made }) (run stop next b (suc made) (next ws))

-- It starts with all weight on row 1
unfoldable pub start : ℕ → ℕ → List ℕ
start limit D = set (replicate limit 0) 0 D

unfoldable pub run_from : ℕ → ℕ → ℕ → (ℕ → ℕ → ℤ) → ℕ → ℕ → List ℕ → Run
run_from D m n a = run (λ ws. settled D m n a (weight_of ws)) (moved D m n a)

-- what a drawing answers, in numbers: X, M, L, the weights, the ending and the moves made
pub record DrawingOutcome : Type 0 where
  pub outcome : Outcome
  pub ball : Ball
  pub weights : List ℕ
  pub moves : ℕ

abbrev pub drawn : ℕ → ℕ → ℕ → (ℕ → ℕ → ℤ) → Run → DrawingOutcome
drawn D m n a r =
    record { outcome = Accepted; ball = ball_of D m n a (weight_of r.weights); weights = r.weights; moves = r.moves }

-- a refusal: every figure and weight 0
abbrev pub not_drawn : ℕ → Outcome → DrawingOutcome
not_drawn limit o = record { outcome = o; ball = empty_ball; weights = replicate limit 0; moves = 0 }

-- 8, then 9, then the drawing
unfoldable pub drawing : ℕ → ℕ → List ℤ → ℕ → ℕ → ℕ → DrawingOutcome
drawing D limit rows m n b =
    require (rows_within limit rows m n) (not_drawn limit (refused outside_limits)) (λ _.
    require (leb b budget_limit) (not_drawn limit (refused budget_too_large)) (λ _.
    drawn D m n (coordinate rows n) (run_from D m n (coordinate rows n) b 0 (start limit D))))

abbrev pub drawing_outcome : ℕ → Result Drawing Refusal → DrawingOutcome
drawing_outcome limit (Ok d) = record { outcome = Accepted; ball = d.ball; weights = d.weights; moves = d.moves }
drawing_outcome limit (Err r) = not_drawn limit (refusal_outcome r)
