-- What the drawing promises, and what the run of moves below it gives.
--     DrawPromise rows m n b r      the definition's answer; where it is accepted, the sum of its weights, demand 3 and the limits
--     Ran D limit ..                the weights at the end of a run, the moves made, and the pair that ended it, by e
use Rattle.std.specs.Prelude.{ℕ, ◌≤◌, ◌≡◌, false, List, ℤ}
use Rattle.geometry.specs.Move.{weight_of}
use Rattle.geometry.specs.Scores.{weighted_squared_distance}
use Rattle.geometry.specs.Table.{coordinate}
use Rattle.geometry.specs.Places.{weights_total}
use Rattle.limits.specs.Limits.{total, row_limit, budget_limit}
use Rattle.ball.specs.Clauses.{Tight}
use Rattle.drawing.specs.Draw.{drawing, start, run_from, DrawingOutcome}
use Rattle.geometry.specs.Clauses.{WeightsOf}
use Rattle.moves.specs.Clauses.{Paired}
use Rattle.drawing.specs.declared.Ended.{Ended}
use Rattle.refusal.specs.Outcome.{Accepted}

-- a drawing is the defined one; where it is accepted its weights sum to D, demand 3 holds of its figures, and they are within their limits
pub record DrawPromise (rows : List ℤ) (m n b : ℕ) (r : DrawingOutcome) : Type 0 where
  pub is : r ≡ drawing total row_limit rows m n b
  -- 2.3: the weights keep their sum from the start to the end
  pub total_kept : r.outcome ≡ Accepted → weights_total m r.weights ≡ total
  pub tight : r.outcome ≡ Accepted → Tight total m n (coordinate rows n) r.ball
  -- 3.4: the moves made are at most L
  pub moves_most : r.outcome ≡ Accepted → r.moves ≤ r.ball.scaled_lower_bound
  -- 2.4: they are at most the budget, and all of it where the weights are not Settled
  pub budget_spent : r.outcome ≡ Accepted → (r.moves ≤ b) × (r.ball.settled ≡ false → r.moves ≡ b)
  -- 2.14: they are within the limit on moves
  pub moves_limit : r.outcome ≡ Accepted → r.moves ≤ budget_limit

-- the weights at the end of a run, the moves made, and the pair that ended it, by e
pub record Ran (D limit : ℕ) (rows : List ℤ) (m n budget : ℕ) (r : Ended) : Type 0 where
  pub weights_are : r.weights ≡ (run_from D m n (coordinate rows n) budget 0 (start limit D)).weights
  pub moves_are : r.moves ≡ (run_from D m n (coordinate rows n) budget 0 (start limit D)).moves
  pub weights_good : WeightsOf D m r.weights
  pub paired : Paired D rows m n r.weights (weighted_squared_distance m n (coordinate rows n) (weight_of r.weights)) r.pair
