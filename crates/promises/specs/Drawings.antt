-- Demand 2, the drawing and the check, for any total D and row limit. That the code answers by these definitions is in Calls.
--     promise_2_4     a drawing is the iteration of the move from all weight on row 1 (`DrawingMade`)
--     promise_2_5     what the check accepts and gives (`CheckMade`)
use Rattle.std.specs.Prelude.{◌<◌, ◌≤◌, suc, ℕ, ◌≡◌, refl, Bool, false, true, List, ℤ, length, replicate, set, take}
use Rattle.std.proofs.Math.Path.{ap}
use Rattle.limits.specs.Limits.{budget_limit}
use Rattle.geometry.specs.Figures.{scaled_centre, scaled_lower_bound, scaled_squared_radius}
use Rattle.geometry.specs.Move.{moved, settled, weight_of}
use Rattle.geometry.specs.Places.{centre_list, weights_total}
use Rattle.geometry.specs.Table.{coordinate, rows_within}
use Rattle.ball.specs.Ball.{ball_of, filled_ball}
use Rattle.checking.specs.Check.{checking, Checked}
use Rattle.checking.specs.CheckLaws.{checking-checked}
use Rattle.checking.specs.Demand.{checking-accepted, checking_accepts}
use Rattle.drawing.specs.Demand.{drawing-accepted, drawing_accepts, drawing_is, drawing_spent, drawing-total, run-total}
use Rattle.drawing.specs.Draw.{Run, drawing, drawn, run_from, start}
use Rattle.drawing.specs.DrawnWeights.{drawing_checks}
use Rattle.drawing.specs.RunLaws.{ended, run_step, run-stop, run_zero}
use Rattle.refusal.specs.Outcome.{Accepted}

-- ---- 2.4

module _ (D limit : ℕ) (rows : List ℤ) (m n : ℕ) where
  abbrev stop : List ℕ → Bool
  stop ws = settled D m n (coordinate rows n) (weight_of ws)

  abbrev running : ℕ → ℕ → List ℕ → Run
  running = run_from D m n (coordinate rows n)

  pub record DrawingMade (b : ℕ) : Type 0 where
    -- it starts with all weight on row 1
    pub starts : start limit D ≡ set (replicate limit 0) 0 D
    -- a run of moves ends when the budget is used or the weights are Settled, else a move is made
    pub ends_spent : (made : ℕ) (ws : List ℕ) → running 0 made ws ≡ ended ws made
    pub ends_settled : (left made : ℕ) (ws : List ℕ) → stop ws ≡ true → running left made ws ≡ ended ws made
    pub goes_on : (left made : ℕ) (ws : List ℕ) → stop ws ≡ false
        → running (suc left) made ws ≡ running left (suc made) (moved D m n (coordinate rows n) ws)
    -- it is accepted exactly when the limits hold and the budget is within its own, and then carries what the run gives
    pub accepts : rows_within limit rows m n ≡ true → b ≤ budget_limit → (drawing D limit rows m n b).outcome ≡ Accepted
    pub accepted : (drawing D limit rows m n b).outcome ≡ Accepted → (rows_within limit rows m n ≡ true) × (b ≤ budget_limit)
    pub carries : (drawing D limit rows m n b).outcome ≡ Accepted
        → drawing D limit rows m n b ≡ drawn D m n (coordinate rows n) (running b 0 (start limit D))
    -- Budget only when exactly the budget has been moved
    pub budget_spent : (drawing D limit rows m n b).outcome ≡ Accepted
        → ((drawing D limit rows m n b).moves ≤ b) × ((drawing D limit rows m n b).ball.settled ≡ false → (drawing D limit rows m n b).moves ≡ b)
    -- the weights keep their sum through any number of moves, from any weights, so that those of a drawing sum to D
    pub sum_kept : (left made : ℕ) (ws : List ℕ) → 0 < m → m ≤ length ws → weights_total m (running left made ws).weights ≡ weights_total m ws
    pub weights_sum : (drawing D limit rows m n b).outcome ≡ Accepted → 0 < D → weights_total m (drawing D limit rows m n b).weights ≡ D

  pub promise_2_4 : (b : ℕ) → DrawingMade b
  unfolding start run_from
  promise_2_4 b =
      record {
        starts = refl;
        ends_spent = run_zero stop (moved D m n (coordinate rows n));
        ends_settled = λ left made ws. run-stop stop (moved D m n (coordinate rows n)) made ws left;
        goes_on = λ left made ws. run_step stop (moved D m n (coordinate rows n)) made ws left;
        accepts = drawing_accepts D limit rows m n b;
        accepted = drawing-accepted D limit rows m n b;
        carries = drawing_is D limit rows m n b;
        budget_spent = drawing_spent D limit rows m n b;
        sum_kept = run-total D m n (coordinate rows n);
        weights_sum = drawing-total D limit rows m n b;
      }

  -- ---- 2.5

  pub record CheckMade (ws : List ℕ) : Type 0 where
    -- accepted exactly when the limits hold, the list has m places and the sum is D
    pub accepts : rows_within limit rows m n ≡ true → length ws ≡ m → weights_total m ws ≡ D → (checking D limit rows m n ws).outcome ≡ Accepted
    pub accepted : (checking D limit rows m n ws).outcome ≡ Accepted → (rows_within limit rows m n ≡ true) × (length ws ≡ m) × (weights_total m ws ≡ D)
    -- it then gives X, M, L and whether the weights are Settled
    pub gives : rows_within limit rows m n ≡ true → length ws ≡ m → weights_total m ws ≡ D
        → (checking D limit rows m n ws).ball
        ≡ filled_ball (centre_list n (scaled_centre (coordinate rows n) (weight_of ws) m))
        (scaled_squared_radius D m n (coordinate rows n) (scaled_centre (coordinate rows n) (weight_of ws) m))
        (scaled_lower_bound D m n (coordinate rows n) (weight_of ws)) (settled D m n (coordinate rows n) (weight_of ws))
    -- of drawn weights it gives the drawing's figures
    pub drawn_checked : (b : ℕ) → (drawing D limit rows m n b).outcome ≡ Accepted → 0 < D
        → checking D limit rows m n (take m (drawing D limit rows m n b).weights) ≡ record { outcome = Accepted; ball = (drawing D limit rows m n b).ball }

  pub promise_2_5 : (ws : List ℕ) → CheckMade ws
  unfolding ball_of
  promise_2_5 ws =
      record {
        accepts = checking_accepts D limit rows m n ws;
        accepted = checking-accepted D limit rows m n ws;
        gives = λ within places sum. ap (λ (r : Checked). r.ball) (checking-checked D limit rows m n ws within places sum);
        drawn_checked = drawing_checks D limit rows m n;
      }
