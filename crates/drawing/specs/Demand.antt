-- Demand 3 of document 01, of what a drawing answers, for any total D above 0 and any row limit.
--     run-total                              any number of moves from any weights keeps their sum
--     Kept, run_kept_lem                         after a run from the first row the sum is D, and L has risen by at least 1 with each move
--     drawing_accepts, drawing-accepted      a drawing is accepted exactly where the limits hold and the budget is within its own
--     drawing_zero                           only an accepted drawing has the number 0
--     drawing_is                             an accepted drawing is that of the whole run
--     drawing_spent                          the moves are at most the budget, and all of it where the weights are not Settled
--     drawing-total                          the weights of an accepted drawing sum to D
--     drawing_moves                          3.4: the moves made are at most L
--     drawing_tight                          demand 3 holds of every accepted drawing, with any budget
--     draw_promise                           the definition's answer keeps what the call promises
use Prim.Native.Nat.{ℕ, suc, ◌≤◌, ◌<◌, zero-le}
use Rattle.std.specs.Prelude.{◌≡◌, refl, true, List, leb, ℤ, length}
use Rattle.std.proofs.Common.{sym, ◌∙◌, ap, arith, le_trans, lit<}
use Rattle.std.proofs.Math.Path.{subst}
use Rattle.std.proofs.Math.Bool.{false}
use borrow.Author.Tests.{leb-true}
use Rattle.refusal.specs.Outcome.{number_of, Accepted}
use Rattle.geometry.specs.Figures.{scaled_lower_bound}
use Rattle.geometry.specs.Move.{settled, moved, weight_of}
use Rattle.geometry.specs.Table.{coordinate, rows_within}
use Rattle.limits.specs.Limits.{total, row_limit, budget_limit}
use Rattle.geometry.specs.Places.{weights_total}
use Rattle.geometry.specs.TableLaws.{within_limits}
use Rattle.geometry.proofs.MoveLaws.{moved_length, moved-total, lower_bound_rises, rise_some}
use Rattle.ball.specs.Ball.{ball_of}
use Rattle.ball.specs.Demand.{weights_tight}
use Rattle.drawing.specs.Draw.{start, run_from, drawn, drawing, DrawingOutcome}
use Rattle.ball.specs.Clauses.{Tight}
use Rattle.drawing.specs.Clauses.{DrawPromise}
use Rattle.drawing.specs.RunLaws.{run_keeps}
use Rattle.drawing.specs.DrawLaws.{run_from_spent, start-length, start-total, drawing-drawn}
use Rattle.refusal.specs.OutcomeLaws.{each_answer, never_accepted, never_zero}

-- ---- runs

-- the weights keep their sum through any number of moves, whatever they are
pub run-total : (D m n : ℕ) (a : ℕ → ℕ → ℤ) (b made : ℕ) (ws : List ℕ) → 0 < m → m ≤ length ws → weights_total m (run_from D m n a b made ws).weights ≡ weights_total m ws
unfolding run_from
run-total D m n a b made ws some places =
    (run_keeps (λ later. settled D m n a (weight_of later)) (moved D m n a) (λ k later. (m ≤ length later) × (weights_total m later ≡ weights_total m ws))
    (λ k later unsettled h. (omega (arith, moved_length D m n a later, h.0), moved-total D m n a later some h.0 ∙ h.1)) b made ws (places, refl)).1

-- what holds after k moves: the list's places, the sum of the weights, and k at most L
pub record Kept (D m n : ℕ) (a : ℕ → ℕ → ℤ) (k : ℕ) (ws : List ℕ) : Type 0 where
  pub places : m ≤ length ws
  pub sum : weights_total m ws ≡ D
  pub risen : k ≤ scaled_lower_bound D m n a (weight_of ws)

module _ (D m n : ℕ) (a : ℕ → ℕ → ℤ) (positive : 0 < D) (some : 0 < m) where
  move_kept : (k : ℕ) (ws : List ℕ) → settled D m n a (weight_of ws) ≡ false → Kept D m n a k ws → Kept D m n a (suc k) (moved D m n a ws)
  move_kept k ws unsettled h =
      record {
        places = omega (arith, moved_length D m n a ws, h.places);
        sum = moved-total D m n a ws some h.places ∙ h.sum;
        risen =
            omega (arith, h.risen, rise_some D m n a ws positive some h.places h.sum unsettled, lower_bound_rises D m n a ws positive some h.places h.sum unsettled);
      }

  pub run_kept_lem : (limit b : ℕ) → m ≤ limit → Kept D m n a (run_from D m n a b 0 (start limit D)).moves (run_from D m n a b 0 (start limit D)).weights
  unfolding run_from
  run_kept_lem limit b most =
      run_keeps (λ ws. settled D m n a (weight_of ws)) (moved D m n a) (Kept D m n a) move_kept b 0 (start limit D)
      (record { places = omega (arith, start-length limit D); sum = start-total limit D m some most; risen = zero-le })

-- ---- the call, for any row limit

module _ (D limit : ℕ) (rows : List ℤ) (m n b : ℕ) where
  -- where the limits hold, and the budget is within its own, a drawing is accepted; the converse is `drawing-accepted`
  pub drawing_accepts : rows_within limit rows m n ≡ true → b ≤ budget_limit → (drawing D limit rows m n b).outcome ≡ Accepted
  drawing_accepts h k = ap (λ (r : DrawingOutcome). r.outcome) (drawing-drawn D limit rows m n b h k)

  pub drawing_zero : number_of (drawing D limit rows m n b).outcome ≡ 0 → (drawing D limit rows m n b).outcome ≡ Accepted
  unfolding drawing
  drawing_zero =
      let Zero : DrawingOutcome → Type 0 = λ r. number_of r.outcome ≡ 0 → r.outcome ≡ Accepted in
      each_answer Zero (rows_within limit rows m n) (λ _. never_zero) (λ _.
      each_answer Zero (leb b budget_limit) (λ _. never_zero) (λ _ _.
      refl))

  module _ (accepted : (drawing D limit rows m n b).outcome ≡ Accepted) where
    -- what acceptance says; the converse is `drawing_accepts`
    pub drawing-accepted : (rows_within limit rows m n ≡ true) × (b ≤ budget_limit)
    unfolding drawing
    drawing-accepted =
        let Says : DrawingOutcome → Type 0 = λ r. r.outcome ≡ Accepted → (rows_within limit rows m n ≡ true) × (b ≤ budget_limit) in
        each_answer Says (rows_within limit rows m n) (λ _. never_accepted) (λ h.
        each_answer Says (leb b budget_limit) (λ _. never_accepted) (λ k _.
        (h, leb-true b budget_limit k))) accepted

    pub drawing_is : drawing D limit rows m n b ≡ drawn D m n (coordinate rows n) (run_from D m n (coordinate rows n) b 0 (start limit D))
    drawing_is = drawing-drawn D limit rows m n b drawing-accepted.0 drawing-accepted.1

    -- the moves are at most the budget, and all of it where the weights are not Settled
    pub drawing_spent : ((drawing D limit rows m n b).moves ≤ b) × ((drawing D limit rows m n b).ball.settled ≡ false → (drawing D limit rows m n b).moves ≡ b)
    unfolding ball_of
    drawing_spent =
        let spent = run_from_spent D m n (coordinate rows n) b 0 (start limit D) in
        subst (λ (r : DrawingOutcome). (r.moves ≤ b) × (r.ball.settled ≡ false → r.moves ≡ b)) (sym drawing_is)
        (omega (arith, spent.most), λ h. omega (arith, spent.all h))

    module _ (positive : 0 < D) where
      kept : let r = run_from D m n (coordinate rows n) b 0 (start limit D) in Kept D m n (coordinate rows n) r.moves r.weights
      kept =
          let table = within_limits limit rows m n drawing-accepted.0 in
          run_kept_lem D m n (coordinate rows n) positive table.some_row limit b table.rows_most

      pub drawing-total : weights_total m (drawing D limit rows m n b).weights ≡ D
      drawing-total = subst (λ (r : DrawingOutcome). weights_total m r.weights ≡ D) (sym drawing_is) kept.sum

      pub drawing_moves : (drawing D limit rows m n b).moves ≤ (drawing D limit rows m n b).ball.scaled_lower_bound
      unfolding ball_of
      drawing_moves = subst (λ (r : DrawingOutcome). r.moves ≤ r.ball.scaled_lower_bound) (sym drawing_is) kept.risen

      pub drawing_tight : Tight D m n (coordinate rows n) (drawing D limit rows m n b).ball
      drawing_tight =
          subst (λ (r : DrawingOutcome). Tight D m n (coordinate rows n) r.ball) (sym drawing_is)
          (weights_tight D limit rows m n (run_from D m n (coordinate rows n) b 0 (start limit D)).weights positive drawing-accepted.0 kept.sum)

pub draw_promise : (rows : List ℤ) (m n b : ℕ) (r : DrawingOutcome) → r ≡ drawing total row_limit rows m n b → DrawPromise rows m n b r
draw_promise rows m n b r e =
    subst (DrawPromise rows m n b) (sym e)
    record {
      is = refl;
      total_kept = λ h. drawing-total total row_limit rows m n b h (lit< tt);
      tight = λ h. drawing_tight total row_limit rows m n b h (lit< tt);
      moves_most = λ h. drawing_moves total row_limit rows m n b h (lit< tt);
      budget_spent = drawing_spent total row_limit rows m n b;
      moves_limit = λ h. le_trans (drawing_spent total row_limit rows m n b h).0 (drawing-accepted total row_limit rows m n b h).1;
    }
