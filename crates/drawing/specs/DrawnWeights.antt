-- The weights that a drawing hands out, for any total D and row limit.
--     drawing-length     they have as many places as the row limit, accepted or refused
--     drawing-rest       past the m rows they are 0
--     drawing_checks     the check accepts those of the m rows, and gives the drawing's own figures
use Prim.Native.Nat.{ℕ, ◌≤◌, ◌<◌}
use Rattle.std.specs.Prelude.{◌≡◌, true, leb, ℤ, take}
use Rattle.std.proofs.Math.Path.{refl, ap, subst, fun_ext}
use Rattle.std.proofs.Common.{sym, ◌∙◌, arith, get_or-take, length-take-le}
use mathlib.Core.List.{List}
use Rattle.std.proofs.Math.Decide.{dec_lt}
use Rattle.std.proofs.Math.ListN.{length, length-replicate, get_or-eq_default}
use Rattle.integers.specs.Sum.{sumℕ}
use Rattle.geometry.specs.Move.{settled, moved, weight_of}
use Rattle.geometry.specs.Table.{coordinate, rows_within}
use Rattle.limits.specs.Limits.{budget_limit}
use Rattle.geometry.specs.Places.{weights_total}
use Rattle.geometry.proofs.MoveLaws.{near_within, far_within, moved_length, moved_other}
use Rattle.ball.specs.Ball.{ball_of}
use Rattle.drawing.specs.Draw.{start, run_from, drawing, DrawingOutcome}
use Rattle.checking.specs.Check.{checking, Checked}
use Rattle.drawing.specs.RunLaws.{run_keeps}
use Rattle.drawing.specs.DrawLaws.{start-length, start-rest}
use Rattle.refusal.specs.OutcomeLaws.{each_answer}
use Rattle.checking.specs.CheckLaws.{checking-checked}
use Rattle.geometry.specs.TableLaws.{within_limits}
use Rattle.drawing.specs.Demand.{drawing-accepted, drawing_is, drawing-total}
use Rattle.ball.specs.declared.Ball.{Ball}
use Rattle.refusal.specs.Outcome.{Accepted}

-- a run keeps the places of the first weights, and those past the m rows
module _ (D m n : ℕ) (a : ℕ → ℕ → ℤ) (limit b : ℕ) where
  run_length : length (run_from D m n a b 0 (start limit D)).weights ≡ limit
  unfolding run_from
  run_length =
      run_keeps (λ ws. settled D m n a (weight_of ws)) (moved D m n a) (λ k ws. length ws ≡ limit)
      (λ k ws _ e. moved_length D m n a ws ∙ e) b 0 (start limit D) (start-length limit D)

  run-rest : 0 < m → (i : ℕ) → m ≤ i → weight_of (run_from D m n a b 0 (start limit D)).weights i ≡ 0
  unfolding run_from
  run-rest some i past =
      run_keeps (λ ws. settled D m n a (weight_of ws)) (moved D m n a) (λ k ws. weight_of ws i ≡ 0)
      (λ k ws _ e.
      moved_other D m n a ws i (λ h. omega (arith, near_within D m n a (weight_of ws) some))
      (λ h. omega (arith, far_within D m n a (weight_of ws) some)) ∙ e)
      b 0 (start limit D) (start-rest limit D i (omega arith))

module _ (D limit : ℕ) (rows : List ℤ) (m n b : ℕ) where
  pub drawing-length : length (drawing D limit rows m n b).weights ≡ limit
  unfolding drawing
  drawing-length =
      let Long : DrawingOutcome → Type 0 = λ r. length r.weights ≡ limit in
      each_answer Long (rows_within limit rows m n) (λ _. length-replicate limit 0) (λ _.
      each_answer Long (leb b budget_limit) (λ _. length-replicate limit 0) (λ _.
      run_length D m n (coordinate rows n) limit b))

  module _ (accepted : (drawing D limit rows m n b).outcome ≡ Accepted) where
    within : rows_within limit rows m n ≡ true
    within = (drawing-accepted D limit rows m n b accepted).0

    pub drawing-rest : (i : ℕ) → m ≤ i → weight_of (drawing D limit rows m n b).weights i ≡ 0
    drawing-rest i past =
        subst (λ (r : DrawingOutcome). weight_of r.weights i ≡ 0) (sym (drawing_is D limit rows m n b accepted))
        (run-rest D m n (coordinate rows n) limit b (within_limits limit rows m n within).some_row i past)

    pub drawing_checks : 0 < D → checking D limit rows m n (take m (drawing D limit rows m n b).weights)
        ≡ record { outcome = Accepted; ball = (drawing D limit rows m n b).ball }
    unfolding weights_total
    drawing_checks positive =
        checking-checked D limit rows m n (take m ws) within places (ap (sumℕ m) same ∙ drawing-total D limit rows m n b accepted positive)
        ∙ ap (λ (w : ℕ → ℕ). answer (ball_of D m n (coordinate rows n) w)) same
        ∙ subst (λ (r : DrawingOutcome). answer (ball_of D m n (coordinate rows n) (weight_of r.weights)) ≡ answer r.ball)
        (sym (drawing_is D limit rows m n b accepted)) refl
      where
        ws : List ℕ
        ws = (drawing D limit rows m n b).weights

        answer : Ball → Checked
        answer x = record { outcome = Accepted; ball = x }

        places : length (take m ws) ≡ m
        places = length-take-le m ws (omega (arith, drawing-length, (within_limits limit rows m n within).rows_most))

        at : (i : ℕ) → Dec (i < m) → weight_of (take m ws) i ≡ weight_of ws i
        at i (yes l) = get_or-take m ws i 0 l
        at i (no l) = get_or-eq_default (take m ws) 0 (omega (arith, places)) ∙ sym (drawing-rest i (omega arith))

        same : weight_of (take m ws) ≡ weight_of ws
        same = fun_ext (λ i. at i (dec_lt i m))
