-- Laws of the check.
--     weights_total_zero, weights_total_next           the sum of the first weights, one more at a time
--     checking_limits, -places, -sum, -checked       the four answers of a check
use Rattle.std.specs.Prelude.{ℕ, ◌+◌, ◌≡◌, refl, true, false, List, ℤ, length}
use Rattle.std.proofs.Common.{ap, add-one}
use borrow.Author.Tests.{eq-eqb, ne_eqb}
use Rattle.integers.specs.Sum.{sumℕ}
use Rattle.refusal.specs.Number.{outside_limits, disagreement}
use Rattle.refusal.specs.Outcome.{refused, Accepted}
use Rattle.geometry.specs.Move.{weight_of}
use Rattle.geometry.specs.Table.{coordinate, rows_within}
use Rattle.geometry.specs.Places.{weights_total}
use Rattle.ball.specs.Ball.{ball_of}
use Rattle.checking.specs.Check.{not_checked, checking}

pub weights_total_zero : (ws : List ℕ) → weights_total 0 ws ≡ 0
unfolding weights_total sumℕ
weights_total_zero ws = refl

pub weights_total_next : (i : ℕ) (ws : List ℕ) → weights_total (i + 1) ws ≡ weights_total i ws + weight_of ws i
unfolding weights_total sumℕ
weights_total_next i ws = ap (λ k. weights_total k ws) (add-one i)

-- ---- the answers

module _ (D limit : ℕ) (rows : List ℤ) (m n : ℕ) (ws : List ℕ) where
  pub checking_limits : rows_within limit rows m n ≡ false → checking D limit rows m n ws ≡ not_checked (refused outside_limits)
  unfolding checking
  checking_limits h = rw (h, checking)

  pub checking_places : rows_within limit rows m n ≡ true → (length ws ≡ m → ⊥) → checking D limit rows m n ws ≡ not_checked (refused outside_limits)
  unfolding checking
  checking_places h k = rw (h, ne_eqb (length ws) m k, checking)

  pub checking_sum : rows_within limit rows m n ≡ true → length ws ≡ m → (weights_total m ws ≡ D → ⊥) → checking D limit rows m n ws ≡ not_checked (refused disagreement)
  unfolding checking
  checking_sum h k l = rw (h, eq-eqb (length ws) m k, ne_eqb (weights_total m ws) D l, checking)

  pub checking-checked : rows_within limit rows m n ≡ true → length ws ≡ m → weights_total m ws ≡ D → checking D limit rows m n ws ≡ record { outcome = Accepted; ball = ball_of D m n (coordinate rows n) (weight_of ws) }
  unfolding checking
  checking-checked h k l = rw (h, eq-eqb (length ws) m k, eq-eqb (weights_total m ws) D l, checking)
