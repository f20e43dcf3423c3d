-- Demand 3 of document 01, of what the check answers, for any total D above 0 and any row limit.
--     checking_accepts, checking-accepted    the check accepts exactly where the limits hold, the list has m places and the sum is D
--     checking_zero                          only an accepted check has the number 0
--     checking_tight                         demand 3 holds of all weights that the check accepts
--     check_promise                          the definition's answer keeps what the call promises
use Rattle.std.specs.Prelude.{ℕ, ◌<◌, ◌≡◌, refl, true, ◌&&◌, List, ℤ, length}
use Rattle.std.proofs.Common.{sym, ap, subst, lit<}
use borrow.Author.Tests.{eqb-true}
use Rattle.std.proofs.Math.Dec.{eqb}
use Rattle.refusal.specs.Outcome.{number_of, Accepted}
use Rattle.geometry.specs.Table.{coordinate, rows_within}
use Rattle.limits.specs.Limits.{total, row_limit}
use Rattle.geometry.specs.Places.{weights_total}
use Rattle.integers.specs.Tests.{both}
use Rattle.ball.specs.Demand.{weights_tight}
use Rattle.checking.specs.Check.{checking, Checked}
use Rattle.ball.specs.Clauses.{Tight}
use Rattle.checking.specs.Clauses.{CheckPromise}
use Rattle.refusal.specs.OutcomeLaws.{each_answer, never_accepted, never_zero}
use Rattle.checking.specs.CheckLaws.{checking-checked}

module _ (D limit : ℕ) (rows : List ℤ) (m n : ℕ) (ws : List ℕ) where
  -- where the limits hold, the list has m places and the sum is D, the check accepts; the converse is `checking-accepted`
  pub checking_accepts : rows_within limit rows m n ≡ true → length ws ≡ m → weights_total m ws ≡ D → (checking D limit rows m n ws).outcome ≡ Accepted
  checking_accepts h k l = ap (λ (r : Checked). r.outcome) (checking-checked D limit rows m n ws h k l)

  pub checking_zero : number_of (checking D limit rows m n ws).outcome ≡ 0 → (checking D limit rows m n ws).outcome ≡ Accepted
  unfolding checking
  checking_zero =
      let Zero : Checked → Type 0 = λ r. number_of r.outcome ≡ 0 → r.outcome ≡ Accepted in
      each_answer Zero (rows_within limit rows m n && eqb (length ws) m) (λ _. never_zero) (λ _.
      each_answer Zero (eqb (weights_total m ws) D) (λ _. never_zero) (λ _ _.
      refl))

  module _ (accepted : (checking D limit rows m n ws).outcome ≡ Accepted) where
    -- what acceptance says; the converse is `checking_accepts`
    pub checking-accepted : (rows_within limit rows m n ≡ true) × (length ws ≡ m) × (weights_total m ws ≡ D)
    unfolding checking
    checking-accepted =
        let within = rows_within limit rows m n in
        let places = eqb (length ws) m in
        let Says : Checked → Type 0 = λ r. r.outcome ≡ Accepted → (within ≡ true) × (length ws ≡ m) × (weights_total m ws ≡ D) in
        each_answer Says (within && places) (λ _. never_accepted) (λ h.
        each_answer Says (eqb (weights_total m ws) D) (λ _. never_accepted) (λ k _.
        ((both within places h).0, eqb-true (length ws) m (both within places h).1, eqb-true (weights_total m ws) D k))) accepted

    pub checking_tight : 0 < D → Tight D m n (coordinate rows n) (checking D limit rows m n ws).ball
    checking_tight positive =
        subst (λ (r : Checked). Tight D m n (coordinate rows n) r.ball)
        (sym (checking-checked D limit rows m n ws checking-accepted.0 checking-accepted.1 checking-accepted.2))
        (weights_tight D limit rows m n ws positive checking-accepted.0 checking-accepted.2)

pub check_promise : (rows : List ℤ) (m n : ℕ) (ws : List ℕ) (r : Checked) → r ≡ checking total row_limit rows m n ws → CheckPromise rows m n ws r
check_promise rows m n ws r e =
    subst (CheckPromise rows m n ws) (sym e)
    record { is = refl; tight = λ h. checking_tight total row_limit rows m n ws h (lit< tt) }
