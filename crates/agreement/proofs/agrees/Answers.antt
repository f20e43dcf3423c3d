-- `agreement::agrees` meets its contract: a weight for each row and none past them are what agreement asks first, and the rest is
-- the ball against the check.
use Rattle.std.proofs.Common.{◌≡◌, sym, ap, ◌∙◌, arith}
use Rattle.integers.specs.Tests.{clash}
use Rattle.refusal.specs.Outcome.{Accepted, refusal_outcome}
use Rattle.refusal.specs.declared.Refusal.{Refusal}
use Rattle.geometry.specs.TableLaws.{within-table}
use Rattle.checking.specs.Check.{not_checked, Checked}
use Rattle.agreement.specs.Agreement.{ball_agrees}
use Rattle.agreement.specs.AgreementLaws.{all_zero_by, agrees_ball, agrees-refused, agreed_length}
use Rattle.agreement.proofs.agrees.Goals as goal
use Rattle.agreement.proofs.agrees.Goals.{then-weights-m-via-then-weights-m, then-weights-m-via-else-weights-m+then-not-none_past}

-- no refused check is accepted
never_both : (r : Refusal) {k : Checked} → not_checked (refusal_outcome r) ≡ k → k.outcome ≡ Accepted → ⊥
never_both r e accepted = let same : refusal_outcome r ≡ Accepted = ap (λ (k : Checked). k.outcome) e ∙ accepted in cc

pub returns-then-weights-m : goal.returns-then-weights-m
returns-then-weights-m c =
    agrees-refused _ _ _ _ _ _ _ (λ a.
    elim c.then-weights-m.branch [
      | then-weights-m-via-then-weights-m w ↦ omega (arith, agreed_length _ _ _ _ _ _ _ a)
      | then-weights-m-via-else-weights-m+then-not-none_past w ↦ clash (all_zero_by _ _ a.rest) (sym w.none_past.ensures ∙ w.if-not-none_past.true)
    ])

pub ball_agrees-requires : goal.ball_agrees-requires
ball_agrees-requires c = (within-table _ _ _ c.requires).channels

pub returns-in-Ok : goal.returns-in-Ok
returns-in-Ok c =
    c.ball_agrees.ensures
    ∙ ap (ball_agrees _ _) c.in-Ok.ensures
    ∙ sym (agrees_ball _ _ _ _ _ _ _ (sym c.none_past.ensures ∙ c.if-not-none_past.false))

pub returns-in-Err : goal.returns-in-Err
returns-in-Err c = agrees-refused _ _ _ _ _ _ _ (λ a. never_both _ c.in-Err.ensures a.accepted)
