-- `checking::check` meets its contract: rows outside limits are the definition's first refusal, and the rest is `check_weights`.
use mathlib.Core.Path.{sym, ◌∙◌, ap}
use Rattle.refusal.specs.Outcome.{refusal_outcome}
use Rattle.refusal.specs.declared.Refusal.{Refusal}
use Rattle.checking.specs.Check.{not_checked}
use Rattle.checking.specs.Demand.{check_promise}
use Rattle.checking.specs.CheckLaws.{checking_limits}
use Rattle.checking.proofs.check.Goals as goal

pub returns-then-not-rows_within : goal.returns-then-not-rows_within
returns-then-not-rows_within c =
    let outside = sym c.rows_within.ensures ∙ c.if-not-rows_within.true in
    check_promise _ _ _ _ _ (ap (λ (r : Refusal). not_checked (refusal_outcome r)) c.into.ensures ∙ sym (checking_limits _ _ _ _ _ _ outside))

pub check_weights-requires : goal.check_weights-requires
check_weights-requires c = sym c.rows_within.ensures ∙ c.if-not-rows_within.false

pub returns : goal.returns
returns c = check_promise _ _ _ _ _ c.check_weights.ensures
