-- X is that of the check, which has the places asked of it; a refusal leaves the slice as it was lent.
use Rattle.std.proofs.Common.{◌≡◌, refl, ap, length, rules, arith, Result, Ok, Err}
use Rattle.std.specs.Result.{IsErr}
use Rattle.limits.specs.Limits.{total, row_limit, channel_limit}
use Rattle.refusal.specs.Outcome.{kind_number, number_of, outcome_of}
use Rattle.refusal.specs.OutcomeLaws.{kind_nonzero}
use Rattle.refusal.specs.declared.Refusal.{Refusal}
use Rattle.lent.specs.ContractLaws.{unwritten}
use Rattle.checking.specs.Check.{checking, Checked}
use Rattle.checking.specs.Demand.{checking_zero, checking-accepted}
use Rattle.export_answers.specs.ContractLaws.{accepted_places}
use Rattle.export_ball.proofs.check_into.Goals as goal

-- the number of a refusal
error_nonzero : {A : Type 0} (r : Result A Refusal) → IsErr r → number_of (outcome_of r) ≡ 0 → ⊥
error_nonzero (Err refusal) h z = kind_nonzero refusal.kind z
error_nonzero (Ok x) h z = cc

-- it stands first, so that an answer that is not the defined one is refused by it
pub returns-clause-answer : goal.returns-clause-answer
returns-clause-answer c = search rules

pub returns-in_err-ball-clause-centre_filled : goal.returns-in_err-ball-clause-centre_filled
returns-in_err-ball-clause-centre_filled c =
    let args = c.args in
    unwritten refl args.n (checking total row_limit args.rows.now args.m args.n args.weights.now).ball.scaled_centre args.scaled_centre.now
    (error_nonzero c.from_residual.result c.from_residual.ensures.0)

pub returns-then-not-fits-clause-centre_filled : goal.returns-then-not-fits-clause-centre_filled
returns-then-not-fits-clause-centre_filled c =
    let args = c.args in
    unwritten (ap (λ (r : Refusal). kind_number r.kind) c.into.ensures) args.n
    (checking total row_limit args.rows.now args.m args.n args.weights.now).ball.scaled_centre args.scaled_centre.now (λ z. omega arith)

pub fill-requires : goal.fill-requires
fill-requires c =
    let args = c.args in
    let places =
    (accepted_places args.rows.now args.m args.n refl (ap (λ (k : Checked). k.outcome) c.in_ok-ball.ensures.is)
    (checking_zero total row_limit args.rows.now args.m args.n args.weights.now)
    (λ e. (checking-accepted total row_limit args.rows.now args.m args.n args.weights.now e).0) refl).1 in
    let eight : channel_limit ≡ length c.in_ok-ball.ball.scaled_centre = search rules in
    (omega arith, omega (arith, places.0))
