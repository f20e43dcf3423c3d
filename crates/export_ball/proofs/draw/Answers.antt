-- What is handed out is that of the drawing, which has the places asked of it; a refusal leaves both slices as they were lent.
use Rattle.std.proofs.Common.{◌≡◌, refl, ap, length, rules}
use Rattle.limits.specs.Limits.{total, row_limit}
use Rattle.refusal.specs.OutcomeLaws.{kind_nonzero}
use Rattle.lent.specs.ContractLaws.{unwritten}
use Rattle.drawing.specs.Draw.{drawing, DrawingOutcome}
use Rattle.drawing.specs.Demand.{drawing_zero, drawing-accepted}
use Rattle.export_answers.specs.ContractLaws.{accepted_places}
use Rattle.export_answers.specs.declared.EnvelopeAnswer.{EnvelopeAnswer}
use Rattle.export_ball.proofs.draw.Goals as goal

pub hand_out-requires : goal.hand_out-requires
hand_out-requires c = λ zero.
    let args = c.args in
    let places : length c.in-Ok.drawing.weights ≡ row_limit = search rules in
    (accepted_places args.rows.now args.m args.n places (ap (λ (d : DrawingOutcome). d.outcome) c.in-Ok.ensures.is)
    (drawing_zero total row_limit args.rows.now args.m args.n args.budget)
    (λ e. (drawing-accepted total row_limit args.rows.now args.m args.n args.budget e).0) refl).1

pub returns-in-Err-clause-centre_filled : goal.returns-in-Err-clause-centre_filled
returns-in-Err-clause-centre_filled c =
    let args = c.args in
    unwritten (ap (λ (a : EnvelopeAnswer). a.number) c.into.ensures) args.n
    (drawing total row_limit args.rows.now args.m args.n args.budget).ball.scaled_centre args.scaled_centre.now (kind_nonzero c.in-Err.refusal.kind)

pub returns-in-Err-clause-weights_filled : goal.returns-in-Err-clause-weights_filled
returns-in-Err-clause-weights_filled c =
    let args = c.args in
    unwritten (ap (λ (a : EnvelopeAnswer). a.number) c.into.ensures) args.m
    (drawing total row_limit args.rows.now args.m args.n args.budget).weights args.weights.now (kind_nonzero c.in-Err.refusal.kind)
