-- Where the answer is a refusal, or X or the weights do not fit, the number is not 0, so that both slices are as they were lent.
use Rattle.std.proofs.Common.{◌≡◌, ap, ◌∙◌, arith}
use Rattle.refusal.specs.Outcome.{kind_number}
use Rattle.refusal.specs.OutcomeLaws.{kind_nonzero}
use Rattle.refusal.specs.declared.Refusal.{Refusal}
use Rattle.lent.specs.ContractLaws.{unwritten}
use Rattle.export_answers.specs.declared.EnvelopeAnswer.{EnvelopeAnswer}
use Rattle.export_answers.proofs.hand_out.Goals as goal

pub returns-then-not-both_fit-clause-centre_filled : goal.returns-then-not-both_fit-clause-centre_filled
returns-then-not-both_fit-clause-centre_filled c =
    let short : c.from-then-not-both_fit.result.number ≡ 13 = ap (λ (a : EnvelopeAnswer). a.number) c.from-then-not-both_fit.ensures ∙ ap (λ (r : Refusal). kind_number r.kind) c.new.ensures in
    unwritten short c.args.n c.args.ball.scaled_centre c.args.scaled_centre.now (λ z. omega arith)

pub returns-then-not-both_fit-clause-weights_filled : goal.returns-then-not-both_fit-clause-weights_filled
returns-then-not-both_fit-clause-weights_filled c =
    let short : c.from-then-not-both_fit.result.number ≡ 13 = ap (λ (a : EnvelopeAnswer). a.number) c.from-then-not-both_fit.ensures ∙ ap (λ (r : Refusal). kind_number r.kind) c.new.ensures in
    unwritten short c.args.m c.args.drawn.now c.args.weights.now (λ z. omega arith)

pub returns-in-Err-clause-centre_filled : goal.returns-in-Err-clause-centre_filled
returns-in-Err-clause-centre_filled c =
    unwritten (ap (λ (a : EnvelopeAnswer). a.number) c.from.ensures) c.args.n c.args.ball.scaled_centre c.args.scaled_centre.now (kind_nonzero c.in-Err.refusal.kind)

pub returns-in-Err-clause-weights_filled : goal.returns-in-Err-clause-weights_filled
returns-in-Err-clause-weights_filled c =
    unwritten (ap (λ (a : EnvelopeAnswer). a.number) c.from.ensures) c.args.m c.args.drawn.now c.args.weights.now (kind_nonzero c.in-Err.refusal.kind)
