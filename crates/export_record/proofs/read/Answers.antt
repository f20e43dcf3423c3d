-- What is handed out is that of the record, which has the places asked of it; a refusal leaves both slices as they were lent.
use Rattle.std.proofs.Common.{◌≡◌, ◌∙◌, refl, ap, length, rules}
use Rattle.refusal.specs.OutcomeLaws.{kind_nonzero}
use Rattle.lent.specs.ContractLaws.{unwritten}
use Rattle.lent.specs.Filled.{filled}
use Rattle.limits.specs.Limits.{total, row_limit}
use Rattle.channel.specs.Channel.{channel_types}
use Rattle.record_read.specs.ReadLaws.{accepted-read, read_zero}
use Rattle.typed_rows.specs.GivenLaws.{given-within}
use Rattle.export_record.specs.Clauses.{read_answer}
use Rattle.export_answers.specs.ContractLaws.{accepted_places}
use Rattle.export_answers.specs.declared.EnvelopeAnswer.{EnvelopeAnswer}
use Rattle.export_record.proofs.read.Goals as goal
use Rattle.record_read.specs.Clauses.{EnvelopeRead, record_read}

pub hand_out-requires : goal.hand_out-requires
hand_out-requires c = λ zero.
    let args = c.args in
    let places : length c.in-Ok.envelope.weights ≡ row_limit = search rules in
    (accepted_places args.rows.now args.m args.n places (ap (λ (a : EnvelopeRead). a.outcome) c.in-Ok.ensures)
    (read_zero total row_limit channel_types args.rows.now args.m args.n args.codes.now args.text.now)
    (λ e. (given-within row_limit channel_types args.rows.now args.m args.n args.codes.now
    (accepted-read total row_limit channel_types args.rows.now args.m args.n args.codes.now args.text.now e).given).0)
    refl).1

pub returns-in-Ok : goal.returns-in-Ok
returns-in-Ok c =
    let args = c.args in
    let is = c.in-Ok.ensures in
    let number = c.hand_out.result.number in
    let handed = c.hand_out.ensures in
    record {
      answer = handed.answer ∙ ap (λ (a : EnvelopeRead). read_answer a args.m args.n (length args.scaled_centre.now) (length args.weights.now)) is;
      centre_filled = handed.centre_filled ∙ ap (λ (a : EnvelopeRead). filled number args.n a.envelope.figures.ball.scaled_centre args.scaled_centre.now) is;
      weights_filled = handed.weights_filled ∙ ap (λ (a : EnvelopeRead). filled number args.m a.envelope.weights args.weights.now) is;
    }

pub returns-in-Err : goal.returns-in-Err
returns-in-Err c =
    let args = c.args in
    let is = c.in-Err.ensures in
    let refused = c.into.ensures in
    let read = record_read total row_limit channel_types args.rows.now args.m args.n args.codes.now args.text.now in
    let number = ap (λ (a : EnvelopeAnswer). a.number) refused in
    record {
      answer = refused ∙ ap (λ (a : EnvelopeRead). read_answer a args.m args.n (length args.scaled_centre.now) (length args.weights.now)) is;
      centre_filled = unwritten number args.n read.envelope.figures.ball.scaled_centre args.scaled_centre.now (kind_nonzero c.in-Err.refusal.kind);
      weights_filled = unwritten number args.m read.envelope.weights args.weights.now (kind_nonzero c.in-Err.refusal.kind);
    }
