-- The ending that is given is one of the two or refused by 8, as the definition chooses; the verdict is that against the figures that are given.
use Rattle.std.specs.Prelude.{Err}
use Rattle.std.proofs.Common.{sym, ap, ◌∙◌}
use Rattle.refusal.specs.Number.{outside_limits}
use Rattle.refusal.specs.declared.Refusal.{Refusal}
use Rattle.limits.specs.Limits.{total}
use Rattle.channel.specs.Channel.{channel_types}
use Rattle.envelope.specs.declared.Figures.{Figures}
use Rattle.reading.specs.Verdict.{verdict_outcome, refused_verdict, judged}
use Rattle.export_figures.specs.ContractLaws.{answer_taken, answer-refused}
use Rattle.export_reading.proofs.judge_given.Goals as goal

pub returns-then-not-ending_known : goal.returns-then-not-ending_known
returns-then-not-ending_known c =
    let args = c.args in
    answer-refused args.figures args.codes.now args.scaled_centre.now
    (λ (f : Figures). judged total channel_types f args.text.now) (refused_verdict outside_limits 0)
    (sym c.ending_known.ensures ∙ c.if-not-ending_known.true) (ap (λ (r : Refusal). verdict_outcome (Err r)) c.into.ensures)

pub returns : goal.returns
returns c =
    let args = c.args in
    answer_taken args.figures args.codes.now args.scaled_centre.now
    (λ (f : Figures). judged total channel_types f args.text.now) (refused_verdict outside_limits 0)
    (sym c.ending_known.ensures ∙ c.if-not-ending_known.false)
    c.scalars-scalars.ensures c.judge_lent.ensures
