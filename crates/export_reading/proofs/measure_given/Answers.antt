-- The ending that is given is one of the two or refused by 8, as the definition chooses; what is measured is that against the figures
-- that are given, and what is left in the lent places is as the call on lent figures leaves it.
use Rattle.std.specs.Prelude.{ℕ, refl, Err, length}
use Rattle.std.proofs.Common.{sym, ap, ap₂, ◌∙◌, arith}
use Rattle.refusal.specs.Number.{outside_limits}
use Rattle.refusal.specs.declared.Refusal.{Refusal}
use Rattle.limits.specs.Limits.{total}
use Rattle.lent.specs.ContractLaws.{unwritten}
use Rattle.lent.specs.Filled.{filled}
use Rattle.channel.specs.Channel.{channel_types}
use Rattle.envelope.specs.declared.Figures.{Figures}
use Rattle.envelope.specs.declared.Scalars.{Scalars}
use Rattle.reading.specs.Verdict.{verdict_number}
use Rattle.measured_reading.specs.Measured.{MeasuredOutcome, MeasuredReading, not_measured, measured_outcome, measured, measure_answer}
use Rattle.measured_reading.specs.MeasuredLaws.{answer_none}
use Rattle.export_figures.specs.ContractLaws.{answer_taken, answer-refused}
use Rattle.export_reading.specs.Clauses.{measured_given}
use Rattle.export_reading.proofs.measure_given.Goals as goal

pub returns-then-ending_known : goal.returns-then-ending_known
unfolding measured_given
returns-then-ending_known c =
    let args = c.args in
    let lent = args.values.now in
    let given =
    answer_taken args.figures args.codes.now args.scaled_centre.now
    (λ (f : Figures). measured total channel_types f args.text.now) (not_measured outside_limits 0)
    (sym c.ending_known.ensures ∙ c.if-ending_known.true)
    c.scalars.ensures refl in
    let number = verdict_number (measured_outcome c.measure_lent.result).verdict in
    record {
      answer = c.measure_lent.ensures.answer ∙ ap (λ (m : MeasuredReading). measure_answer m (length lent)) given;
      values_filled = c.measure_lent.ensures.values_filled
          ∙ ap₂ (λ (n : ℕ) (m : MeasuredReading). filled number n m.values lent) (ap (λ (s : Scalars). s.n) c.scalars.ensures) given;
    }

pub returns-else-ending_known : goal.returns-else-ending_known
unfolding measured_given
returns-else-ending_known c =
    let args = c.args in
    let places = length args.values.now in
    let answer = ap (λ (r : Refusal). measured_outcome (Err r)) c.into.ensures in
    let given =
    answer-refused args.figures args.codes.now args.scaled_centre.now
    (λ (f : Figures). measured total channel_types f args.text.now) (not_measured outside_limits 0)
    (sym c.ending_known.ensures ∙ c.if-ending_known.false) refl in
    record {
      answer = answer ∙ sym (answer_none outside_limits 0 places) ∙ ap (λ (m : MeasuredReading). measure_answer m places) given;
      values_filled = unwritten (ap (λ (r : MeasuredOutcome). verdict_number r.verdict) answer) args.figures.n _ args.values.now (λ h. omega arith);
    }
