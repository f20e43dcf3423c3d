-- The ending that is given is one of the two or refused by 8, as the definition chooses; the trial is that against the figures that are given,
-- and what is left in the output is as the call on lent figures leaves it.
use Rattle.std.specs.Prelude.{ℕ, ◌≡◌, refl, Result, Ok, Err, length}
use Rattle.std.proofs.Common.{sym, ap, ap₂, ◌∙◌, arith}
use Rattle.refusal.specs.Number.{outside_limits}
use Rattle.refusal.specs.Outcome.{number_of, outcome_of}
use Rattle.refusal.specs.declared.Refusal.{Refusal}
use Rattle.limits.specs.Limits.{total}
use Rattle.lent.specs.Clauses.{text_outcome, TextWritten}
use Rattle.lent.specs.ContractLaws.{unwritten}
use Rattle.lent.specs.Filled.{filled}
use Rattle.channel.specs.Channel.{channel_types}
use Rattle.envelope.specs.declared.Figures.{Figures}
use Rattle.alert_trial.specs.Trial.{Trial, faulty, trial_of}
use Rattle.alert_trial.specs.Clauses.{trial_text, trial_written}
use Rattle.export_figures.specs.ContractLaws.{answer_taken, answer-refused}
use Rattle.export_alerts.specs.Clauses.{trial_given}
use Rattle.export_alerts.proofs.trial_given.Goals as goal

same_number : (r : Result ℕ Refusal) → number_of (outcome_of r) ≡ number_of (text_outcome r).outcome
same_number (Ok bytes) = refl
same_number (Err r) = refl

pub returns-then-not-ending_known : goal.returns-then-not-ending_known
unfolding trial_given
returns-then-not-ending_known c =
    let args = c.args in
    let given =
    answer-refused args.figures args.codes.now args.scaled_centre.now
    (λ (f : Figures). trial_of total channel_types f args.settings.now args.readings.now) (faulty outside_limits)
    (sym c.ending_known.ensures ∙ c.if-not-ending_known.true) refl in
    let answer = ap (λ (r : Refusal). text_outcome (Err r)) c.into.ensures in
    record {
      answer = answer ∙ ap (λ (t : Trial). trial_written t (length args.output.now)) given;
      output_filled = unwritten (ap (λ (w : TextWritten). number_of w.outcome) answer) _ _ args.output.now (λ h. omega arith);
    }

pub returns : goal.returns
unfolding trial_given
returns c =
    let args = c.args in
    let lent = args.output.now in
    let tried = c.try_settings_lent in
    let length-written = (text_outcome tried.result).length in
    let given =
    answer_taken args.figures args.codes.now args.scaled_centre.now
    (λ (f : Figures). trial_of total channel_types f args.settings.now args.readings.now) (faulty outside_limits)
    (sym c.ending_known.ensures ∙ c.if-not-ending_known.false) c.scalars.ensures refl in
    record {
      answer = tried.ensures.answer ∙ ap (λ (t : Trial). trial_written t (length lent)) given;
      output_filled = tried.ensures.output_filled
          ∙ ap₂ (λ (k : ℕ) (t : Trial). filled k length-written (trial_text t) lent) (same_number tried.result) given;
    }
