-- Demand 1 and request 2, what the code of each call that tries alert settings is proved to answer, and to leave in what it is lent: the
-- call, its second form, and the program that reads the settings from a text.
-- Before each field stands the signature by which its arguments are counted.
--     AlertCalls, alert_calls     the calls, each by the definition that gives its answer
--     AlertWalk, alert_walk       no public call: the walk over the readings, which counts each verdict for all settings at once
use Rattle.std.specs.Prelude.{◌≤◌, ◌≡◌, length}
use Rattle.refusal.specs.Outcome.{number_of, outcome_of}
use Rattle.limits.specs.Limits.{row_limit, total}
use Rattle.lent.specs.Clauses.{Part, text_written, text_outcome}
use Rattle.lent.specs.Filled.{filled}
use Rattle.channel.specs.Channel.{channel_types}
use Rattle.envelope.specs.Clauses.{lent_figures}
use Rattle.alert_trial.specs.Clauses.{WalkAsked, Walked, trial_most, trial_text, trial_written}
use Rattle.alert_trial.specs.Trial.{trial_of, verdicts_on}
use Rattle.program_alerts.specs.Output.{alerts_output}
use Rattle.export_answers.specs.Clauses.{written_in_numbers}
use Rattle.export_alerts.specs.Clauses.{trial_given}
use Rattle.promises.specs.Answering.{Answers, AnswersWhere}
use seplogic.Ra.Ura.{Ura}
use contract.Notation
use types.Logic.{Logic}
use contract.Running.{Running}
use prog.Model.{Model}
use Rattle.try_settings.specs.contracts.try_settings as trying
use Rattle.try_settings.proofs.try_settings.Symbol as trying-code
use Rattle.try_settings.proofs.try_settings.Met as trying-proof
use Rattle.try_settings.specs.contracts.try_settings_lent as trying-lent
use Rattle.try_settings.proofs.try_settings_lent.Symbol as trying-lent-code
use Rattle.try_settings.proofs.try_settings_lent.Met as trying-lent-proof
use Rattle.program_alerts.specs.contracts.alerts as program
use Rattle.program_alerts.proofs.alerts.Symbol as program-code
use Rattle.program_alerts.proofs.alerts.Met as program-proof
use Rattle.cundarivo.specs.contracts.alert_trial_text.cundarivo_try_settings as exported
use Rattle.cundarivo.proofs.alert_trial_text.cundarivo_try_settings.Symbol as exported-code
use Rattle.cundarivo.proofs.alert_trial_text.cundarivo_try_settings.Met as exported-proof
use Rattle.cundarivo.specs.contracts.programs.cundarivo_program_alerts as exported-program
use Rattle.cundarivo.proofs.programs.cundarivo_program_alerts.Symbol as exported-program-code
use Rattle.cundarivo.proofs.programs.cundarivo_program_alerts.Met as exported-program-proof
use Rattle.alert_trial.specs.contracts.walk as walk
use Rattle.alert_trial.proofs.walk.Symbol as walk-code
use Rattle.alert_trial.proofs.walk.Met as walk-proof

module _ {M : Type 1} {𝓤 : Ura M} (𝓛 : Logic 𝓤) (𝓜 : Model 𝓤 𝓛.H) (𝓡 : Running 𝓤 𝓛.H 𝓜) where
  open Notation.connectives 𝓤 use {⌜◌⌝, ◌∗◌}

  pub record AlertCalls : Type 1 where
    -- settings tried on readings, which 13 does not meet with room for 384 bytes: try_settings(figures, settings, readings, output)
    pub tries_settings : Answers 𝓛 𝓜 𝓡 trying.ended trying-code.code trying-code.name
        (λ κs a r e.
        let figures = a.0 in let settings = a.1.0.now in let readings = a.1.1.0.now in let output = a.1.1.1.0.now in
        let output-after = e.1.1.1.0.now in
        ⌜ text_outcome r ≡ trial_written (trial_of total channel_types figures settings readings) (length output) ⌝
        ∗ ⌜ output-after ≡ filled (number_of (outcome_of r)) (text_outcome r).length (trial_text (trial_of total channel_types figures settings readings)) output ⌝
        ∗ ⌜ Part output-after (text_outcome r).length ⌝
        ∗ ⌜ length (trial_text (trial_of total channel_types figures settings readings)) ≤ trial_most ⌝)
    -- by a second form that is lent codes and X: try_settings_lent(scalars, codes, scaled_centre, settings, readings, output)
    pub tries_settings_lent : Answers 𝓛 𝓜 𝓡 trying-lent.ended trying-lent-code.code trying-lent-code.name
        (λ κs a r e.
        let figures = lent_figures a.0 a.1.0.now a.1.1.0.now in let settings = a.1.1.1.0.now in
        let readings = a.1.1.1.1.0.now in let output = a.1.1.1.1.1.0.now in let output-after = e.1.1.1.1.1.0.now in
        ⌜ text_outcome r ≡ trial_written (trial_of total channel_types figures settings readings) (length output) ⌝
        ∗ ⌜ output-after ≡ filled (number_of (outcome_of r)) (text_outcome r).length (trial_text (trial_of total channel_types figures settings readings)) output ⌝
        ∗ ⌜ Part output-after (text_outcome r).length ⌝
        ∗ ⌜ length (trial_text (trial_of total channel_types figures settings readings)) ≤ trial_most ⌝)
    -- the program, from its texts to the whole output: alerts(reference, record_text, settings_text, readings, output)
    pub program_tries_settings : Answers 𝓛 𝓜 𝓡 program.ended program-code.code program-code.name
        (λ κs a r e.
        let reference = a.0.now in let text = a.1.0.now in let settings = a.1.1.0.now in let readings = a.1.1.1.0.now in
        let output = a.1.1.1.1.0.now in let output-after = e.1.1.1.1.0.now in
        ⌜ text_outcome r ≡ text_written (alerts_output total row_limit channel_types reference text settings readings) (length output) ⌝
        ∗ ⌜ output-after ≡ filled (number_of (outcome_of r)) (text_outcome r).length (alerts_output total row_limit channel_types reference text settings readings) output ⌝
        ∗ ⌜ Part output-after (text_outcome r).length ⌝
        ∗ ⌜ length (alerts_output total row_limit channel_types reference text settings readings) ≤ trial_most ⌝)
    -- for C and Rust: cundarivo_try_settings(figures, codes, scaled_centre, settings, readings, output)
    pub cundarivo_try_settings : Answers 𝓛 𝓜 𝓡 exported.ended exported-code.code exported-code.name
        (λ κs a r e.
        let figures = a.0 in let codes = a.1.0.now in let centre = a.1.1.0.now in let settings = a.1.1.1.0.now in
        let readings = a.1.1.1.1.0.now in let output = a.1.1.1.1.1.0.now in let output-after = e.1.1.1.1.1.0.now in
        ⌜ r ≡ written_in_numbers (trial_written (trial_given total channel_types figures codes centre settings readings) (length output)) ⌝
        ∗ ⌜ output-after ≡ filled r.number r.length (trial_text (trial_given total channel_types figures codes centre settings readings)) output ⌝)
    -- cundarivo_program_alerts(reference, record_text, settings_text, readings, output)
    pub cundarivo_program_alerts : Answers 𝓛 𝓜 𝓡 exported-program.ended exported-program-code.code exported-program-code.name
        (λ κs a r e.
        let reference = a.0.now in let text = a.1.0.now in let settings = a.1.1.0.now in let readings = a.1.1.1.0.now in
        let output = a.1.1.1.1.0.now in let output-after = e.1.1.1.1.0.now in
        ⌜ r ≡ written_in_numbers (text_written (alerts_output total row_limit channel_types reference text settings readings) (length output)) ⌝
        ∗ ⌜ output-after ≡ filled r.number r.length (alerts_output total row_limit channel_types reference text settings readings) output ⌝)

  pub alert_calls : AlertCalls
  alert_calls =
      record {
        tries_settings = trying-proof.met 𝓤 𝓛 𝓜 𝓡;
        tries_settings_lent = trying-lent-proof.met 𝓤 𝓛 𝓜 𝓡;
        program_tries_settings = program-proof.met 𝓤 𝓛 𝓜 𝓡;
        cundarivo_try_settings = exported-proof.met 𝓤 𝓛 𝓜 𝓡;
        cundarivo_program_alerts = exported-program-proof.met 𝓤 𝓛 𝓜 𝓡;
      }

  -- place j of ks and cs is setting j; at exit `tally` is what the definitions give of its k and c (`Tallied`),
  -- and the result counts the verdicts of each kind
  pub record AlertWalk : Type 1 where
    -- walk(scalars, codes, scaled_centre, readings, ks, cs, tally)
    pub walks : AnswersWhere 𝓛 𝓜 𝓡 walk.ended walk-code.code walk-code.name
        (λ κs a.
        let readings = a.1.1.1.0.now in let ks = a.1.1.1.1.0.now in let cs = a.1.1.1.1.1.0.now in
        let tally = a.1.1.1.1.1.1.0.now in
        ⌜ WalkAsked readings ks cs tally.standing tally.raised tally.passed ⌝)
        (λ κs a r e.
        let figures = lent_figures a.0 a.1.0.now a.1.1.0.now in let readings = a.1.1.1.0.now in
        let ks = a.1.1.1.1.0.now in let cs = a.1.1.1.1.1.0.now in
        let after = e.1.1.1.1.1.1.0.now in
        ⌜ Walked (verdicts_on total channel_types figures readings) ks cs after.standing after.raised after.passed r ⌝)

  pub alert_walk : AlertWalk
  alert_walk = record { walks = walk-proof.met 𝓤 𝓛 𝓜 𝓡 }
