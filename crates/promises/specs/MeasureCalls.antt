-- Demand 1, what the code of each call that measures a reading is proved to answer, and to leave in the values that it is lent.
-- Before each field stands the signature by which its arguments are counted.
--     MeasureCalls, measure_calls     the calls, each by the definition that gives its answer
use Rattle.std.specs.Prelude.{◌≡◌, length}
use Rattle.limits.specs.Limits.{total}
use Rattle.lent.specs.Filled.{filled}
use Rattle.channel.specs.Channel.{channel_types}
use Rattle.envelope.specs.Clauses.{lent_figures}
use Rattle.reading.specs.Verdict.{verdict_number}
use Rattle.measured_reading.specs.Measured.{measure_answer, measured, measured_outcome}
use Rattle.export_reading.specs.Clauses.{measured_given, measured_in_numbers}
use Rattle.promises.specs.Answering.{Answers}
use seplogic.Ra.Ura.{Ura}
use contract.Notation
use types.Logic.{Logic}
use contract.Running.{Running}
use prog.Model.{Model}
use Rattle.measured_reading.specs.contracts.measure as measure
use Rattle.measured_reading.proofs.measure.Symbol as measure-code
use Rattle.measured_reading.proofs.measure.Met as measure-proof
use Rattle.measured_reading.specs.contracts.measure_lent as measure-lent
use Rattle.measured_reading.proofs.measure_lent.Symbol as measure-lent-code
use Rattle.measured_reading.proofs.measure_lent.Met as measure-lent-proof
use Rattle.cundarivo.specs.contracts.reading_text.cundarivo_measure as exported
use Rattle.cundarivo.proofs.reading_text.cundarivo_measure.Symbol as exported-code
use Rattle.cundarivo.proofs.reading_text.cundarivo_measure.Met as exported-proof

module _ {M : Type 1} {𝓤 : Ura M} (𝓛 : Logic 𝓤) (𝓜 : Model 𝓤 𝓛.H) (𝓡 : Running 𝓤 𝓛.H 𝓜) where
  open Notation.connectives 𝓤 use {⌜◌⌝, ◌∗◌}

  pub record MeasureCalls : Type 1 where
    -- reading measured: measure(figures, text, values)
    pub measures : Answers 𝓛 𝓜 𝓡 measure.ended measure-code.code measure-code.name
        (λ κs a r e.
        let figures = a.0 in let text = a.1.0.now in let values = a.1.1.0.now in let values-after = e.1.1.0.now in
        ⌜ measured_outcome r ≡ measure_answer (measured total channel_types figures text) (length values) ⌝
        ∗ ⌜ values-after ≡ filled (verdict_number (measured_outcome r).verdict) figures.n (measured total channel_types figures text).values values ⌝)
    -- by a second form that is lent codes and X: measure_lent(scalars, codes, scaled_centre, text, values)
    pub measures_lent : Answers 𝓛 𝓜 𝓡 measure-lent.ended measure-lent-code.code measure-lent-code.name
        (λ κs a r e.
        let figures = lent_figures a.0 a.1.0.now a.1.1.0.now in let text = a.1.1.1.0.now in
        let values = a.1.1.1.1.0.now in let values-after = e.1.1.1.1.0.now in
        ⌜ measured_outcome r ≡ measure_answer (measured total channel_types figures text) (length values) ⌝
        ∗ ⌜ values-after ≡ filled (verdict_number (measured_outcome r).verdict) a.0.n (measured total channel_types figures text).values values ⌝)
    -- for C and Rust: cundarivo_measure(figures, codes, scaled_centre, text, values)
    pub cundarivo_measure : Answers 𝓛 𝓜 𝓡 exported.ended exported-code.code exported-code.name
        (λ κs a r e.
        let figures = a.0 in let codes = a.1.0.now in let centre = a.1.1.0.now in let text = a.1.1.1.0.now in
        let values = a.1.1.1.1.0.now in let values-after = e.1.1.1.1.0.now in
        ⌜ r ≡ measured_in_numbers (measure_answer (measured_given total channel_types figures codes centre text) (length values)) ⌝
        ∗ ⌜ values-after ≡ filled r.number figures.n (measured_given total channel_types figures codes centre text).values values ⌝)

  pub measure_calls : MeasureCalls
  measure_calls =
      record {
        measures = measure-proof.met 𝓤 𝓛 𝓜 𝓡;
        measures_lent = measure-lent-proof.met 𝓤 𝓛 𝓜 𝓡;
        cundarivo_measure = exported-proof.met 𝓤 𝓛 𝓜 𝓡;
      }
