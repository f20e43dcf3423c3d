-- Demand 1, what the code of each call for C and Rust is proved to answer in numbers, and to leave in what it is lent.
-- `cundarivo_c` exports each by its name, with the same clauses.
--     Exports, exports     the calls but those of MeasureCalls, WriterCalls and AlertCalls, each by the definition that gives its answer
-- Before each field stands the signature by which its arguments are counted.
use Rattle.std.specs.Prelude.{◌*◌, ◌≡◌, length}
use Rattle.limits.specs.Limits.{row_limit, total}
use Rattle.lent.specs.Clauses.{text_written}
use Rattle.lent.specs.Filled.{filled}
use Rattle.checking.specs.Check.{checking}
use Rattle.drawing.specs.Draw.{drawing}
use Rattle.channel.specs.Channel.{channel_types}
use Rattle.reference.specs.Clauses.{reference_read, values_in}
use Rattle.reference.specs.Reference.{content}
use Rattle.reference_label.specs.Clauses.{label_part}
use Rattle.record_print.specs.Printed.{record_text}
use Rattle.record_read.specs.Clauses.{record_read}
use Rattle.program_draw.specs.Output.{draw_output}
use Rattle.program_verify.specs.Output.{verify_output}
use Rattle.program_panel.specs.Output.{panel_output}
use Rattle.program_judge.specs.Output.{judge_output}
use Rattle.export_answers.specs.Clauses.{written_in_numbers}
use Rattle.export_ball.specs.Clauses.{check_answer, draw_answer}
use Rattle.export_reference.specs.Clauses.{label_answer, reference_answer}
use Rattle.export_reading.specs.Clauses.{judge_answer}
use Rattle.export_record.specs.Clauses.{envelope_given, read_answer, write_answer}
use Rattle.export_chart.specs.Clauses.{chart_answer, panel_answer, panel_given}
use Rattle.promises.specs.Answering.{Answers}
use seplogic.Ra.Ura.{Ura}
use contract.Notation
use types.Logic.{Logic}
use contract.Running.{Running}
use prog.Model.{Model}
use Rattle.cundarivo.specs.contracts.cundarivo_draw as draw
use Rattle.cundarivo.proofs.cundarivo_draw.Symbol as draw-code
use Rattle.cundarivo.proofs.cundarivo_draw.Met as draw-proof
use Rattle.cundarivo.specs.contracts.cundarivo_check as check
use Rattle.cundarivo.proofs.cundarivo_check.Symbol as check-code
use Rattle.cundarivo.proofs.cundarivo_check.Met as check-proof
use Rattle.cundarivo.specs.contracts.reference_text.cundarivo_read_reference as reference
use Rattle.cundarivo.proofs.reference_text.cundarivo_read_reference.Symbol as reference-code
use Rattle.cundarivo.proofs.reference_text.cundarivo_read_reference.Met as reference-proof
use Rattle.cundarivo.specs.contracts.reference_text.cundarivo_label as label
use Rattle.cundarivo.proofs.reference_text.cundarivo_label.Symbol as label-code
use Rattle.cundarivo.proofs.reference_text.cundarivo_label.Met as label-proof
use Rattle.cundarivo.specs.contracts.reading_text.cundarivo_judge as judge
use Rattle.cundarivo.proofs.reading_text.cundarivo_judge.Symbol as judge-code
use Rattle.cundarivo.proofs.reading_text.cundarivo_judge.Met as judge-proof
use Rattle.cundarivo.specs.contracts.record_text.cundarivo_read_record as record-read
use Rattle.cundarivo.proofs.record_text.cundarivo_read_record.Symbol as record-read-code
use Rattle.cundarivo.proofs.record_text.cundarivo_read_record.Met as record-read-proof
use Rattle.cundarivo.specs.contracts.record_text.cundarivo_write_record as writing
use Rattle.cundarivo.proofs.record_text.cundarivo_write_record.Symbol as writing-code
use Rattle.cundarivo.proofs.record_text.cundarivo_write_record.Met as writing-proof
use Rattle.cundarivo.specs.contracts.chart_numbers.cundarivo_chart as chart
use Rattle.cundarivo.proofs.chart_numbers.cundarivo_chart.Symbol as chart-code
use Rattle.cundarivo.proofs.chart_numbers.cundarivo_chart.Met as chart-proof
use Rattle.cundarivo.specs.contracts.chart_numbers.cundarivo_panel as panel
use Rattle.cundarivo.proofs.chart_numbers.cundarivo_panel.Symbol as panel-code
use Rattle.cundarivo.proofs.chart_numbers.cundarivo_panel.Met as panel-proof
use Rattle.cundarivo.specs.contracts.programs.cundarivo_program_draw as program-draw
use Rattle.cundarivo.proofs.programs.cundarivo_program_draw.Symbol as program-draw-code
use Rattle.cundarivo.proofs.programs.cundarivo_program_draw.Met as program-draw-proof
use Rattle.cundarivo.specs.contracts.programs.cundarivo_program_verify as program-verify
use Rattle.cundarivo.proofs.programs.cundarivo_program_verify.Symbol as program-verify-code
use Rattle.cundarivo.proofs.programs.cundarivo_program_verify.Met as program-verify-proof
use Rattle.cundarivo.specs.contracts.programs.cundarivo_program_judge as program-judge
use Rattle.cundarivo.proofs.programs.cundarivo_program_judge.Symbol as program-judge-code
use Rattle.cundarivo.proofs.programs.cundarivo_program_judge.Met as program-judge-proof
use Rattle.cundarivo.specs.contracts.programs.cundarivo_program_panel as program-panel
use Rattle.cundarivo.proofs.programs.cundarivo_program_panel.Symbol as program-panel-code
use Rattle.cundarivo.proofs.programs.cundarivo_program_panel.Met as program-panel-proof

module _ {M : Type 1} {𝓤 : Ura M} (𝓛 : Logic 𝓤) (𝓜 : Model 𝓤 𝓛.H) (𝓡 : Running 𝓤 𝓛.H 𝓜) where
  open Notation.connectives 𝓤 use {⌜◌⌝, ◌∗◌}

  pub record Exports : Type 1 where
    -- cundarivo_draw(rows, m, n, budget, scaled_centre, weights)
    pub cundarivo_draw : Answers 𝓛 𝓜 𝓡 draw.ended draw-code.code draw-code.name
        (λ κs a r e.
        let rows = a.0.now in let m = a.1.0 in let n = a.1.1.0 in let budget = a.1.1.1.0 in
        let centre = a.1.1.1.1.0.now in let weights = a.1.1.1.1.1.0.now in
        let centre-after = e.1.1.1.1.0.now in let weights-after = e.1.1.1.1.1.0.now in
        ⌜ r ≡ draw_answer (drawing total row_limit rows m n budget) m n (length centre) (length weights) ⌝
        ∗ ⌜ centre-after ≡ filled r.number n (drawing total row_limit rows m n budget).ball.scaled_centre centre ⌝
        ∗ ⌜ weights-after ≡ filled r.number m (drawing total row_limit rows m n budget).weights weights ⌝)
    -- cundarivo_check(rows, m, n, weights, scaled_centre)
    pub cundarivo_check : Answers 𝓛 𝓜 𝓡 check.ended check-code.code check-code.name
        (λ κs a r e.
        let rows = a.0.now in let m = a.1.0 in let n = a.1.1.0 in let weights = a.1.1.1.0.now in
        let centre = a.1.1.1.1.0.now in let centre-after = e.1.1.1.1.0.now in
        ⌜ r ≡ check_answer (checking total row_limit rows m n weights) n (length centre) ⌝
        ∗ ⌜ centre-after ≡ filled r.number n (checking total row_limit rows m n weights).ball.scaled_centre centre ⌝)
    -- cundarivo_read_reference(text, table, codes)
    pub cundarivo_read_reference : Answers 𝓛 𝓜 𝓡 reference.ended reference-code.code reference-code.name
        (λ κs a r e.
        let text = a.0.now in let table = a.1.0.now in let codes = a.1.1.0.now in
        let table-after = e.1.0.now in let codes-after = e.1.1.0.now in
        ⌜ r ≡ reference_answer (reference_read row_limit channel_types text (length table)) (length codes) ⌝
        ∗ ⌜ table-after ≡ filled r.number (r.m * r.n) (values_in (content row_limit channel_types text)) table ⌝
        ∗ ⌜ codes-after ≡ filled r.number r.n (reference_read row_limit channel_types text (length table)).codes codes ⌝)
    -- cundarivo_label(text, row)
    pub cundarivo_label : Answers 𝓛 𝓜 𝓡 label.ended label-code.code label-code.name
        (λ κs a r e.
        let text = a.0.now in let row = a.1.0 in
        ⌜ r ≡ label_answer (label_part row_limit channel_types text row) ⌝)
    -- cundarivo_judge(figures, codes, scaled_centre, text)
    pub cundarivo_judge : Answers 𝓛 𝓜 𝓡 judge.ended judge-code.code judge-code.name
        (λ κs a r e.
        let figures = a.0 in let codes = a.1.0.now in let centre = a.1.1.0.now in let text = a.1.1.1.0.now in
        ⌜ r ≡ judge_answer total channel_types figures codes centre text ⌝)
    -- cundarivo_read_record(rows, m, n, codes, text, scaled_centre, weights)
    pub cundarivo_read_record : Answers 𝓛 𝓜 𝓡 record-read.ended record-read-code.code record-read-code.name
        (λ κs a r e.
        let rows = a.0.now in let m = a.1.0 in let n = a.1.1.0 in let codes = a.1.1.1.0.now in
        let text = a.1.1.1.1.0.now in let centre = a.1.1.1.1.1.0.now in
        let weights = a.1.1.1.1.1.1.0.now in let centre-after = e.1.1.1.1.1.0.now in
        let weights-after = e.1.1.1.1.1.1.0.now in
        ⌜ r ≡ read_answer (record_read total row_limit channel_types rows m n codes text) m n (length centre) (length weights) ⌝
        ∗ ⌜ centre-after ≡ filled r.number n (record_read total row_limit channel_types rows m n codes text).envelope.figures.ball.scaled_centre centre ⌝
        ∗ ⌜ weights-after ≡ filled r.number m (record_read total row_limit channel_types rows m n codes text).envelope.weights weights ⌝)
    -- cundarivo_write_record(figures, codes, scaled_centre, weights, rows, m, buffer)
    pub cundarivo_write_record : Answers 𝓛 𝓜 𝓡 writing.ended writing-code.code writing-code.name
        (λ κs a r e.
        let figures = a.0 in let codes = a.1.0.now in let centre = a.1.1.0.now in
        let weights = a.1.1.1.0.now in let rows = a.1.1.1.1.0.now in let m = a.1.1.1.1.1.0 in
        let buffer = a.1.1.1.1.1.1.0.now in let buffer-after = e.1.1.1.1.1.1.0.now in
        ⌜ r ≡ write_answer total row_limit channel_types figures codes centre weights rows m (length buffer) ⌝
        ∗ ⌜ buffer-after ≡ filled r.number r.length (record_text channel_types (envelope_given row_limit figures codes centre weights)) buffer ⌝)
    -- cundarivo_chart(figures, codes, scaled_centre, horizontal, vertical)
    pub cundarivo_chart : Answers 𝓛 𝓜 𝓡 chart.ended chart-code.code chart-code.name
        (λ κs a r e.
        let figures = a.0 in let codes = a.1.0.now in let centre = a.1.1.0.now in let horizontal = a.1.1.1.0 in
        let vertical = a.1.1.1.1.0 in
        ⌜ r ≡ chart_answer total channel_types figures codes centre horizontal vertical ⌝)
    -- cundarivo_panel(figures, codes, scaled_centre, steps)
    pub cundarivo_panel : Answers 𝓛 𝓜 𝓡 panel.ended panel-code.code panel-code.name
        (λ κs a r e.
        let figures = a.0 in let codes = a.1.0.now in let centre = a.1.1.0.now in let steps = a.1.1.1.0.now in
        let steps-after = e.1.1.1.0.now in
        ⌜ r ≡ panel_answer (panel_given total channel_types figures codes centre) figures.n (length steps) ⌝
        ∗ ⌜ steps-after ≡ filled r.number figures.n (panel_given total channel_types figures codes centre).steps steps ⌝)
    -- cundarivo_program_draw(reference, output)
    pub cundarivo_program_draw : Answers 𝓛 𝓜 𝓡 program-draw.ended program-draw-code.code program-draw-code.name
        (λ κs a r e.
        let reference = a.0.now in let output = a.1.0.now in let output-after = e.1.0.now in
        ⌜ r ≡ written_in_numbers (text_written (draw_output total row_limit channel_types reference) (length output)) ⌝
        ∗ ⌜ output-after ≡ filled r.number r.length (draw_output total row_limit channel_types reference) output ⌝)
    -- cundarivo_program_verify(reference, record_text, output)
    pub cundarivo_program_verify : Answers 𝓛 𝓜 𝓡 program-verify.ended program-verify-code.code program-verify-code.name
        (λ κs a r e.
        let reference = a.0.now in let text = a.1.0.now in let output = a.1.1.0.now in
        let output-after = e.1.1.0.now in
        ⌜ r ≡ written_in_numbers (text_written (verify_output total row_limit channel_types reference text) (length output)) ⌝
        ∗ ⌜ output-after ≡ filled r.number r.length (verify_output total row_limit channel_types reference text) output ⌝)
    -- cundarivo_program_judge(reference, record_text, readings, output)
    pub cundarivo_program_judge : Answers 𝓛 𝓜 𝓡 program-judge.ended program-judge-code.code program-judge-code.name
        (λ κs a r e.
        let reference = a.0.now in let text = a.1.0.now in let readings = a.1.1.0.now in
        let output = a.1.1.1.0.now in let output-after = e.1.1.1.0.now in
        ⌜ r ≡ written_in_numbers (text_written (judge_output total row_limit channel_types reference text readings) (length output)) ⌝
        ∗ ⌜ output-after ≡ filled r.number r.length (judge_output total row_limit channel_types reference text readings) output ⌝)
    -- cundarivo_program_panel(reference, record_text, output)
    pub cundarivo_program_panel : Answers 𝓛 𝓜 𝓡 program-panel.ended program-panel-code.code program-panel-code.name
        (λ κs a r e.
        let reference = a.0.now in let text = a.1.0.now in let output = a.1.1.0.now in
        let output-after = e.1.1.0.now in
        ⌜ r ≡ written_in_numbers (text_written (panel_output total row_limit channel_types reference text) (length output)) ⌝
        ∗ ⌜ output-after ≡ filled r.number r.length (panel_output total row_limit channel_types reference text) output ⌝)

  pub exports : Exports
  exports =
      record {
        cundarivo_draw = draw-proof.met 𝓤 𝓛 𝓜 𝓡;
        cundarivo_check = check-proof.met 𝓤 𝓛 𝓜 𝓡;
        cundarivo_read_reference = reference-proof.met 𝓤 𝓛 𝓜 𝓡;
        cundarivo_label = label-proof.met 𝓤 𝓛 𝓜 𝓡;
        cundarivo_judge = judge-proof.met 𝓤 𝓛 𝓜 𝓡;
        cundarivo_read_record = record-read-proof.met 𝓤 𝓛 𝓜 𝓡;
        cundarivo_write_record = writing-proof.met 𝓤 𝓛 𝓜 𝓡;
        cundarivo_chart = chart-proof.met 𝓤 𝓛 𝓜 𝓡;
        cundarivo_panel = panel-proof.met 𝓤 𝓛 𝓜 𝓡;
        cundarivo_program_draw = program-draw-proof.met 𝓤 𝓛 𝓜 𝓡;
        cundarivo_program_verify = program-verify-proof.met 𝓤 𝓛 𝓜 𝓡;
        cundarivo_program_judge = program-judge-proof.met 𝓤 𝓛 𝓜 𝓡;
        cundarivo_program_panel = program-panel-proof.met 𝓤 𝓛 𝓜 𝓡;
      }
