-- Demand 1, what the code of each public call is proved to answer, and to leave in what it is lent; the programs' calls are
-- in ProgramCalls, those for C and Rust in Exports. What stands for the words `judged`, `record_read` .. is a definition that follows document 01.
-- Before each field stands the signature by which its arguments are counted.
--     Calls, calls     the calls, each by the definition that gives its answer
use Rattle.std.specs.Prelude.{◌*◌, ◌+◌, ◌≡◌, drop, length, take}
use Rattle.refusal.specs.Outcome.{number_of, outcome_of}
use Rattle.limits.specs.Limits.{row_limit, total}
use Rattle.lent.specs.Filled.{filled}
use Rattle.ball.specs.Ball.{filled_ball}
use Rattle.checking.specs.Check.{checking, checked_outcome}
use Rattle.checking.specs.Clauses.{CheckPromise}
use Rattle.drawing.specs.Clauses.{DrawPromise}
use Rattle.drawing.specs.Draw.{drawing, drawing_outcome}
use Rattle.channel.specs.Channel.{channel_types}
use Rattle.reference.specs.Clauses.{reference_read, values_in, reference_outcome}
use Rattle.reference.specs.Reference.{content}
use Rattle.reference_label.specs.Clauses.{label_part, part_of, part_found}
use Rattle.envelope.specs.Clauses.{lent_figures}
use Rattle.envelope.specs.Figures.{figures_of}
use Rattle.reading.specs.Verdict.{judged, verdict_outcome}
use Rattle.record_print.specs.Printed.{record_text}
use Rattle.record_read.specs.Clauses.{record_read, envelope_outcome}
use Rattle.record_write.specs.Clauses.{record_written}
use Rattle.chart.specs.Mark.{chart_mark, mark_outcome}
use Rattle.panel_steps.specs.Panel.{panel_shown, panel_outcome}
use Rattle.promises.specs.Answering.{Answers, answers_so}
use seplogic.Ra.Ura.{Ura}
use contract.Notation
use types.Logic.{Logic}
use contract.Running.{Running}
use prog.Model.{Model}
use Rattle.drawing.specs.contracts.draw as draw
use Rattle.drawing.proofs.draw.Symbol as draw-code
use Rattle.drawing.proofs.draw.Met as draw-proof
use Rattle.checking.specs.contracts.check as check
use Rattle.checking.proofs.check.Symbol as check-code
use Rattle.checking.proofs.check.Met as check-proof
use Rattle.reference.specs.contracts.read.read as reference
use Rattle.reference.proofs.read.read.Symbol as reference-code
use Rattle.reference.proofs.read.read.Met as reference-proof
use Rattle.reference_label.specs.contracts.label_part as label-part
use Rattle.reference_label.proofs.label_part.Symbol as label-part-code
use Rattle.reference_label.proofs.label_part.Met as label-part-proof
use Rattle.reference_label.specs.contracts.label as label
use Rattle.reference_label.proofs.label.Symbol as label-code
use Rattle.reference_label.proofs.label.Met as label-proof
use Rattle.reading.specs.contracts.judge as judge
use Rattle.reading.proofs.judge.Symbol as judge-code
use Rattle.reading.proofs.judge.Met as judge-proof
use Rattle.reading.specs.contracts.judge_lent as judge-lent
use Rattle.reading.proofs.judge_lent.Symbol as judge-lent-code
use Rattle.reading.proofs.judge_lent.Met as judge-lent-proof
use Rattle.record_read.specs.contracts.read as record-read
use Rattle.record_read.proofs.read.Symbol as record-read-code
use Rattle.record_read.proofs.read.Met as record-read-proof
use Rattle.record_write.specs.contracts.write as writing
use Rattle.record_write.proofs.write.Symbol as writing-code
use Rattle.record_write.proofs.write.Met as writing-proof
use Rattle.chart.specs.contracts.chart as chart
use Rattle.chart.proofs.chart.Symbol as chart-code
use Rattle.chart.proofs.chart.Met as chart-proof
use Rattle.chart.specs.contracts.chart_lent as chart-lent
use Rattle.chart.proofs.chart_lent.Symbol as chart-lent-code
use Rattle.chart.proofs.chart_lent.Met as chart-lent-proof
use Rattle.panel_steps.specs.contracts.panel as panel
use Rattle.panel_steps.proofs.panel.Symbol as panel-code
use Rattle.panel_steps.proofs.panel.Met as panel-proof
use Rattle.panel_steps.specs.contracts.panel_lent as panel-lent
use Rattle.panel_steps.proofs.panel_lent.Symbol as panel-lent-code
use Rattle.panel_steps.proofs.panel_lent.Met as panel-lent-proof
use Rattle.lent.specs.Clauses.{text_outcome}

module _ {M : Type 1} {𝓤 : Ura M} (𝓛 : Logic 𝓤) (𝓜 : Model 𝓤 𝓛.H) (𝓡 : Running 𝓤 𝓛.H 𝓜) where
  open Notation.connectives 𝓤 use {⌜◌⌝, ◌∗◌}

  pub record Calls : Type 1 where
    -- drawing: draw(rows, m, n, budget); where accepted, demand 3 and the limits hold of it too
    pub draws : Answers 𝓛 𝓜 𝓡 draw.ended draw-code.code draw-code.name
        (λ κs a r e.
        let rows = a.0.now in let m = a.1.0 in let n = a.1.1.0 in let budget = a.1.1.1.0 in
        ⌜ (drawing_outcome row_limit r ≡ drawing total row_limit rows m n budget) × DrawPromise rows m n budget (drawing_outcome row_limit r) ⌝)
    -- check: check(rows, m, n, weights); where accepted, demand 3 holds of it too
    pub checks : Answers 𝓛 𝓜 𝓡 check.ended check-code.code check-code.name
        (λ κs a r e.
        let rows = a.0.now in let m = a.1.0 in let n = a.1.1.0 in let weights = a.1.1.1.0.now in
        ⌜ (checked_outcome r ≡ checking total row_limit rows m n weights) × CheckPromise rows m n weights (checked_outcome r) ⌝)
    -- reference text read: read(text, table)
    pub reads_reference : Answers 𝓛 𝓜 𝓡 reference.ended reference-code.code reference-code.name
        (λ κs a r e.
        let text = a.0.now in let table = a.1.0.now in let table-after = e.1.0.now in
        ⌜ reference_outcome r ≡ reference_read row_limit channel_types text (length table) ⌝
        ∗ ⌜ table-after ≡ filled (number_of (outcome_of r)) ((reference_outcome r).m * (reference_outcome r).n) (values_in (content row_limit channel_types text)) table ⌝)
    -- label of a row, as two numbers: label_part(text, row)
    pub finds_label : Answers 𝓛 𝓜 𝓡 label-part.ended label-part-code.code label-part-code.name
        (λ κs a r e.
        let text = a.0.now in let row = a.1.0 in
        ⌜ part_of r ≡ label_part row_limit channel_types text row ⌝
        ∗ ⌜ r ≡ part_found (label_part row_limit channel_types text row) ⌝)
    -- and as that part of the text: label(text, row)
    pub hands_back_label : Answers 𝓛 𝓜 𝓡 label.ended label-code.code label-code.name
        (λ κs a r e.
        let text = a.0.now in let row = a.1.0 in
        ⌜ (r.ref_ptr.0 ≡ a.0.ref_ptr.0) × (r.ref_ptr.1 ≡ a.0.ref_ptr.1 + (label_part row_limit channel_types text row).start) ⌝
        ∗ ⌜ r.now ≡ take (label_part row_limit channel_types text row).length (drop (label_part row_limit channel_types text row).start text) ⌝)
    -- reading judged: judge(figures, text)
    pub judges : Answers 𝓛 𝓜 𝓡 judge.ended judge-code.code judge-code.name
        (λ κs a r e.
        let figures = a.0 in let text = a.1.0.now in
        ⌜ verdict_outcome r ≡ judged total channel_types figures text ⌝)
    -- by a second form that is lent codes and X: judge_lent(n, scaled_squared_radius, scaled_lower_bound, settled, moves, codes, scaled_centre, text)
    pub judges_lent : Answers 𝓛 𝓜 𝓡 judge-lent.ended judge-lent-code.code judge-lent-code.name
        (λ κs a r e.
        let n = a.0 in let radius = a.1.0 in let floor = a.1.1.0 in let settled = a.1.1.1.0 in
        let moves = a.1.1.1.1.0 in let codes = a.1.1.1.1.1.0.now in let centre = a.1.1.1.1.1.1.0.now in
        let text = a.1.1.1.1.1.1.1.0.now in
        ⌜ verdict_outcome r ≡ judged total channel_types (figures_of n codes (filled_ball centre radius floor settled) moves) text ⌝)
    -- record read: read(rows, m, n, codes, text)
    pub reads_record : Answers 𝓛 𝓜 𝓡 record-read.ended record-read-code.code record-read-code.name
        (λ κs a r e.
        let rows = a.0.now in let m = a.1.0 in let n = a.1.1.0 in let codes = a.1.1.1.0.now in
        let text = a.1.1.1.1.0.now in
        ⌜ envelope_outcome row_limit r ≡ record_read total row_limit channel_types rows m n codes text ⌝)
    -- record written: write(envelope, rows, m, buffer)
    pub writes_record : Answers 𝓛 𝓜 𝓡 writing.ended writing-code.code writing-code.name
        (λ κs a r e.
        let envelope = a.0 in let rows = a.1.0.now in let m = a.1.1.0 in let buffer = a.1.1.1.0.now in
        let buffer-after = e.1.1.1.0.now in
        ⌜ text_outcome r ≡ record_written total row_limit channel_types rows m envelope (length buffer) ⌝
        ∗ ⌜ buffer-after ≡ filled (number_of (outcome_of r)) (text_outcome r).length (record_text channel_types envelope) buffer ⌝)
    -- chart: chart(figures, horizontal, vertical)
    pub charts : Answers 𝓛 𝓜 𝓡 chart.ended chart-code.code chart-code.name
        (λ κs a r e.
        let figures = a.0 in let horizontal = a.1.0 in let vertical = a.1.1.0 in
        ⌜ mark_outcome r ≡ chart_mark total channel_types figures horizontal vertical ⌝)
    -- by a second form that is lent codes and X: chart_lent(scalars, codes, scaled_centre, horizontal, vertical)
    pub charts_lent : Answers 𝓛 𝓜 𝓡 chart-lent.ended chart-lent-code.code chart-lent-code.name
        (λ κs a r e.
        let scalars = a.0 in let codes = a.1.0.now in let centre = a.1.1.0.now in let horizontal = a.1.1.1.0 in
        let vertical = a.1.1.1.1.0 in
        ⌜ mark_outcome r ≡ chart_mark total channel_types (lent_figures scalars codes centre) horizontal vertical ⌝)
    -- panel: panel(figures)
    pub shows_panel : Answers 𝓛 𝓜 𝓡 panel.ended panel-code.code panel-code.name
        (λ κs a r e.
        let figures = a.0 in
        ⌜ panel_outcome r ≡ panel_shown total channel_types figures ⌝)
    -- by a second form that is lent codes and X: panel_lent(scalars, codes, scaled_centre)
    pub shows_panel_lent : Answers 𝓛 𝓜 𝓡 panel-lent.ended panel-lent-code.code panel-lent-code.name
        (λ κs a r e.
        let scalars = a.0 in let codes = a.1.0.now in let centre = a.1.1.0.now in
        ⌜ panel_outcome r ≡ panel_shown total channel_types (lent_figures scalars codes centre) ⌝)

  pub calls : Calls
  calls =
      record {
        draws =
            answers_so 𝓛 𝓜 𝓡 draw.ended draw-code.code draw-code.name
            (λ κs a r e. DrawPromise a.0.now a.1.0 a.1.1.0 a.1.1.1.0 (drawing_outcome row_limit r))
            (λ κs a r e. (drawing_outcome row_limit r ≡ drawing total row_limit a.0.now a.1.0 a.1.1.0 a.1.1.1.0) × DrawPromise a.0.now a.1.0 a.1.1.0 a.1.1.1.0 (drawing_outcome row_limit r))
            (λ κs a r e promise. (promise.is, promise)) (draw-proof.met 𝓤 𝓛 𝓜 𝓡);
        checks =
            answers_so 𝓛 𝓜 𝓡 check.ended check-code.code check-code.name
            (λ κs a r e. CheckPromise a.0.now a.1.0 a.1.1.0 a.1.1.1.0.now (checked_outcome r))
            (λ κs a r e. (checked_outcome r ≡ checking total row_limit a.0.now a.1.0 a.1.1.0 a.1.1.1.0.now) × CheckPromise a.0.now a.1.0 a.1.1.0 a.1.1.1.0.now (checked_outcome r))
            (λ κs a r e promise. (promise.is, promise)) (check-proof.met 𝓤 𝓛 𝓜 𝓡);
        reads_reference = reference-proof.met 𝓤 𝓛 𝓜 𝓡;
        finds_label = label-part-proof.met 𝓤 𝓛 𝓜 𝓡;
        hands_back_label = label-proof.met 𝓤 𝓛 𝓜 𝓡;
        judges = judge-proof.met 𝓤 𝓛 𝓜 𝓡;
        judges_lent = judge-lent-proof.met 𝓤 𝓛 𝓜 𝓡;
        reads_record = record-read-proof.met 𝓤 𝓛 𝓜 𝓡;
        writes_record = writing-proof.met 𝓤 𝓛 𝓜 𝓡;
        charts = chart-proof.met 𝓤 𝓛 𝓜 𝓡;
        charts_lent = chart-lent-proof.met 𝓤 𝓛 𝓜 𝓡;
        shows_panel = panel-proof.met 𝓤 𝓛 𝓜 𝓡;
        shows_panel_lent = panel-lent-proof.met 𝓤 𝓛 𝓜 𝓡;
      }
