-- Demand 1, which refusal is returned where several apply, for the total, the row limit and the types of the calls. The laws of a call
-- stand in the order of its tests; each asks that the tests before it are passed.
--     DrawingRefused, CheckRefused, RecordRefused, WritingRefused, ChartRefused, PanelRefused     the order of one call
--     promise_1_4     the order of refusals, call by call (`RefusalOrder`)
use Rattle.std.specs.Prelude.{◌<◌, ◌≤◌, ℕ, ◌≡◌, ◌&&◌, false, true, List, ℤ, length, take}
use Rattle.std.proofs.Common.{◌∙◌}
use Rattle.std.proofs.Math.Option.{none, some}
use Rattle.refusal.specs.Number.{budget_too_large, buffer_short, disagreement, outside_limits, record_form, text_length}
use Rattle.refusal.specs.Outcome.{refused, refused_at, Accepted}
use Rattle.limits.specs.Limits.{budget_limit, row_limit, total}
use Rattle.lent.specs.Clauses.{not_written, written}
use Rattle.geometry.specs.Move.{weight_of}
use Rattle.geometry.specs.Places.{weights_total}
use Rattle.geometry.specs.Table.{coordinate, rows_within}
use Rattle.ball.specs.Ball.{ball_of}
use Rattle.ball.specs.declared.Ball.{Ball}
use Rattle.checking.specs.Check.{checking, not_checked}
use Rattle.checking.specs.CheckLaws.{checking-checked, checking_limits, checking_places, checking_sum}
use Rattle.drawing.specs.Draw.{drawing, drawn, not_drawn, run_from, start}
use Rattle.drawing.specs.DrawLaws.{drawing_budget, drawing-drawn, drawing_limits}
use Rattle.text.specs.Parts.{same, text_within}
use Rattle.channel.specs.Channel.{channel_types}
use Rattle.envelope.specs.Figures.{figures_known}
use Rattle.envelope.specs.declared.Envelope.{Envelope}
use Rattle.envelope.specs.declared.Figures.{Figures}
use Rattle.agreement.specs.Agreement.{agrees}
use Rattle.record_form.specs.Record.{Record, faulty, sound}
use Rattle.record_form.specs.Weights.{weights_of}
use Rattle.record_print.specs.Printed.{record_text}
use Rattle.record_read.specs.Clauses.{ball_of_record, not_read, record_read}
use Rattle.typed_rows.specs.Given.{given_within}
use Rattle.record_read.specs.ReadLaws.{read_faulty, read_length, read_limits, read_sound}
use Rattle.reference_write.specs.Writing.{Lent}
use Rattle.record_write.specs.Clauses.{record_written}
use Rattle.record_write.specs.WriteLaws.{Writing, outside_figures, outside_rows, refused-writing, short_writing, writing-written}
use Rattle.chart.specs.Mark.{channel_within, chart_mark, mark_number, refused_mark}
use Rattle.chart.specs.MarkLaws.{accepted, accepts, refuses_figures, refuses_horizontal, refuses_vertical}
use Rattle.panel_steps.specs.Panel.{panel_of, panel_shown, refused_panel}
use Rattle.panel_steps.specs.PanelLaws.{panel_refuses, panel_shows}
use Rattle.export_figures.specs.declared.FiguresGiven.{FiguresGiven}
use Rattle.promises.specs.AlertAnswers.{GivenTried, TrialRefused, given_tried, trials_refused}
use Rattle.promises.specs.AlertTexts.{AlertsPrinted, alerts_printed}
use Rattle.promises.specs.House.{text_form}
use Rattle.promises.specs.RefusedExports.{ExportsRefused, exports_refused}
use Rattle.promises.specs.MeasureAnswers.{GivenMeasured, MeasureRefused, given-measured, measures_refused}
use Rattle.promises.specs.RefusedPrograms.{ProgramsRefused, programs_refused}
use Rattle.promises.specs.WriterRefusals.{WriterRefused, writer_refused}
use Rattle.promises.specs.RefusedTexts.{ReadingRefused, ReferenceRefused, reading-refused, reference_refused}

-- drawing: 8, 9
pub record DrawingRefused (rows : List ℤ) (m n budget : ℕ) : Type 0 where
  pub limits_8 : rows_within row_limit rows m n ≡ false → drawing total row_limit rows m n budget ≡ not_drawn row_limit (refused outside_limits)
  pub budget_9 : rows_within row_limit rows m n ≡ true → budget_limit < budget
      → drawing total row_limit rows m n budget ≡ not_drawn row_limit (refused budget_too_large)
  pub else_drawn : rows_within row_limit rows m n ≡ true → budget ≤ budget_limit
      → drawing total row_limit rows m n budget
      ≡ drawn total m n (coordinate rows n) (run_from total m n (coordinate rows n) budget 0 (start row_limit total))

-- check: 8, 12
pub record CheckRefused (rows : List ℤ) (m n : ℕ) (ws : List ℕ) : Type 0 where
  pub limits_8 : rows_within row_limit rows m n ≡ false → checking total row_limit rows m n ws ≡ not_checked (refused outside_limits)
  pub places_8 : rows_within row_limit rows m n ≡ true → (length ws ≡ m → ⊥) → checking total row_limit rows m n ws ≡ not_checked (refused outside_limits)
  pub sum_12 : rows_within row_limit rows m n ≡ true → length ws ≡ m → (weights_total m ws ≡ total → ⊥)
      → checking total row_limit rows m n ws ≡ not_checked (refused disagreement)
  pub else_checked : rows_within row_limit rows m n ≡ true → length ws ≡ m → weights_total m ws ≡ total
      → checking total row_limit rows m n ws ≡ record { outcome = Accepted; ball = ball_of total m n (coordinate rows n) (weight_of ws) }

-- record: 8, 1, 11, 12
pub record RecordRefused (rows : List ℤ) (m n : ℕ) (codes text : List ℕ) : Type 0 where
  pub limits_8 : given_within row_limit channel_types rows m n codes ≡ false
      → record_read total row_limit channel_types rows m n codes text ≡ not_read row_limit (refused outside_limits)
  pub length_1 : given_within row_limit channel_types rows m n codes ≡ true → text_within text ≡ false
      → record_read total row_limit channel_types rows m n codes text ≡ not_read row_limit (refused text_length)
  pub form_11 : given_within row_limit channel_types rows m n codes ≡ true → text_within text ≡ true → (line : ℕ) → text_form text ≡ faulty line
      → record_read total row_limit channel_types rows m n codes text ≡ not_read row_limit (refused_at record_form line)
  pub negative_12 : given_within row_limit channel_types rows m n codes ≡ true → text_within text ≡ true → (r : Record) → text_form text ≡ sound r
      → ball_of_record r ≡ none → record_read total row_limit channel_types rows m n codes text ≡ not_read row_limit (refused disagreement)
  pub disagrees_12 : given_within row_limit channel_types rows m n codes ≡ true → text_within text ≡ true → (r : Record) → text_form text ≡ sound r
      → (ball : Ball) → ball_of_record r ≡ some ball
      → (same (take n codes) r.codes && agrees total row_limit rows m (length (take n codes)) ball (weights_of row_limit r.weights)) ≡ false
      → record_read total row_limit channel_types rows m n codes text ≡ not_read row_limit (refused disagreement)

-- writing: 8, 12, 13
pub record WritingRefused (rows : List ℤ) (m : ℕ) (e : Envelope) (places : ℕ) : Type 0 where
  pub figures_8 : figures_known total channel_types e.figures ≡ false
      → record_written total row_limit channel_types rows m e places ≡ not_written (refused outside_limits)
  pub rows_8 : figures_known total channel_types e.figures ≡ true → rows_within row_limit rows m e.figures.n ≡ false
      → record_written total row_limit channel_types rows m e places ≡ not_written (refused outside_limits)
  pub disagrees_12 : figures_known total channel_types e.figures ≡ true → rows_within row_limit rows m e.figures.n ≡ true
      → agrees total row_limit rows m e.figures.n e.figures.ball e.weights ≡ false
      → record_written total row_limit channel_types rows m e places ≡ not_written (refused disagreement)
  pub buffer_13 : Writing total row_limit channel_types rows m e → places < length (record_text channel_types e)
      → record_written total row_limit channel_types rows m e places ≡ not_written (refused buffer_short)
  pub else_written : Writing total row_limit channel_types rows m e → length (record_text channel_types e) ≤ places
      → record_written total row_limit channel_types rows m e places ≡ written (length (record_text channel_types e))

-- chart and panel: 8
pub record ChartRefused (f : Figures) (h v : ℕ) : Type 0 where
  pub figures_8 : figures_known total channel_types f ≡ false → chart_mark total channel_types f h v ≡ refused_mark outside_limits
  pub horizontal_8 : channel_within f.n h ≡ false → chart_mark total channel_types f h v ≡ refused_mark outside_limits
  pub vertical_8 : channel_within f.n v ≡ false → chart_mark total channel_types f h v ≡ refused_mark outside_limits
  pub else_accepted : figures_known total channel_types f ≡ true → channel_within f.n h ≡ true → channel_within f.n v ≡ true
      → mark_number (chart_mark total channel_types f h v) ≡ 0
  pub only_accepted : mark_number (chart_mark total channel_types f h v) ≡ 0
      → (figures_known total channel_types f ≡ true) × (channel_within f.n h ≡ true) × (channel_within f.n v ≡ true)

pub record PanelRefused (f : Figures) : Type 0 where
  pub figures_8 : figures_known total channel_types f ≡ false → panel_shown total channel_types f ≡ refused_panel outside_limits
  pub else_shown : figures_known total channel_types f ≡ true → panel_shown total channel_types f ≡ panel_of total f

pub record RefusalOrder : Type 0 where
  pub of_drawing : (rows : List ℤ) (m n budget : ℕ) → DrawingRefused rows m n budget
  pub of_check : (rows : List ℤ) (m n : ℕ) (ws : List ℕ) → CheckRefused rows m n ws
  pub of_reference : (text : List ℕ) → ReferenceRefused text
  pub of_reading : (f : Figures) (text : List ℕ) → ReadingRefused f text
  -- reading measured: 8, 1, 3, 10, 4, then 13; for C and Rust 8 for the ending before them
  pub of_measure : (f : Figures) (text : List ℕ) (places : ℕ) → MeasureRefused f text places
  pub of_given_measure : (given : FiguresGiven) (codes : List ℕ) (X : List ℤ) (text : List ℕ) (places : ℕ) → GivenMeasured given codes X text places
  pub of_record : (rows : List ℤ) (m n : ℕ) (codes text : List ℕ) → RecordRefused rows m n codes text
  pub of_writing : (rows : List ℤ) (m : ℕ) (e : Envelope) (places : ℕ) → WritingRefused rows m e places
  -- reference text written: 8, then row by row 3, 4, 5, then 13
  pub of_reference_writing : (lent : Lent) (places : ℕ) → WriterRefused lent places
  -- alert settings tried: 8, 14, 1, then 13; for C and Rust 8 for the ending before them
  pub of_trial : (f : Figures) (settings readings : List ℕ) (places : ℕ) → TrialRefused f settings readings places
  pub of_given_trial : (given : FiguresGiven) (codes : List ℕ) (X : List ℤ) (settings readings : List ℕ) (places : ℕ)
      → GivenTried given codes X settings readings places
  pub of_chart : (f : Figures) (h v : ℕ) → ChartRefused f h v
  pub of_panel : (f : Figures) → PanelRefused f
  pub of_programs : (reference : List ℕ) → ProgramsRefused reference
  -- alerts: the reference text, the record, then 14 for the settings text, then 1 for the readings
  pub of_alerts : (reference text settings readings : List ℕ) → AlertsPrinted reference text settings readings
  pub for_C_and_Rust : ExportsRefused

pub promise_1_4 : RefusalOrder
promise_1_4 =
    record {
      of_drawing = λ rows m n budget.
          record {
            limits_8 = drawing_limits total row_limit rows m n budget;
            budget_9 = drawing_budget total row_limit rows m n budget;
            else_drawn = drawing-drawn total row_limit rows m n budget;
          };
      of_check = λ rows m n ws.
          record {
            limits_8 = checking_limits total row_limit rows m n ws;
            places_8 = checking_places total row_limit rows m n ws;
            sum_12 = checking_sum total row_limit rows m n ws;
            else_checked = checking-checked total row_limit rows m n ws;
          };
      of_reference = reference_refused;
      of_reading = reading-refused;
      of_measure = measures_refused;
      of_given_measure = given-measured;
      of_record = λ rows m n codes text.
          let in_form = read_sound total row_limit channel_types rows m n codes text in
          record {
            limits_8 = read_limits total row_limit channel_types rows m n codes text;
            length_1 = read_length total row_limit channel_types rows m n codes text;
            form_11 = read_faulty total row_limit channel_types rows m n codes text;
            negative_12 = λ given bytes r is none-stated. in_form given bytes r is ∙ rw none-stated;
            disagrees_12 = λ given bytes r is ball states other. in_form given bytes r is ∙ rw (states, other);
          };
      of_writing = λ rows m e places.
          record {
            figures_8 = outside_figures total row_limit channel_types rows m e places;
            rows_8 = outside_rows total row_limit channel_types rows m e places;
            disagrees_12 = refused-writing total row_limit channel_types rows m e places;
            buffer_13 = short_writing total row_limit channel_types rows m e places;
            else_written = writing-written total row_limit channel_types rows m e places;
          };
      of_reference_writing = writer_refused;
      of_trial = trials_refused;
      of_given_trial = given_tried;
      of_chart = λ f h v.
          record {
            figures_8 = refuses_figures total channel_types f h v;
            horizontal_8 = refuses_horizontal total channel_types f h v;
            vertical_8 = refuses_vertical total channel_types f h v;
            else_accepted = accepts total channel_types f h v;
            only_accepted = accepted total channel_types f h v;
          };
      of_panel = λ f. record { figures_8 = panel_refuses total channel_types f; else_shown = panel_shows total channel_types f };
      of_programs = programs_refused;
      of_alerts = alerts_printed;
      for_C_and_Rust = exports_refused;
    }
