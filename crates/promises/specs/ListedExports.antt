-- Demand 1, that each answer of a call for C and Rust has the number 0 and the line 0, or a listed number with its line and every other
-- figure 0, for the total, the row limit and the types of the calls; part of promise 1.3 in Results.
--     ExportsListed, exports_listed     each call; the label of a row has no refusal
use Rattle.std.specs.Prelude.{ℕ, refl, ◌&&◌, List, leb, ℤ}
use Rattle.std.proofs.Common.{inr}
use Rattle.integers.specs.Tests.{clash}
use Rattle.refusal.specs.Number.{outside_limits}
use Rattle.refusal.specs.OutcomeLaws.{each_answer}
use Rattle.limits.specs.Limits.{row_limit, total}
use Rattle.lent.specs.Clauses.{text_written, with_room, TextWritten}
use Rattle.checking.specs.Check.{checking}
use Rattle.drawing.specs.Draw.{drawing}
use Rattle.channel.specs.Channel.{channel_types}
use Rattle.reference.specs.Clauses.{reference_read, ReferenceOutcome}
use Rattle.reading.specs.Verdict.{judged, refused_verdict, VerdictOutcome}
use Rattle.record_read.specs.Clauses.{record_read}
use Rattle.record_write.specs.Clauses.{record_written}
use Rattle.chart.specs.Mark.{chart_mark, refused_mark, MarkOutcome}
use Rattle.export_answers.specs.Clauses.{written_in_numbers}
use Rattle.export_figures.specs.Clauses.{ending_known, figures_given}
use Rattle.export_figures.specs.declared.FiguresGiven.{FiguresGiven}
use Rattle.export_ball.specs.Clauses.{check_answer, draw_answer}
use Rattle.export_reference.specs.Clauses.{reference_answer, reference_in_numbers}
use Rattle.export_reading.specs.Clauses.{judge_answer, verdict_in_numbers}
use Rattle.export_record.specs.Clauses.{envelope_given, envelope_whole, read_answer, write_answer}
use Rattle.export_chart.specs.Clauses.{chart_answer, mark_in_numbers, panel_answer, panel_given}
use Rattle.promises.specs.Listed.{Listed, room_listed}
use Rattle.promises.specs.ListedAnswers.{ReferenceAnswered, answers_listed}
use Rattle.promises.specs.ListedNumbers.{CheckNumbers, EnvelopeNumbers, ListedNumber, MarkNumbers, ReferenceNumbers, VerdictNumbers, WrittenNumbers, check_numbers, envelope_numbers, listed_number, mark_numbers, reference_numbers, verdict_numbers, written-numbers}
use Rattle.promises.specs.ListedVerdicts.{mark_answered, verdict_answered}
use Rattle.panel_steps.specs.Panel.{PanelShown}

pub record ExportsListed : Type 0 where
  pub of_drawing : (rows : List ℤ) (m n budget centre-places weight-places : ℕ)
      → EnvelopeNumbers (draw_answer (drawing total row_limit rows m n budget) m n centre-places weight-places)
  pub of_check : (rows : List ℤ) (m n : ℕ) (ws : List ℕ) (centre-places : ℕ) → CheckNumbers (check_answer (checking total row_limit rows m n ws) n centre-places)
  pub of_reference : (text : List ℕ) (table_places code-places : ℕ)
      → ReferenceNumbers (reference_answer (reference_read row_limit channel_types text table_places) code-places)
  pub of_reading : (given : FiguresGiven) (codes : List ℕ) (X : List ℤ) (text : List ℕ) → VerdictNumbers (judge_answer total channel_types given codes X text)
  pub of_record : (rows : List ℤ) (m n : ℕ) (codes text : List ℕ) (centre-places weight-places : ℕ)
      → EnvelopeNumbers (read_answer (record_read total row_limit channel_types rows m n codes text) m n centre-places weight-places)
  pub of_writing : (given : FiguresGiven) (codes : List ℕ) (X : List ℤ) (ws : List ℕ) (rows : List ℤ) (m places : ℕ)
      → WrittenNumbers (write_answer total row_limit channel_types given codes X ws rows m places)
  pub of_chart : (given : FiguresGiven) (codes : List ℕ) (X : List ℤ) (h v : ℕ) → MarkNumbers (chart_answer total channel_types given codes X h v)
  -- a panel's answer has no figure but number and line
  pub of_panel : (given : FiguresGiven) (codes : List ℕ) (X : List ℤ) (n places : ℕ)
      → let a = panel_answer (panel_given total channel_types given codes X) n places in ListedNumber a.number a.line
  -- the programs
  pub of_output : (output : List ℕ) (places : ℕ) → WrittenNumbers (written_in_numbers (text_written output places))

-- an answer that 8 for the ending, or for an envelope that is not whole, comes before
reading-given : (given : FiguresGiven) (codes : List ℕ) (X : List ℤ) (text : List ℕ) → VerdictNumbers (judge_answer total channel_types given codes X text)
unfolding judge_answer
reading-given given codes X text =
    each_answer (λ (v : VerdictOutcome). VerdictNumbers (verdict_in_numbers v)) (ending_known given)
    (λ _. verdict_numbers (refused_verdict outside_limits 0) (verdict_answered (refused_verdict outside_limits 0) (refl, λ h. clash h refl)))
    (λ _. verdict_numbers (judged total channel_types (figures_given given codes X) text) (answers_listed.of_reading (figures_given given codes X) text))

chart_given : (given : FiguresGiven) (codes : List ℕ) (X : List ℤ) (h v : ℕ) → MarkNumbers (chart_answer total channel_types given codes X h v)
unfolding chart_answer
chart_given given codes X h v =
    each_answer (λ (mark : MarkOutcome). MarkNumbers (mark_in_numbers mark)) (ending_known given)
    (λ _. mark_numbers (refused_mark outside_limits) (mark_answered (refused_mark outside_limits) refl))
    (λ _. mark_numbers (chart_mark total channel_types (figures_given given codes X) h v) (answers_listed.of_chart (figures_given given codes X) h v))

panel-given : (given : FiguresGiven) (codes : List ℕ) (X : List ℤ) → Listed (panel_given total channel_types given codes X).outcome
unfolding panel_given
panel-given given codes X =
    each_answer (λ (p : PanelShown). Listed p.outcome) (ending_known given) (λ _. refl) (λ _. (answers_listed.of_panel (figures_given given codes X)).listed)

writing-given : (given : FiguresGiven) (codes : List ℕ) (X : List ℤ) (ws : List ℕ) (rows : List ℤ) (m places : ℕ)
    → WrittenNumbers (write_answer total row_limit channel_types given codes X ws rows m places)
unfolding write_answer
writing-given given codes X ws rows m places =
    let e = envelope_given row_limit given codes X ws in
    each_answer (λ (w : TextWritten). WrittenNumbers (written_in_numbers w)) (envelope_whole row_limit given codes X ws m)
    (λ _. (inr refl, λ _. refl))
    (λ _. written-numbers (record_written total row_limit channel_types rows m e places) (answers_listed.of_writing rows m e places))

-- 13 for the codes comes after
reference_given : (a : ReferenceOutcome) (code-places : ℕ) → ReferenceAnswered a → ReferenceNumbers (reference_answer a code-places)
reference_given a code-places answered =
    each_answer (λ (r : ReferenceOutcome). ReferenceNumbers (reference_in_numbers r)) (leb a.n code-places) (λ _. (inr refl, λ _. (refl, refl)))
    (λ _. reference_numbers a answered)

pub exports_listed : ExportsListed
exports_listed =
    record {
      of_drawing = λ rows m n budget centre-places weight-places.
          let d = drawing total row_limit rows m n budget in
          let room = leb n centre-places && leb m weight-places in
          envelope_numbers (with_room room d.outcome) d.ball d.moves
          (room_listed room d.outcome (answers_listed.of_drawing rows m n budget).listed);
      of_check = λ rows m n ws centre-places.
          let c = checking total row_limit rows m n ws in
          let room = leb n centre-places in
          check_numbers (with_room room c.outcome) c (room_listed room c.outcome (answers_listed.of_check rows m n ws).listed);
      of_reference = λ text table_places code-places.
          reference_given (reference_read row_limit channel_types text table_places) code-places (answers_listed.of_reference text table_places);
      of_reading = reading-given;
      of_record = λ rows m n codes text centre-places weight-places.
          let r = record_read total row_limit channel_types rows m n codes text in
          let room = leb n centre-places && leb m weight-places in
          envelope_numbers (with_room room r.outcome) r.envelope.figures.ball r.envelope.figures.moves
          (room_listed room r.outcome (answers_listed.of_record rows m n codes text).listed);
      of_writing = writing-given;
      of_chart = chart_given;
      of_panel = λ given codes X n places.
          let o = (panel_given total channel_types given codes X).outcome in
          listed_number (with_room (leb n places) o) (room_listed (leb n places) o (panel-given given codes X));
      of_output = λ output places. written-numbers (text_written output places) (answers_listed.of_output output places);
    }
