-- Demand 1, that each answer of a call is accepted or a listed refusal in which every other figure is 0, for the total, the row limit and
-- the types of the calls; part of promise 1.3 in Results. The label of a row has no refusal.
--     DrawingAnswered .. PanelAnswered     an answer of this kind is accepted, or the refusal that its number and line make
--     AnswersListed, answers_listed        each call
use Rattle.std.specs.Prelude.{◌*◌, ℕ, ◌≡◌, refl, ◌&&◌, true, List, eqb, leb, ℤ, length}
use Rattle.std.proofs.Common.{le-leb}
use Rattle.refusal.specs.Number.{budget_too_large, buffer_short, disagreement, outside_limits, record_form, table_short, text_length}
use Rattle.refusal.specs.OutcomeLaws.{each_answer}
use Rattle.limits.specs.Limits.{budget_limit, row_limit, total}
use Rattle.lent.specs.Clauses.{not_written, text_written, written, TextWritten}
use Rattle.geometry.specs.Move.{weight_of}
use Rattle.geometry.specs.Places.{weights_total}
use Rattle.geometry.specs.Table.{coordinate, rows_within}
use Rattle.ball.specs.Ball.{ball_of}
use Rattle.checking.specs.Check.{checking, not_checked, Checked}
use Rattle.drawing.specs.Draw.{drawing, drawn, not_drawn, run_from, start, DrawingOutcome}
use Rattle.channel.specs.Channel.{channel_types}
use Rattle.reference_rows.specs.Rows.{Content, faulty, sound}
use Rattle.reference.specs.Clauses.{answer_of, reference_read, refused_reference, with_table, ReferenceOutcome}
use Rattle.reference.specs.RefusalLaws.{each_refusal}
use Rattle.envelope.specs.Figures.{figures_known}
use Rattle.envelope.specs.declared.Envelope.{Envelope}
use Rattle.envelope.specs.declared.Figures.{Figures}
use Rattle.reading.specs.Verdict.{judged}
use Rattle.record_form.specs.RecordLaws.{form_faults}
use Rattle.record_print.specs.Printed.{record_text}
use Rattle.record_read.specs.Clauses.{not_read, record_read, EnvelopeRead}
use Rattle.record_read.specs.ReadLaws.{accepting, each_read}
use Rattle.record_write.specs.Clauses.{record_written}
use Rattle.record_write.specs.WriteLaws.{each_written}
use Rattle.chart.specs.Mark.{chart_mark}
use Rattle.panel_steps.specs.Panel.{panel_of, panel_shown, refused_panel, PanelShown}
use Rattle.promises.specs.House.{text_content}
use Rattle.promises.specs.Listed.{Answered, accepted-answer, is_refusal_at, refused-answer, row_listed}
use Rattle.promises.specs.ListedVerdicts.{MarkAnswered, VerdictAnswered, chart_answered, reading_answered}
use Rattle.refusal.specs.Outcome.{Accepted, Refused, RefusalNumbers}

-- an answer is accepted, or this refusal
abbrev pub DrawingAnswered : DrawingOutcome → Type 0
DrawingAnswered = Answered (λ d. d.outcome) (λ r. not_drawn row_limit (Refused r))

abbrev pub CheckAnswered : Checked → Type 0
CheckAnswered = Answered (λ c. c.outcome) (λ r. not_checked (Refused r))

abbrev pub ReferenceAnswered : ReferenceOutcome → Type 0
ReferenceAnswered = Answered (λ a. a.outcome) (λ r. refused_reference (Refused r))

abbrev pub RecordAnswered : EnvelopeRead → Type 0
RecordAnswered = Answered (λ e. e.outcome) (λ r. not_read row_limit (Refused r))

abbrev pub TextAnswered : TextWritten → Type 0
TextAnswered = Answered (λ w. w.outcome) (λ r. not_written (Refused r))

-- no line is at fault in a refused panel
abbrev pub PanelAnswered : PanelShown → Type 0
PanelAnswered = Answered (λ p. p.outcome) (λ r. refused_panel r.number)

pub record AnswersListed : Type 0 where
  pub of_drawing : (rows : List ℤ) (m n budget : ℕ) → DrawingAnswered (drawing total row_limit rows m n budget)
  pub of_check : (rows : List ℤ) (m n : ℕ) (ws : List ℕ) → CheckAnswered (checking total row_limit rows m n ws)
  pub of_reference : (text : List ℕ) (places : ℕ) → ReferenceAnswered (reference_read row_limit channel_types text places)
  pub of_reading : (f : Figures) (text : List ℕ) → VerdictAnswered (judged total channel_types f text)
  pub of_record : (rows : List ℤ) (m n : ℕ) (codes text : List ℕ) → RecordAnswered (record_read total row_limit channel_types rows m n codes text)
  pub of_writing : (rows : List ℤ) (m : ℕ) (e : Envelope) (places : ℕ) → TextAnswered (record_written total row_limit channel_types rows m e places)
  pub of_chart : (f : Figures) (h v : ℕ) → MarkAnswered (chart_mark total channel_types f h v)
  pub of_panel : (f : Figures) → PanelAnswered (panel_shown total channel_types f)
  -- what a program's call answers of its output
  pub of_output : (output : List ℕ) (places : ℕ) → TextAnswered (text_written output places)

abbrev at : ℕ → ℕ → RefusalNumbers
at number line = record { number = number; line = line }

drawing_answered : (rows : List ℤ) (m n budget : ℕ) → DrawingAnswered (drawing total row_limit rows m n budget)
unfolding drawing
drawing_answered rows m n budget =
    let turned = refused-answer (λ (d : DrawingOutcome). d.outcome) (λ r. not_drawn row_limit (Refused r)) in
    each_answer DrawingAnswered (rows_within row_limit rows m n) (λ _. turned (at outside_limits 0) refl refl) (λ _.
    each_answer DrawingAnswered (leb budget budget_limit) (λ _. turned (at budget_too_large 0) refl refl) (λ _.
    accepted-answer (λ (d : DrawingOutcome). d.outcome) (λ r. not_drawn row_limit (Refused r))
    (drawn total m n (coordinate rows n) (run_from total m n (coordinate rows n) budget 0 (start row_limit total))) refl))

check_answered : (rows : List ℤ) (m n : ℕ) (ws : List ℕ) → CheckAnswered (checking total row_limit rows m n ws)
unfolding checking
check_answered rows m n ws =
    let turned = refused-answer (λ (c : Checked). c.outcome) (λ r. not_checked (Refused r)) in
    each_answer CheckAnswered (rows_within row_limit rows m n && eqb (length ws) m) (λ _. turned (at outside_limits 0) refl refl) (λ _.
    each_answer CheckAnswered (eqb (weights_total m ws) total) (λ _. turned (at disagreement 0) refl refl) (λ _.
    accepted-answer (λ (c : Checked). c.outcome) (λ r. not_checked (Refused r))
    (record { outcome = Accepted; ball = ball_of total m n (coordinate rows n) (weight_of ws) }) refl))

reference_answered : (text : List ℕ) (places : ℕ) → ReferenceAnswered (reference_read row_limit channel_types text places)
unfolding reference_read
reference_answered text places = go (text_content text) refl
  where
    turned : (r : RefusalNumbers) → is_refusal_at r.number r.line ≡ true → ReferenceAnswered (refused_reference (Refused r))
    turned r = refused-answer (λ (a : ReferenceOutcome). a.outcome) (λ r. refused_reference (Refused r)) r refl

    tabled : (a : ReferenceOutcome) → ReferenceAnswered a → ReferenceAnswered (with_table places a)
    tabled a answered = each_answer ReferenceAnswered (leb (a.m * a.n) places) (λ _. turned (at table_short 0) refl) (λ _. answered)

    go : (c : Content) → text_content text ≡ c → ReferenceAnswered (with_table places (answer_of c))
    go (faulty number line) is =
        tabled (refused_reference (Refused (at number line))) (turned (at number line)
        (each_refusal row_limit channel_types (λ k l. is_refusal_at k l ≡ true) refl refl row_listed text number line is))
    go (sound found) is =
        tabled (answer_of (sound found)) (accepted-answer (λ (a : ReferenceOutcome). a.outcome) (λ r. refused_reference (Refused r)) (answer_of (sound found)) refl)

record_answered : (rows : List ℤ) (m n : ℕ) (codes text : List ℕ) → RecordAnswered (record_read total row_limit channel_types rows m n codes text)
record_answered rows m n codes text =
    let turned = refused-answer (λ (e : EnvelopeRead). e.outcome) (λ r. not_read row_limit (Refused r)) in
    each_read total row_limit channel_types rows m n codes text RecordAnswered
    (turned (at outside_limits 0) refl refl) (turned (at text_length 0) refl refl)
    (λ line is. turned (at record_form line) refl (le-leb 1 line (form_faults row_limit channel_types text line is)))
    (turned (at disagreement 0) refl refl)
    (λ e _. accepted-answer (λ (e : EnvelopeRead). e.outcome) (λ r. not_read row_limit (Refused r)) (accepting e) refl)

text_refused : (r : RefusalNumbers) → is_refusal_at r.number r.line ≡ true → TextAnswered (not_written (Refused r))
text_refused r = refused-answer (λ (w : TextWritten). w.outcome) (λ r. not_written (Refused r)) r refl

text-written : (bytes : ℕ) → TextAnswered (written bytes)
text-written bytes = accepted-answer (λ (w : TextWritten). w.outcome) (λ r. not_written (Refused r)) (written bytes) refl

writing_answered : (rows : List ℤ) (m : ℕ) (e : Envelope) (places : ℕ) → TextAnswered (record_written total row_limit channel_types rows m e places)
writing_answered rows m e places =
    each_written total row_limit channel_types rows m e places TextAnswered
    (text_refused (at outside_limits 0) refl) (λ _ _ _. text_refused (at disagreement 0) refl) (λ _ _. text_refused (at buffer_short 0) refl)
    (λ _ _. text-written (length (record_text channel_types e)))

panel_answered : (f : Figures) → PanelAnswered (panel_shown total channel_types f)
unfolding panel_shown
panel_answered f =
    each_answer PanelAnswered (figures_known total channel_types f)
    (λ _. refused-answer (λ (p : PanelShown). p.outcome) (λ r. refused_panel r.number) (at outside_limits 0) refl refl)
    (λ _. accepted-answer (λ (p : PanelShown). p.outcome) (λ r. refused_panel r.number) (panel_of total f) refl)

pub answers_listed : AnswersListed
answers_listed =
    record {
      of_drawing = drawing_answered;
      of_check = check_answered;
      of_reference = reference_answered;
      of_reading = reading_answered;
      of_record = record_answered;
      of_writing = writing_answered;
      of_chart = chart_answered;
      of_panel = panel_answered;
      of_output = λ output places.
          each_answer TextAnswered (leb (length output) places) (λ _. text_refused (at buffer_short 0) refl) (λ _. text-written (length output));
    }
