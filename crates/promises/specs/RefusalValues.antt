-- Demand 1, what a refusal is.
--     promise_1_3     the numbers, and what stands beside them in a refusal (`RefusalValues`)
use Rattle.std.specs.Prelude.{ℕ, ◌≡◌, refl, false, [], ◌∷◌, Float, pos, replicate}
use Rattle.lists.specs.Padded.{padded}
use Rattle.refusal.specs.Number.{alert_settings, budget_too_large, buffer_short, disagreement, heading, label_repeated, line_form, outside_limits, record_form, row_count_number, table_short, tag_differs, text_length, value_range}
use Rattle.refusal.specs.Outcome.{line_of, number_of, refused, refused_at, Outcome, Accepted}
use Rattle.limits.specs.Limits.{channel_limit, row_limit}
use Rattle.lent.specs.Clauses.{not_written, written}
use Rattle.ball.specs.Ball.{empty_ball, filled_ball}
use Rattle.checking.specs.Check.{not_checked}
use Rattle.drawing.specs.Draw.{not_drawn}
use Rattle.printing.specs.Clauses.{print_numbers}
use Rattle.reference.specs.Clauses.{refused_reference}
use Rattle.reference_label.specs.Clauses.{no_part}
use Rattle.reference_write.specs.Writing.{Lent}
use Rattle.envelope.specs.Figures.{empty_envelope, empty_figures, envelope_of, figures_of}
use Rattle.reading.specs.Verdict.{refused_verdict, verdict_excess, verdict_line, verdict_number, VerdictOutcome, Alarm, Quiet}
use Rattle.record_read.specs.Clauses.{not_read}
use Rattle.chart.specs.Fraction.{positive_zero}
use Rattle.chart.specs.Mark.{mark_line, mark_number, mark_point, mark_radius, refused_mark, MarkOutcome, Disc, Dot}
use Rattle.chart.specs.declared.Point.{Point}
use Rattle.panel_steps.specs.Panel.{refused_panel}
use Rattle.program_lines.specs.Lines.{print_refusal, refusal_word}
use Rattle.measured_reading.specs.Measured.{not_measured, MeasuredOutcome}
use Rattle.export_reading.specs.Clauses.{measured_in_numbers, verdict_code, verdict_in_numbers}
use Rattle.export_chart.specs.Clauses.{mark_code, mark_in_numbers}
use Rattle.promises.specs.AlertAnswers.{TrialsListed, trials_listed}
use Rattle.promises.specs.ListedAnswers.{AnswersListed, answers_listed}
use Rattle.promises.specs.ListedExports.{ExportsListed, exports_listed}
use Rattle.promises.specs.MeasureAnswers.{MeasuresListed, measures_listed}
use Rattle.promises.specs.ToldRefusals.{RefusalsTold, refusals_told}
use Rattle.promises.specs.WriterAnswers.{WriterListed, writer_listed}

-- ---- 1.3

pub record RefusalValues : Type 0 where
  -- the thirteen numbers of document 01's table, and that of alert settings
  pub numbers : text_length ∷ heading ∷ line_form ∷ value_range ∷ label_repeated ∷ row_count_number ∷ table_short ∷ outside_limits ∷ budget_too_large
      ∷ tag_differs ∷ record_form ∷ disagreement ∷ buffer_short ∷ alert_settings ∷ []
      ≡ 1 ∷ 2 ∷ 3 ∷ 4 ∷ 5 ∷ 6 ∷ 7 ∷ 8 ∷ 9 ∷ 10 ∷ 11 ∷ 12 ∷ 13 ∷ 14 ∷ []
  -- number and line of an outcome; line 0 where no line is at fault
  pub of_accepted : (number_of Accepted ≡ 0) × (line_of Accepted ≡ 0)
  pub of_refused : (number line : ℕ) → (number_of (refused_at number line) ≡ number) × (line_of (refused_at number line) ≡ line)
  pub no_line : (number : ℕ) → line_of (refused number) ≡ 0
  -- each answer of a call is accepted, with the number 0, or refused with one of the fourteen and its line (0 for 1, 7, 8, 9, 12, 13, 14, else
  -- from 1, and 1 in a reading), and then it is the refusal below
  pub listed : AnswersListed
  pub listed_in_numbers : ExportsListed
  pub measures_listed : MeasuresListed
  -- of a reference text that is written: 8 and 13, and 3, 4 and 5 at a line from 2
  pub writer_listed : (lent : Lent) (places : ℕ) → WriterListed lent places
  -- of alert settings that are tried: 8, 14, 1 and 13
  pub trials_listed : TrialsListed
  -- in a refusal every other figure and array is 0
  pub ball : empty_ball ≡ filled_ball (replicate channel_limit (pos 0)) 0 0 false
  pub drawing : (o : Outcome) → not_drawn row_limit o ≡ record { outcome = o; ball = empty_ball; weights = replicate row_limit 0; moves = 0 }
  pub check : (o : Outcome) → not_checked o ≡ record { outcome = o; ball = empty_ball }
  pub reference : (o : Outcome) → refused_reference o ≡ record { outcome = o; m = 0; n = 0; codes = padded channel_limit [] }
  pub label : no_part ≡ record { start = 0; length = 0 }
  pub figures : empty_figures ≡ figures_of 0 (replicate channel_limit 0) empty_ball 0
  pub envelope : empty_envelope row_limit ≡ envelope_of empty_figures (replicate row_limit 0)
  pub envelope_read : (o : Outcome) → not_read row_limit o ≡ record { outcome = o; envelope = empty_envelope row_limit }
  pub text_refused : (o : Outcome) → not_written o ≡ record { outcome = o; length = 0 }
  pub text_accepted : (bytes : ℕ) → written bytes ≡ record { outcome = Accepted; length = bytes }
  pub panel : (number : ℕ) → refused_panel number ≡ record { outcome = refused number; steps = replicate channel_limit (pos 0) }
  -- number, line and values of each verdict, and of each mark
  pub quiet : (verdict_number Quiet ≡ 0) × (verdict_line Quiet ≡ 0) × (verdict_excess Quiet ≡ 0)
  pub alarm : (e : ℕ) → (verdict_number (Alarm e) ≡ 0) × (verdict_line (Alarm e) ≡ 0) × (verdict_excess (Alarm e) ≡ e)
  pub refused_reading : (number line : ℕ) → let v = refused_verdict number line in
      (verdict_number v ≡ number) × (verdict_line v ≡ line) × (verdict_excess v ≡ 0)
  -- a refused reading, measured: s is 0 and there are no values
  pub not_measured : (number line : ℕ)
      → not_measured number line ≡ record { answer = record { verdict = refused_verdict number line; scaled_squared_distance = 0 }; values = [] }
  pub dot : (p : Point) → (mark_number (Dot p) ≡ 0) × (mark_line (Dot p) ≡ 0) × (mark_point (Dot p) ≡ p) × (mark_radius (Dot p) ≡ positive_zero)
  pub disc : (p : Point) (x : Float) → (mark_number (Disc p x) ≡ 0) × (mark_line (Disc p x) ≡ 0) × (mark_point (Disc p x) ≡ p) × (mark_radius (Disc p x) ≡ x)
  pub refused_mark : (number : ℕ) → let mark = refused_mark number in
      (mark_number mark ≡ number) × (mark_line mark ≡ 0) × (mark_point mark ≡ record { horizontal = positive_zero; vertical = positive_zero })
      × (mark_radius mark ≡ positive_zero)
  -- by which the calls for C and Rust answer
  pub verdict_in_numbers : (v : VerdictOutcome)
      → verdict_in_numbers v ≡ record { number = verdict_number v; line = verdict_line v; verdict = verdict_code v; excess = verdict_excess v }
  pub measured_in_numbers : (m : MeasuredOutcome)
      → measured_in_numbers m
      ≡ record {
        number = verdict_number m.verdict;
        line = verdict_line m.verdict;
        verdict = verdict_code m.verdict;
        excess = verdict_excess m.verdict;
        scaled_squared_distance = m.scaled_squared_distance;
      }
  pub mark_in_numbers : (mark : MarkOutcome)
      → mark_in_numbers mark
      ≡ record {
        number = mark_number mark;
        line = mark_line mark;
        mark = mark_code mark;
        horizontal = (mark_point mark).horizontal;
        vertical = (mark_point mark).vertical;
        radius = mark_radius mark;
      }
  -- what the programs print of a refusal: `NO`, number, line
  pub printed : (number line : ℕ) → print_refusal number line ≡ print_numbers refusal_word (pos number ∷ pos line ∷ [])
  -- a refusal of the texts is told from a refused reading by the first line of the output
  pub told : RefusalsTold

pub promise_1_3 : RefusalValues
promise_1_3 =
    record {
      numbers = refl;
      of_accepted = (refl, refl);
      of_refused = λ number line. (refl, refl);
      no_line = λ number. refl;
      listed = answers_listed;
      listed_in_numbers = exports_listed;
      measures_listed = measures_listed;
      writer_listed = writer_listed;
      trials_listed = trials_listed;
      ball = refl;
      drawing = λ o. refl;
      check = λ o. refl;
      reference = λ o. refl;
      label = refl;
      figures = refl;
      envelope = refl;
      envelope_read = λ o. refl;
      text_refused = λ o. refl;
      text_accepted = λ bytes. refl;
      panel = λ number. refl;
      quiet = (refl, refl, refl);
      alarm = λ e. (refl, refl, refl);
      refused_reading = λ number line. (refl, refl, refl);
      not_measured = λ number line. refl;
      dot = λ p. (refl, refl, refl, refl);
      disc = λ p x. (refl, refl, refl, refl);
      refused_mark = λ number. (refl, refl, refl, refl);
      verdict_in_numbers = λ v. refl;
      measured_in_numbers = λ m. refl;
      mark_in_numbers = λ mark. refl;
      printed = λ number line. refl;
      told = refusals_told;
    }
