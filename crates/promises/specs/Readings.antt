-- Demand 2, readings, for the total and the types of the calls.
--     RowAsReading    a reading with the values of a row, against an envelope of n channels of these codes
--     AcceptedReading what an accepted reading is, and its verdict
--     MeasuredAs      what is measured of it
--     promise_2_9     what a reading is and what its verdict says (`ReadingsJudged`)
use Rattle.std.specs.Prelude.{◌+◌, ◌<◌, ◌≤◌, ℕ, ◌≡◌, true, List, ◌++◌, map, ℤ, length, take}
use Rattle.std.proofs.Common.{◌∙◌, ap, arith}
use Rattle.std.proofs.Math.Option.{some}
use Rattle.limits.specs.Limits.{budget_limit, row_limit, total}
use Rattle.geometry.specs.Figures.{scaled_squared_distance}
use Rattle.geometry.specs.Places.{centre_of}
use Rattle.geometry.specs.Table.{coordinate}
use Rattle.checking.specs.Check.{checking}
use Rattle.drawing.specs.Draw.{drawing}
use Rattle.label.specs.Label.{is_label}
use Rattle.channel.specs.Channel.{channel_types, codes_known}
use Rattle.channel.specs.ChannelLaws.{house_sound}
use Rattle.value.specs.Value.{Written, reads}
use Rattle.value.specs.Values.{values_in_range}
use Rattle.reading_line.specs.Reading.{Reading, own_reading, print_reading, reading_of}
use Rattle.reading_line.specs.ReadingLaws.{InForm, form_printed, printed_form}
use Rattle.reference_rows.specs.ReferenceText.{ReferenceText, channel_count, codes_of, label_at, row_at, row_count, table_of}
use Rattle.reference_rows.specs.Rows.{sound}
use Rattle.envelope.specs.Figures.{channel_codes, figures_known, figures_of, drawn_figures}
use Rattle.envelope.specs.declared.Figures.{Figures}
use Rattle.reading.specs.QuietLaws.{checked_row_quiet, drawn_row_quiet}
use Rattle.reading.specs.Content.{point_of}
use Rattle.reading.specs.ContentLaws.{Accepted as Accepting}
use Rattle.reading.specs.Verdict.{judged, verdict_number, Alarm, Quiet}
use Rattle.reading.specs.VerdictLaws.{accepted_number, accepted-printed, alarm_off_ball, printed-accepted, quiet_in_ball}
use Rattle.measured_reading.specs.Measured.{measured}
use Rattle.measured_reading.specs.MeasuredLaws.{alarm_measured, measured-accepted, measured-judged, quiet_measured}
use Rattle.program_laws.specs.QuietLaws.{reference_checked_quiet, reference_drawn_quiet}
use Rattle.promises.specs.House.{text_content}
use Rattle.refusal.specs.Outcome.{Accepted}

-- the values are those of row i of m rows, within the ranges of the n codes, under any label
pub record RowAsReading (n : ℕ) (codes label : List ℕ) (values : List Written) (rows : List ℤ) (m i : ℕ) : Type 0 where
  pub typed : n ≤ length codes
  pub codes_known : codes_known channel_types (take n codes) ≡ true
  pub labelled : is_label label ≡ true
  pub complete : length values ≡ n
  pub in_ranges : values_in_range channel_types (take n codes) values ≡ true
  pub row : i < m
  pub same_values : (k : ℕ) → k < n → point_of values k ≡ coordinate rows n i k

-- the text of a label, the tags of these codes, and values
abbrev text_of : List ℕ → List ℕ → List Written → List ℕ
text_of codes label values = print_reading (own_reading channel_types codes label values)

-- s of the values, taken as a row
abbrev distance : Figures → List Written → ℕ
distance f values = scaled_squared_distance total f.n (centre_of f.ball.scaled_centre) (point_of values)

-- what an accepted reading is: the printing of a label, the envelope's tags and values within their ranges, `<v` kept
pub record AcceptedReading (f : Figures) (text : List ℕ) : Type 0 where
  pub figures_within : figures_known total channel_types f ≡ true
  pub label : List ℕ
  pub values : List Written
  pub labelled : is_label label ≡ true
  pub complete : length values ≡ f.n
  pub in_ranges : values_in_range channel_types (channel_codes f) values ≡ true
  pub printed : text ≡ text_of (channel_codes f) label values
  -- Quiet exactly when s is at most M
  pub quiet : judged total channel_types f text ≡ Quiet → distance f values ≤ f.ball.scaled_squared_radius
  pub quietly : distance f values ≤ f.ball.scaled_squared_radius → judged total channel_types f text ≡ Quiet
  -- Alarm with e exactly when s is M + e and e is above 0
  pub alarm : (e : ℕ) → judged total channel_types f text ≡ Alarm e → (distance f values ≡ f.ball.scaled_squared_radius + e) × (0 < e)
  pub alarming : (e : ℕ) → (distance f values ≡ f.ball.scaled_squared_radius + e) × (0 < e) → judged total channel_types f text ≡ Alarm e

abbrev accepted_reading : (f : Figures) (text : List ℕ) → Accepting total channel_types f text → AcceptedReading f text
accepted_reading f text a =
    record {
      figures_within = a.within;
      label = a.label;
      values = a.values;
      labelled = a.labelled;
      complete = a.complete;
      in_ranges = a.in_ranges;
      printed = a.printed;
      quiet = (quiet_in_ball a).0;
      quietly = (quiet_in_ball a).1;
      alarm = λ e. (alarm_off_ball a e).0;
      alarming = λ e. (alarm_off_ball a e).1;
    }

-- what is measured of an accepted reading: the n values of its printing as they read, and s, by which it is Quiet or Alarm
pub record MeasuredAs (f : Figures) (text : List ℕ) : Type 0 where
  pub reading : AcceptedReading f text
  pub values : (measured total channel_types f text).values ≡ map reads reading.values
  pub count : length (measured total channel_types f text).values ≡ f.n
  pub scaled_squared_distance : (measured total channel_types f text).answer.scaled_squared_distance ≡ distance f reading.values
  -- Quiet exactly when it is at most M, and Alarm with e exactly when it is M + e and e is above 0
  pub quiet : ((measured total channel_types f text).answer.verdict ≡ Quiet
      → (measured total channel_types f text).answer.scaled_squared_distance ≤ f.ball.scaled_squared_radius)
      × ((measured total channel_types f text).answer.scaled_squared_distance ≤ f.ball.scaled_squared_radius
      → (measured total channel_types f text).answer.verdict ≡ Quiet)
  pub alarm : (e : ℕ)
      → ((measured total channel_types f text).answer.verdict ≡ Alarm e
      → ((measured total channel_types f text).answer.scaled_squared_distance ≡ f.ball.scaled_squared_radius + e) × (0 < e))
      × (((measured total channel_types f text).answer.scaled_squared_distance ≡ f.ball.scaled_squared_radius + e) × (0 < e)
      → (measured total channel_types f text).answer.verdict ≡ Alarm e)

pub record ReadingsJudged : Type 0 where
  -- in form exactly when it is the printing of a label, n fields free of commas and line ends in the places of tags, and n values
  pub form_printed : (n : ℕ) (text : List ℕ) (reading : Reading) → reading_of n text ≡ some reading → InForm n reading × (print_reading reading ≡ text)
  pub printed_form : (n : ℕ) (reading : Reading) → InForm n reading → reading_of n (print_reading reading) ≡ some reading
  -- accepted exactly when it is the printing of a label, the envelope's tags and values within their ranges
  pub accepted : (f : Figures) (text : List ℕ) → verdict_number (judged total channel_types f text) ≡ 0 → AcceptedReading f text
  pub accepts : (f : Figures) → figures_known total channel_types f ≡ true → (label : List ℕ) (values : List Written)
      → is_label label ≡ true → length values ≡ f.n → values_in_range channel_types (channel_codes f) values ≡ true
      → verdict_number (judged total channel_types f (text_of (channel_codes f) label values)) ≡ 0
  -- measured, every text and all figures have the verdict of the reading judged; so what is accepted and refused is the same
  pub same_verdict : (f : Figures) (text : List ℕ) → (measured total channel_types f text).answer.verdict ≡ judged total channel_types f text
  pub measures : (f : Figures) (text : List ℕ) → verdict_number (judged total channel_types f text) ≡ 0 → MeasuredAs f text
  -- a reading with the values of a row is Quiet for every envelope drawn from the rows or checked against them
  pub drawn_row : (n : ℕ) (codes label : List ℕ) (values : List Written) (rows : List ℤ) (m i : ℕ) → RowAsReading n codes label values rows m i
      → (budget : ℕ) → (drawing total row_limit rows m n budget).outcome ≡ Accepted
      → judged total channel_types (drawn_figures n codes (drawing total row_limit rows m n budget)) (text_of (take n codes) label values) ≡ Quiet
  pub checked_row : (n : ℕ) (codes label : List ℕ) (values : List Written) (rows : List ℤ) (m i : ℕ) → RowAsReading n codes label values rows m i
      → (ws : List ℕ) (moves : ℕ) → (checking total row_limit rows m n ws).outcome ≡ Accepted → moves ≤ budget_limit
      → judged total channel_types (figures_of n codes (checking total row_limit rows m n ws).ball moves) (text_of (take n codes) label values) ≡ Quiet
  -- and so is each row of an accepted reference text, whatever follows its codes and its table
  pub reference_drawn_row : (text : List ℕ) (found : ReferenceText) → text_content text ≡ sound found
      → (more : List ℤ) (held : List ℕ) → take (channel_count found) held ≡ codes_of found → (i : ℕ) → i < row_count found
      → (budget : ℕ) → budget ≤ budget_limit
      → judged total channel_types
      (drawn_figures (channel_count found) held (drawing total row_limit (table_of found ++ more) (row_count found) (channel_count found) budget))
      (text_of (codes_of found) (label_at found i) (row_at found i).values) ≡ Quiet
  pub reference_checked_row : (text : List ℕ) (found : ReferenceText) → text_content text ≡ sound found
      → (more : List ℤ) (held : List ℕ) → take (channel_count found) held ≡ codes_of found → (i : ℕ) → i < row_count found
      → (ws : List ℕ) (moves : ℕ) → (checking total row_limit (table_of found ++ more) (row_count found) (channel_count found) ws).outcome ≡ Accepted
      → moves ≤ budget_limit
      → judged total channel_types
      (figures_of (channel_count found) held (checking total row_limit (table_of found ++ more) (row_count found) (channel_count found) ws).ball moves)
      (text_of (codes_of found) (label_at found i) (row_at found i).values) ≡ Quiet

pub promise_2_9 : ReadingsJudged
promise_2_9 =
    record {
      form_printed = form_printed;
      printed_form = λ n reading form. printed_form form;
      accepted = λ f text zero_number. accepted_reading f text (accepted-printed total channel_types f text zero_number);
      accepts = λ f within label values labelled complete in_ranges.
          ap verdict_number (printed-accepted total channel_types f house_sound within label values labelled complete in_ranges)
          ∙ accepted_number (distance f values) f.ball.scaled_squared_radius;
      same_verdict = measured-judged total channel_types;
      measures = λ f text zero_number.
          let m = measured-accepted total channel_types f text (ap verdict_number (measured-judged total channel_types f text) ∙ zero_number) in
          record {
            reading = accepted_reading f text m.accepted;
            values = m.values;
            count = m.count;
            scaled_squared_distance = m.distance;
            quiet = quiet_measured total channel_types f text m;
            alarm = alarm_measured total channel_types f text m;
          };
      drawn_row = λ n codes label values rows m i r.
          drawn_row_quiet total channel_types house_sound n codes label r.labelled values r.complete r.in_ranges r.typed r.codes_known
          (omega arith) row_limit rows m i r.row r.same_values;
      checked_row = λ n codes label values rows m i r.
          checked_row_quiet total channel_types house_sound n codes label r.labelled values r.complete r.in_ranges r.typed r.codes_known
          (omega arith) row_limit rows m i r.row r.same_values;
      reference_drawn_row = λ text found is more held taken. reference_drawn_quiet total (omega arith) row_limit channel_types house_sound text found is more held taken;
      reference_checked_row = λ text found is more held taken. reference_checked_quiet total (omega arith) row_limit channel_types house_sound text found is more held taken;
    }
