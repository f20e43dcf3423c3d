-- Document 02, job 3: below detection counts as half, for the total, the row limit and the types of the calls. Before this request it counted
-- as 0, so that an answer is as before where it is that of the values with 0 in the place of each `<v`.
--     HalfRead                                what `<v` reads as
--     zeroed, zeroed_row                       a value with 0 in the place of `<v`; a row of such values
--     BelowOne, BelowOnes, RowBelowOne        of a value, of values, of a row: each `<v` has v = 1
--     table_as_zero found                       the table of a reference text with 0 in the place of each `<v`
--     record_as_zero found record_text          a record, read against that table
--     TextAsBefore text found                 what each call and program makes of a reference text, as before
--     content_as_zero content                   what a text is as a reading, with 0 in the place of each `<v`
--     verdict_as_zero f text                    the verdict on that
--     ReadingBelowOne f text                  each `<v` of a text that is accepted as a reading has v = 1
--     ReadingAsBefore f text                  what each call makes of a reading, as before
--     ReadingsBelowOne f readings             each reading of a file is so
--     verdicts_as_zero, readings_as_zero,         the verdicts on a file of readings, what is printed of it, a trial of settings on it, and what is
--     trial_as_zero, settings_as_zero             printed of that, with 0 in the place of each `<v`
--     ReadingsAsBefore f readings             what each call and program makes of a file of readings, as before
--     TextsAsBefore text found ..             what judge and alerts print of a reference text, a record and readings, as before
--     promise_R3                              values below detection (`BelowDetection`)
-- Which reference texts and readings are accepted, and which refusals the others meet, is told of values as they are written (`content`,
-- `reading_content`) and not of what they read as.
use Rattle.std.specs.Prelude.{◌*◌, ◌+◌, ◌<◌, ◌≤◌, ℕ, ◌≡◌, refl, cond, true, ◌↔◌, pos, ℤ, get_or}
use Rattle.std.proofs.Common.{◌∙◌}
use Rattle.std.proofs.Math.Path.{ap, ap₂}
use mathlib.Core.List.{List, [], ◌++◌, ◌∷◌, flat_map, map}
use Rattle.std.proofs.Math.Option.{Option, none, some}
use Rattle.std.specs.Int.Signed.{le_z}
use Rattle.lists.specs.Each.{Each, each_head, each_tail}
use Rattle.refusal.specs.Number.{alert_settings, disagreement, outside_limits, text_length}
use Rattle.refusal.specs.Outcome.{refused, require, Accepted}
use Rattle.limits.specs.Limits.{row_limit, total}
use Rattle.geometry.specs.Figures.{scaled_squared_distance}
use Rattle.geometry.specs.Places.{centre_of}
use Rattle.drawing.specs.Draw.{drawing}
use Rattle.text.specs.EndedLines.{lines_with_ends}
use Rattle.text.specs.Lines.{print_lines}
use Rattle.text.specs.Parts.{text_within}
use Rattle.channel.specs.Channel.{channel_types, type_of}
use Rattle.channel.specs.ChannelLaws.{house_sound}
use Rattle.channel.specs.Clauses.{range_of}
use Rattle.value.specs.Value.{Written, below, half, number, reads, value_in_range}
use Rattle.value.specs.ValueLaws.{half_is, reads-within}
use Rattle.reference_row.specs.Row.{Row, no_row}
use Rattle.reference_rows.specs.ReferenceText.{ReferenceText, channel_count, codes_of, row_count, row_numbers, rows_of, table_of}
use Rattle.reference_rows.specs.Rows as reference
use Rattle.reference_table.specs.AcceptedTable.{own-table}
use Rattle.reference_write.specs.Held.{lent_of}
use Rattle.reference_write.specs.Writing.{lent_table}
use Rattle.envelope.specs.Figures.{figures_known}
use Rattle.envelope.specs.declared.Figures.{Figures}
use Rattle.agreement.specs.Agreement.{agrees}
use Rattle.reading.specs.Content as reading
use Rattle.reading.specs.Content.{reading_content}
use Rattle.reading.specs.Verdict.{judged, verdict_of, verdict_on, VerdictOutcome}
use Rattle.measured_reading.specs.Measured.{MeasuredReading, measured, measured_as}
use Rattle.alert_settings.specs.Settings.{settings_of, settings_within}
use Rattle.alert_trial.specs.Trial.{Trial, faulty, sound, trial_lines, trial_of, verdicts_on}
use Rattle.settings_text.specs.SettingsText.{text_of_settings}
use Rattle.record_read.specs.Clauses.{not_read, record_read, EnvelopeRead}
use Rattle.record_read.specs.ReadLaws.{read-otherwise}
use Rattle.program_lines.specs.Lines.{print_accepted, print_refusal, print_verdict, print_verdicts}
use Rattle.program_record.specs.Against.{of_figures, unless_refused}
use Rattle.program_record.specs.AgainstLaws.{against_sound}
use Rattle.program_draw.specs.Output.{draw_budget, draw_output, drawn_output}
use Rattle.program_draw.specs.OutputLaws.{draw_sound}
use Rattle.program_verify.specs.Output.{verify_output}
use Rattle.program_panel.specs.Output.{panel_output, shown_output}
use Rattle.program_plain.specs.Output.{content_output, lent_output, plain_output}
use Rattle.program_verdicts.specs.Output.{readings_output}
use Rattle.program_judge.specs.Output.{judge_output}
use Rattle.program_alerts.specs.Output.{alerts_output, settings_output, trial_output}
use Rattle.promises.specs.House.{against, lent_content, text_content}

-- ---- what `<v` reads as

pub record HalfRead : Type 0 where
  -- the number r with 2·r ≤ v < 2·r + 2, and no other
  pub halves : (v r : ℕ) → ((2 * r ≤ v) × (v < 2 * r + 2)) ↔ (reads (below (pos v)) ≡ pos r)
  -- within the range of its type, where v is from 1 to the high
  pub within : (code : ℕ) (v : ℤ) → value_in_range (range_of channel_types code) (below v) ≡ true
      → (le_z (type_of channel_types code).low (reads (below v)) ≡ true) × (le_z (reads (below v)) (type_of channel_types code).high ≡ true)
  -- <1, <50 and <51
  pub figures : map (λ (v : ℕ). reads (below (pos v))) (1 ∷ 50 ∷ 51 ∷ []) ≡ map pos (0 ∷ 25 ∷ 25 ∷ [])

half-read : HalfRead
half-read = record { halves = half_is; within = λ code v. reads-within channel_types house_sound code (below v); figures = refl }

-- ---- values

abbrev pub zeroed : Written → Written
zeroed (number z) = number z
zeroed (below v) = number (pos 0)

abbrev pub BelowOne : Written → Type 0
BelowOne value = (v : ℤ) → value ≡ below v → v ≡ pos 1

abbrev pub BelowOnes : List Written → Type 0
BelowOnes = Each BelowOne (number (pos 0))

numbers_as_zero : (values : List Written) → BelowOnes values → map reads values ≡ map reads (map zeroed values)
numbers_as_zero [] h = refl
numbers_as_zero (value ∷ values) h =
    ap₂ ◌∷◌ (go value (each_head BelowOne (number (pos 0)) value values h))
    (numbers_as_zero values (each_tail BelowOne (number (pos 0)) value values h))
  where
    go : (value : Written) → BelowOne value → reads value ≡ reads (zeroed value)
    go (number z) h = refl
    go (below v) h = ap half (h v refl)

-- ---- reference texts

abbrev pub zeroed_row : Row → Row
zeroed_row row = record { label = row.label; values = map zeroed row.values }

abbrev pub RowBelowOne : Row → Type 0
RowBelowOne row = BelowOnes row.values

abbrev pub table_as_zero : ReferenceText → List ℤ
table_as_zero found = row_numbers (map zeroed_row (rows_of found))

abbrev pub record_as_zero : ReferenceText → List ℕ → EnvelopeRead
record_as_zero found = record_read total row_limit channel_types (table_as_zero found) (row_count found) (channel_count found) (codes_of found)

pub record TextAsBefore (text : List ℕ) (found : ReferenceText) : Type 0 where
  -- the table that reading the text fills
  pub table : table_of found ≡ table_as_zero found
  -- a record that is read against the text
  pub agreed : (record_text : List ℕ) → against text record_text ≡ record_as_zero found record_text
  -- what the programs print
  pub drawn : draw_output total row_limit channel_types text
      ≡ drawn_output channel_types (codes_of found) (drawing total row_limit (table_as_zero found) (row_count found) (channel_count found) draw_budget)
  pub verified : (record_text : List ℕ)
      → verify_output total row_limit channel_types text record_text ≡ of_figures (record_as_zero found record_text) (λ f. print_accepted)
  pub shown : (record_text : List ℕ)
      → panel_output total row_limit channel_types text record_text ≡ of_figures (record_as_zero found record_text) (shown_output total channel_types)
  pub judged_by : (record_text readings : List ℕ) → judge_output total row_limit channel_types text record_text readings
      ≡ of_figures (record_as_zero found record_text) (λ f. readings_output total channel_types f readings)
  pub tried_by : (record_text settings readings : List ℕ) → alerts_output total row_limit channel_types text record_text settings readings
      ≡ of_figures (record_as_zero found record_text) (λ f. settings_output total channel_types f (text_of_settings settings) readings)
  pub printed : let lent = lent_of found in
      plain_output row_limit channel_types text
      ≡ lent_output channel_types (lent_content (lent_table (table_as_zero found) lent.m lent.n lent.codes lent.labels lent.ends))

rows_as_zero : (rows : List Row) → Each RowBelowOne no_row rows → row_numbers rows ≡ row_numbers (map zeroed_row rows)
unfolding row_numbers
rows_as_zero [] h = refl
rows_as_zero (row ∷ rows) h =
    ap₂ ◌++◌ (numbers_as_zero row.values (each_head RowBelowOne no_row row rows h)) (rows_as_zero rows (each_tail RowBelowOne no_row row rows h))

text_as_before : (text : List ℕ) (found : ReferenceText) → text_content text ≡ reference.sound found → Each RowBelowOne no_row (rows_of found)
    → TextAsBefore text found
unfolding table_of plain_output verify_output panel_output judge_output alerts_output
text_as_before text found is h =
    let m = row_count found in
    let n = channel_count found in
    let codes = codes_of found in
    let lent = lent_of found in
    let table : table_of found ≡ table_as_zero found = rows_as_zero (rows_of found) h in
    let agreed : (record_text : List ℕ) → against text record_text ≡ record_as_zero found record_text =
    λ record_text. against_sound total row_limit channel_types text found is record_text
    ∙ ap (λ (rows : List ℤ). record_read total row_limit channel_types rows m n codes record_text) table in
    record {
      table = table;
      agreed = agreed;
      drawn =
          draw_sound total row_limit channel_types text found is
          ∙ ap (λ (rows : List ℤ). drawn_output channel_types codes (drawing total row_limit rows m n draw_budget)) table;
      verified = λ record_text. ap (λ (e : EnvelopeRead). of_figures e (λ f. print_accepted)) (agreed record_text);
      shown = λ record_text. ap (λ (e : EnvelopeRead). of_figures e (shown_output total channel_types)) (agreed record_text);
      judged_by = λ record_text readings.
          ap (λ (e : EnvelopeRead). of_figures e (λ f. readings_output total channel_types f readings)) (agreed record_text);
      tried_by = λ record_text settings readings.
          ap (λ (e : EnvelopeRead). of_figures e (λ f. settings_output total channel_types f (text_of_settings settings) readings)) (agreed record_text);
      printed =
          ap (content_output row_limit channel_types) is
          ∙ ap (λ (rows : List ℤ). lent_output channel_types (lent_content (lent_table rows lent.m lent.n lent.codes lent.labels lent.ends))) table;
    }

-- ---- readings

abbrev pub content_as_zero : reading.Content → reading.Content
content_as_zero (reading.faulty refusal line) = reading.faulty refusal line
content_as_zero (reading.sound values) = reading.sound (map zeroed values)

abbrev pub verdict_as_zero : Figures → List ℕ → VerdictOutcome
verdict_as_zero f text = verdict_on total f (content_as_zero (reading_content total channel_types f text))

abbrev pub ReadingBelowOne : Figures → List ℕ → Type 0
ReadingBelowOne f text = (values : List Written) → reading_content total channel_types f text ≡ reading.sound values → BelowOnes values

pub record ReadingAsBefore (f : Figures) (text : List ℕ) : Type 0 where
  pub judged_as : judged total channel_types f text ≡ verdict_as_zero f text
  pub measured_as : measured total channel_types f text ≡ measured_as total f (content_as_zero (reading_content total channel_types f text))

-- a line with its byte 10 is a reading
abbrev pub ReadingsBelowOne : Figures → List ℕ → Type 0
ReadingsBelowOne f readings = Each (ReadingBelowOne f) [] (lines_with_ends readings)

abbrev pub verdicts_as_zero : Figures → List ℕ → List VerdictOutcome
verdicts_as_zero f readings = map (verdict_as_zero f) (lines_with_ends readings)

-- what is printed of readings, and of a trial of settings on them
abbrev pub readings_as_zero : Figures → List ℕ → List ℕ
readings_as_zero f readings = require (text_within readings) (print_refusal text_length 0) (λ _. flat_map print_verdict (verdicts_as_zero f readings))

abbrev pub trial_as_zero : Figures → List ℕ → List ℕ → Trial
trial_as_zero f settings readings =
    require (figures_known total channel_types f) (faulty outside_limits) (λ _.
    require (settings_within settings) (faulty alert_settings) (λ _.
    require (text_within readings) (faulty text_length) (λ _.
    sound (print_lines (trial_lines (settings_of settings) (verdicts_as_zero f readings))))))

abbrev pub settings_as_zero : Figures → Option (List ℕ) → List ℕ → List ℕ
settings_as_zero f none readings = print_refusal alert_settings 0
settings_as_zero f (some settings) readings = trial_output (trial_as_zero f settings readings)

pub record ReadingsAsBefore (f : Figures) (readings : List ℕ) : Type 0 where
  pub verdicts : verdicts_on total channel_types f readings ≡ verdicts_as_zero f readings
  pub printed : readings_output total channel_types f readings ≡ readings_as_zero f readings
  pub tried : (settings : List ℕ) → trial_of total channel_types f settings readings ≡ trial_as_zero f settings readings

module _ (f : Figures) where
  -- what is measured of these numbers, taken as a row
  abbrev measured_by : List ℤ → MeasuredReading
  measured_by l =
      let s = scaled_squared_distance total f.n (centre_of f.ball.scaled_centre) (λ k. get_or l k (pos 0)) in
      record { answer = record { verdict = verdict_of s f.ball.scaled_squared_radius; scaled_squared_distance = s }; values = l }

  measured_as_zero : (content : reading.Content) → ((values : List Written) → content ≡ reading.sound values → BelowOnes values)
      → measured_as total f content ≡ measured_as total f (content_as_zero content)
  measured_as_zero (reading.faulty refusal line) h = refl
  measured_as_zero (reading.sound values) h = ap measured_by (numbers_as_zero values (h values refl))

  verdict-as-zero : (content : reading.Content) → ((values : List Written) → content ≡ reading.sound values → BelowOnes values)
      → verdict_on total f content ≡ verdict_on total f (content_as_zero content)
  verdict-as-zero (reading.faulty refusal line) h = refl
  verdict-as-zero (reading.sound values) h = ap (λ (m : MeasuredReading). m.answer.verdict) (measured_as_zero (reading.sound values) h)

  judged_as_zero : (text : List ℕ) → ReadingBelowOne f text → judged total channel_types f text ≡ verdict_as_zero f text
  unfolding judged
  judged_as_zero text h = verdict-as-zero (reading_content total channel_types f text) h

  reading_as_before : (text : List ℕ) → ReadingBelowOne f text → ReadingAsBefore f text
  unfolding measured
  reading_as_before text h =
      record { judged_as = judged_as_zero text h; measured_as = measured_as_zero (reading_content total channel_types f text) h }

  lines_as_zero : (lines : List (List ℕ)) → Each (ReadingBelowOne f) [] lines
      → (map (judged total channel_types f) lines ≡ map (verdict_as_zero f) lines)
      × (print_verdicts total channel_types f lines ≡ flat_map print_verdict (map (verdict_as_zero f) lines))
  unfolding print_verdicts flat_map
  lines_as_zero [] h = (refl, refl)
  lines_as_zero (line ∷ lines) h =
      let first = judged_as_zero line (each_head (ReadingBelowOne f) [] line lines h) in
      let rest = lines_as_zero lines (each_tail (ReadingBelowOne f) [] line lines h) in
      (ap₂ ◌∷◌ first rest.0, ap₂ (λ (v : VerdictOutcome) (l : List ℕ). print_verdict v ++ l) first rest.1)

  readings_as_before : (readings : List ℕ) → ReadingsBelowOne f readings → ReadingsAsBefore f readings
  unfolding readings_output trial_of
  readings_as_before readings h =
      let lines = lines_as_zero (lines_with_ends readings) h in
      record {
        verdicts = lines.0;
        printed = ap (λ (l : List ℕ). require (text_within readings) (print_refusal text_length 0) (λ _. l)) lines.1;
        tried = λ settings.
            ap (λ (vs : List VerdictOutcome).
            require (figures_known total channel_types f) (faulty outside_limits) (λ _.
            require (settings_within settings) (faulty alert_settings) (λ _.
            require (text_within readings) (faulty text_length) (λ _.
            sound (print_lines (trial_lines (settings_of settings) vs)))))) lines.0;
      }

  settings_as_before : (settings : Option (List ℕ)) (readings : List ℕ) → ReadingsBelowOne f readings
      → settings_output total channel_types f settings readings ≡ settings_as_zero f settings readings
  settings_as_before none readings h = refl
  settings_as_before (some settings) readings h = ap trial_output ((readings_as_before readings h).tried settings)

-- ---- texts together

-- what judge and alerts print where the readings too have v = 1 in each `<v`
pub record TextsAsBefore (text : List ℕ) (found : ReferenceText) (record_text readings : List ℕ) : Type 0 where
  pub judged_by : judge_output total row_limit channel_types text record_text readings
      ≡ of_figures (record_as_zero found record_text) (λ f. readings_as_zero f readings)
  pub tried_by : (settings : List ℕ) → alerts_output total row_limit channel_types text record_text settings readings
      ≡ of_figures (record_as_zero found record_text) (λ f. settings_as_zero f (text_of_settings settings) readings)

texts_as_before : (text : List ℕ) (found : ReferenceText) → text_content text ≡ reference.sound found → Each RowBelowOne no_row (rows_of found)
    → (record_text readings : List ℕ) → ReadingsBelowOne (record_as_zero found record_text).envelope.figures readings
    → TextsAsBefore text found record_text readings
texts_as_before text found is h record_text readings k =
    let before = record_as_zero found record_text in
    let f = before.envelope.figures in
    let of-text = text_as_before text found is h in
    record {
      judged_by =
          of-text.judged_by record_text readings
          ∙ ap (λ (l : List ℕ). unless_refused before.outcome (λ _. l)) (readings_as_before f readings k).printed;
      tried_by = λ settings.
          of-text.tried_by record_text settings readings
          ∙ ap (λ (l : List ℕ). unless_refused before.outcome (λ _. l)) (settings_as_before f (text_of_settings settings) readings k);
    }

-- ---- R3

pub record BelowDetection : Type 0 where
  pub each_value : HalfRead
  -- where each `<v` has v = 1: a reference text, a reading, a file of readings, and texts of both kinds together
  pub text_as_before : (text : List ℕ) (found : ReferenceText) → text_content text ≡ reference.sound found → Each RowBelowOne no_row (rows_of found)
      → TextAsBefore text found
  pub reading_as_before : (f : Figures) (text : List ℕ) → ReadingBelowOne f text → ReadingAsBefore f text
  pub readings_as_before : (f : Figures) (readings : List ℕ) → ReadingsBelowOne f readings → ReadingsAsBefore f readings
  pub texts_as_before : (text : List ℕ) (found : ReferenceText) → text_content text ≡ reference.sound found → Each RowBelowOne no_row (rows_of found)
      → (record_text readings : List ℕ) → ReadingsBelowOne (record_as_zero found record_text).envelope.figures readings
      → TextsAsBefore text found record_text readings
  -- a record that was accepted where below detection counted as 0 is kept where it agrees with the rows as they read, else 12 meets it
  pub held : (text record_text : List ℕ) (found : ReferenceText) → text_content text ≡ reference.sound found
      → let before = record_as_zero found record_text in
      before.outcome ≡ Accepted
      → against text record_text
      ≡ cond (agrees total row_limit (table_of found) (row_count found) (channel_count found) before.envelope.figures.ball before.envelope.weights)
      before (not_read row_limit (refused disagreement))

pub promise_R3 : BelowDetection
promise_R3 =
    record {
      each_value = half-read;
      text_as_before = text_as_before;
      reading_as_before = reading_as_before;
      readings_as_before = readings_as_before;
      texts_as_before = texts_as_before;
      held = λ text record_text found is accepted.
          against_sound total row_limit channel_types text found is record_text
          ∙ read-otherwise total row_limit channel_types (table_as_zero found) (table_of found) (row_count found) (channel_count found) (codes_of found)
          record_text accepted (own-table row_limit channel_types text found is house_sound);
    }
