-- What draw, verify and judge do together. For any total D, row limit and table of types:
--     first_codes                   a record is read against the first n codes alone
--     cut_line                      a line with its byte 10, and what follows it, are cut into the line and the parts of what follows
--     reading_next                  a reading in form, and readings after it, are that reading and those
-- For D = 65,536, 256 rows and document 01's types, of an accepted reference text:
--     draw_against                  what draw prints is a record that is accepted against the text, as the drawn envelope
--     draw_verified                 so that verify prints `OK` of the two
--     draw_judged                   and judge the verdicts on readings of 1 to 65,536 bytes, against the drawn envelope
--     rows_quiet                    which are lines `QUIET` alone, where the readings are rows of the text, in any order and number
--     row_quiet                     and one such line, where they are one row
use Rattle.std.specs.Prelude.{ℕ, ◌≤◌, ◌<◌, ◌≡◌, true, ◌&&◌, ℤ, length, take}
use Rattle.std.proofs.Math.Path.{refl, ap}
use Rattle.std.proofs.Common.{sym, ap₂, ◌∙◌, arith, le-leb}
use mathlib.Core.List.{List, [], ◌∷◌, ◌++◌, flat_map, append_assoc, append-nil}
use Rattle.std.proofs.Math.Option.{Option, none, some}
use Rattle.std.proofs.Math.Seq.{take-length}
use Rattle.integers.specs.Tests.{unlike}
use Rattle.lists.specs.Each.{Each, each_cons, each_tail}
use Rattle.lists.specs.Padded.{padded, padded-length}
use Rattle.limits.specs.Limits.{total, row_limit, channel_limit}
use Rattle.drawing.specs.Draw.{drawing}
use Rattle.text.specs.Parts.{line_end, text_within, same, cut, join, free, all_free}
use Rattle.text.specs.PartsLaws.{cut_some, join-cut, cut-join, cut-free}
use Rattle.label.specs.Label.{is_label}
use Rattle.label.specs.RowLabelLaws.{row_label}
use Rattle.channel.specs.Channel.{Types, channel_types, codes_known}
use Rattle.channel.specs.ChannelLaws.{house_sound}
use Rattle.value.specs.ValuesLaws.{range_in}
use Rattle.reference_rows.specs.ReferenceText.{ReferenceText, codes_of, channel_count, row_count, row_at, label_at, table_of}
use Rattle.reference_rows.specs.ReferenceTextLaws.{label-at}
use Rattle.reference_rows.specs.Rows.{sound}
use Rattle.reference.specs.Reference.{content}
use Rattle.reference.specs.Printing.{RowWithin, Within}
use Rattle.reference.specs.ReferenceLaws.{accepted-within}
use Rattle.reference.specs.ContractLaws.{answer-codes}
use Rattle.envelope.specs.Figures.{drawn_figures, drawn_envelope}
use Rattle.channel.specs.CodesLaws.{each_codes}
use Rattle.envelope.specs.declared.Envelope.{Envelope}
use Rattle.reading_line.specs.Reading.{Reading, one_line, reading_line, reading_of, print_reading, own_reading}
use Rattle.reading_line.specs.ReadingLaws.{line-text, printed_form, own-form, own-length}
use Rattle.reading.specs.Verdict.{judged, VerdictOutcome, Quiet}
use Rattle.record_print.specs.Printed.{record_text}
use Rattle.record_read.specs.Clauses.{record_read, EnvelopeRead}
use Rattle.record_read.specs.ReadLaws.{accepting}
use Rattle.record.specs.HouseLaws.{house_drawn_read}
use Rattle.text.specs.EndedLines.{with_ends, lines_with_ends}
use Rattle.program_lines.specs.Lines.{print_accepted, print_verdict, print_verdicts}
use Rattle.program_draw.specs.Output.{draw_budget, draw_output}
use Rattle.program_judge.specs.Output.{judge_output}
use Rattle.program_verdicts.specs.Output.{readings_output}
use Rattle.program_record.specs.Against.{record_against, of_figures}
use Rattle.program_verify.specs.Output.{verify_output}
use Rattle.program_draw.specs.OutputLaws.{draw_accepted, draw_record}
use Rattle.program_verdicts.specs.OutputLaws.{readings_judged}
use Rattle.program_record.specs.AgainstLaws.{against_sound}
use Rattle.program_laws.specs.QuietLaws.{reference_drawn_quiet}

pub first_codes : (D limit : ℕ) (types : Types) (rows : List ℤ) (m n : ℕ) (codes others text : List ℕ) → n ≤ length codes → n ≤ length others
    → take n codes ≡ take n others → record_read D limit types rows m n codes text ≡ record_read D limit types rows m n others text
unfolding record_read
first_codes D limit types rows m n codes others text some-codes some-others alike =
    rw (le-leb n (length codes) some-codes, le-leb n (length others) some-others, alike)

-- ---- readings after each other

pub cut_line : (line more : List ℕ) → free line_end line ≡ true → cut line_end (line ++ (line_end ∷ more)) ≡ line ∷ cut line_end more
unfolding join all_free
cut_line line more h =
    let parts = cut_some line_end more in
    let whole = sym (join-cut line_end more) ∙ ap (join line_end) parts.2 in
    ap (λ (l : List ℕ). cut line_end (line ++ (line_end ∷ l))) whole
    ∙ cut-join line_end line (parts.0 ∷ parts.1) (ap₂ ◌&&◌ h (ap (all_free line_end) (sym parts.2) ∙ cut-free line_end more))
    ∙ ap (λ (l : List (List ℕ)). line ∷ l) (sym parts.2)

line_next : (line more : List ℕ) → free line_end line ≡ true → lines_with_ends (line ++ (line_end ∷ more)) ≡ (line ++ (line_end ∷ [])) ∷ lines_with_ends more
unfolding lines_with_ends with_ends
line_next line more h =
    let parts = cut_some line_end more in
    ap with_ends (cut_line line more h ∙ ap (λ (l : List (List ℕ)). line ∷ l) parts.2)
    ∙ ap (λ (l : List (List ℕ)). (line ++ (line_end ∷ [])) ∷ with_ends l) (sym parts.2)

pub reading_next : (n : ℕ) (text more : List ℕ) (reading : Reading) → reading_of n text ≡ some reading
    → lines_with_ends (text ++ more) ≡ text ∷ lines_with_ends more
unfolding reading_of
reading_next n text more reading e = go (one_line (cut line_end text)) refl e
  where
    go : (o : Option (List ℕ)) → one_line (cut line_end text) ≡ o → reading_line n o ≡ some reading → lines_with_ends (text ++ more) ≡ text ∷ lines_with_ends more
    go none h k = unlike k
    go (some line) h k =
        let whole = line-text text line h in
        ap (λ (l : List ℕ). lines_with_ends (l ++ more)) (sym whole.0)
        ∙ ap lines_with_ends (append_assoc line (line_end ∷ []) more)
        ∙ line_next line more whole.1
        ∙ ap (λ (l : List ℕ). l ∷ lines_with_ends more) whole.0

-- ---- draw, and what follows

module _ (reference : List ℕ) (found : ReferenceText) (is : content row_limit channel_types reference ≡ sound found) where
  -- the codes and rows of the text
  abbrev codes : List ℕ
  codes = codes_of found

  abbrev m : ℕ
  m = row_count found

  abbrev n : ℕ
  n = channel_count found

  abbrev table : List ℤ
  table = table_of found

  -- the drawn envelope
  abbrev drawn : Envelope
  drawn = drawn_envelope n (padded channel_limit codes) (drawing total row_limit table m n draw_budget)

  -- what draw prints
  abbrev drawn_text : List ℕ
  drawn_text = draw_output total row_limit channel_types reference

  within : Within row_limit channel_types found
  within = accepted-within row_limit channel_types reference found is

  codes_known_lem : codes_known channel_types codes ≡ true
  codes_known_lem = each_codes channel_types codes within.heading.each_known

  codes-held : take n (padded channel_limit codes) ≡ codes
  codes-held = answer-codes row_limit channel_types reference found is

  text_is : drawn_text ≡ record_text channel_types drawn
  text_is = draw_record total row_limit channel_types reference found is house_sound

  pub draw_against : record_against total row_limit channel_types reference drawn_text ≡ accepting drawn
  draw_against =
      against_sound total row_limit channel_types reference found is drawn_text
      ∙ first_codes total row_limit channel_types table m n codes (padded channel_limit codes) drawn_text (omega arith)
      (omega (arith, padded-length channel_limit codes, within.heading.channels)) (take-length codes ∙ sym codes-held)
      ∙ ap (record_read total row_limit channel_types table m n (padded channel_limit codes)) text_is
      ∙ house_drawn_read table m n codes refl codes_known_lem draw_budget (draw_accepted total row_limit channel_types reference found is house_sound)

  pub draw_verified : verify_output total row_limit channel_types reference drawn_text ≡ print_accepted
  unfolding verify_output
  draw_verified = ap (λ (e : EnvelopeRead). of_figures e (λ f. print_accepted)) draw_against

  pub draw_judged : (readings : List ℕ) → text_within readings ≡ true
      → judge_output total row_limit channel_types reference drawn_text readings
      ≡ print_verdicts total channel_types drawn.figures (lines_with_ends readings)
  unfolding judge_output
  draw_judged readings short =
      ap (λ (e : EnvelopeRead). of_figures e (λ f. readings_output total channel_types f readings)) draw_against
      ∙ readings_judged total channel_types drawn.figures readings short

  -- row i of the text, as a reading
  abbrev row_reading : ℕ → Reading
  row_reading i = own_reading channel_types codes (label_at found i) (row_at found i).values

  abbrev row_text : ℕ → List ℕ
  row_text i = print_reading (row_reading i)

  module _ (i : ℕ) (h : i < m) where
    row-judged : judged total channel_types drawn.figures (row_text i) ≡ Quiet
    row-judged =
        ap (λ (l : List ℤ). judged total channel_types (drawn_figures n (padded channel_limit codes) (drawing total row_limit l m n draw_budget))
        (row_text i)) (sym (append-nil table))
        ∙ reference_drawn_quiet total (omega arith) row_limit channel_types house_sound reference found is [] (padded channel_limit codes) codes-held i h
        draw_budget (omega arith)

    row_within : RowWithin channel_types codes (row_at found i)
    row_within = within.all_rows.each i h

    row_labelled : is_label (label_at found i) ≡ true
    row_labelled = ap is_label (label-at found i) ∙ row_label (row_at found i).label row_within.labelled

    row_next : (more : List ℕ) → print_verdicts total channel_types drawn.figures (lines_with_ends (row_text i ++ more))
        ≡ print_verdict Quiet ++ print_verdicts total channel_types drawn.figures (lines_with_ends more)
    unfolding print_verdicts
    row_next more =
        let in_form =
        own-form channel_types house_sound codes (label_at found i) (row_at found i).values codes_known_lem row_labelled row_within.complete in
        ap (print_verdicts total channel_types drawn.figures) (reading_next n (row_text i) more (row_reading i) (printed_form in_form))
        ∙ ap (λ (v : VerdictOutcome). print_verdict v ++ print_verdicts total channel_types drawn.figures (lines_with_ends more)) row-judged

  pub rows_quiet : (places : List ℕ) → Each (λ i. i < m) 0 places → text_within (flat_map row_text places) ≡ true
      → judge_output total row_limit channel_types reference drawn_text (flat_map row_text places)
      ≡ flat_map (λ i. print_verdict Quiet) places
  unfolding flat_map print_verdicts lines_with_ends with_ends cut same
  rows_quiet places each short = draw_judged (flat_map row_text places) short ∙ go places each
    where
      go : (places : List ℕ) → Each (λ i. i < m) 0 places
          → print_verdicts total channel_types drawn.figures (lines_with_ends (flat_map row_text places)) ≡ flat_map (λ i. print_verdict Quiet) places
      go [] each = refl
      go (i ∷ places) each =
          row_next i (each 0 (omega arith)) (flat_map row_text places)
          ∙ ap (λ (l : List ℕ). print_verdict Quiet ++ l) (go places (each_tail (λ i. i < m) 0 i places each))

  pub row_quiet : (i : ℕ) → i < m
      → judge_output total row_limit channel_types reference drawn_text (row_text i) ≡ print_verdict Quiet
  unfolding flat_map
  row_quiet i h =
      let values = (row_at found i).values in
      let right = row_within i h in
      let short =
      own-length channel_types house_sound codes (label_at found i) values codes_known_lem (row_labelled i h) right.complete within.heading.channels
      (range_in channel_types codes values right.each_in_range) in
      ap (judge_output total row_limit channel_types reference drawn_text) (sym (append-nil (row_text i)))
      ∙ rows_quiet (i ∷ []) (each_cons (λ k. k < m) 0 i [] h (λ k l. absurd (omega arith)))
      (ap text_within (append-nil (row_text i)) ∙ short)
      ∙ append-nil (print_verdict Quiet)
