-- Demand 1, which refusal the texts of a program meet, for the total, the row limit and the types of the calls; part of promise 1.4 in
-- Refusals.
--     ProgramsRefused, programs_refused     the reference text, then the record, then the readings together; last 13; what is printed else; alerts is in
--                                           AlertTexts
use Rattle.std.specs.Prelude.{◌<◌, ◌≤◌, ℕ, ◌≡◌, refl, false, true, List, length}
use Rattle.std.proofs.Common.{◌∙◌, sym, arith}
use Rattle.lists.specs.Padded.{padded}
use Rattle.refusal.specs.Number.{buffer_short, text_length}
use Rattle.refusal.specs.Outcome.{refused, refused_at, Accepted, Refused, RefusalNumbers}
use Rattle.limits.specs.Limits.{channel_limit, row_limit, total}
use Rattle.lent.specs.ContractLaws.{text_fits, text_short}
use Rattle.lent.specs.Clauses.{not_written, text_written, written}
use Rattle.drawing.specs.Draw.{drawing}
use Rattle.text.specs.EndedLines.{lines_with_ends}
use Rattle.text.specs.Parts.{text_within}
use Rattle.channel.specs.Channel.{channel_types}
use Rattle.channel.specs.ChannelLaws.{house_sound}
use Rattle.reference_rows.specs.ReferenceText.{ReferenceText, channel_count, codes_of, row_count, table_of}
use Rattle.reference_rows.specs.Rows.{faulty, sound}
use Rattle.reference.specs.Printing.{print_text}
use Rattle.reference_write.specs.Held.{lent_of}
use Rattle.envelope.specs.Figures.{channel_codes, figures_known, drawn_envelope}
use Rattle.envelope.specs.declared.Figures.{Figures}
use Rattle.record_print.specs.Printed.{record_text}
use Rattle.record_read.specs.Clauses.{not_read, record_read}
use Rattle.panel_steps.specs.Panel.{panel_shown}
use Rattle.program_lines.specs.Lines.{print_accepted, print_refusal, print_steps, print_verdicts}
use Rattle.program_record.specs.AgainstLaws.{against_faulty, against_sound, against-within}
use Rattle.program_draw.specs.Output.{draw_budget, draw_output}
use Rattle.program_draw.specs.OutputLaws.{draw_accepted, draw_faulty, draw_record}
use Rattle.program_verify.specs.Output.{verify_output}
use Rattle.program_verify.specs.OutputLaws.{verify_by}
use Rattle.program_panel.specs.Output.{panel_output}
use Rattle.program_panel.specs.OutputLaws.{panel_accepted, panel_by}
use Rattle.program_plain.specs.Output.{plain_output}
use Rattle.program_plain.specs.OutputLaws.{plain-accepted, plain_faulty, plain_sound}
use Rattle.program_verdicts.specs.Output.{readings_output}
use Rattle.program_verdicts.specs.OutputLaws.{readings_judged, readings_refused}
use Rattle.program_judge.specs.Output.{judge_output}
use Rattle.program_judge.specs.OutputLaws.{judge_by}
use Rattle.promises.specs.House.{against, lent_content, text_content}

pub record ProgramsRefused (reference : List ℕ) : Type 0 where
  -- a refused reference text first
  pub draw_reference : (number line : ℕ) → text_content reference ≡ faulty number line → draw_output total row_limit channel_types reference ≡ print_refusal number line
  pub plain_reference : (number line : ℕ) → text_content reference ≡ faulty number line → plain_output row_limit channel_types reference ≡ print_refusal number line
  pub record_reference : (number line : ℕ) → text_content reference ≡ faulty number line → (text : List ℕ)
      → against reference text ≡ not_read row_limit (refused_at number line)
  -- then the record against the text's rows and codes
  pub record_by_text : (found : ReferenceText) → text_content reference ≡ sound found → (text : List ℕ)
      → against reference text ≡ record_read total row_limit channel_types (table_of found) (row_count found) (channel_count found) (codes_of found) text
  -- then the readings together by 1, and else each by its verdict
  pub readings_1 : (f : Figures) (readings : List ℕ) → text_within readings ≡ false → readings_output total channel_types f readings ≡ print_refusal text_length 0
  pub readings_judged : (f : Figures) (readings : List ℕ) → text_within readings ≡ true
      → readings_output total channel_types f readings ≡ print_verdicts total channel_types f (lines_with_ends readings)
  -- no 8 past an accepted reference text and record
  pub drawn : (found : ReferenceText) → text_content reference ≡ sound found
      → (drawing total row_limit (table_of found) (row_count found) (channel_count found) draw_budget).outcome ≡ Accepted
  pub figures_within : (text : List ℕ) → (against reference text).outcome ≡ Accepted
      → figures_known total channel_types (against reference text).envelope.figures ≡ true
  pub panel_sound : (text : List ℕ) → (against reference text).outcome ≡ Accepted
      → (panel_shown total channel_types (against reference text).envelope.figures).outcome ≡ Accepted
  -- what is printed of the rest
  pub draw_else : (found : ReferenceText) → text_content reference ≡ sound found
      → draw_output total row_limit channel_types reference
      ≡ record_text channel_types
      (drawn_envelope (channel_count found) (padded channel_limit (codes_of found))
      (drawing total row_limit (table_of found) (row_count found) (channel_count found) draw_budget))
  pub plain_else : (found : ReferenceText) → text_content reference ≡ sound found
      → (plain : ReferenceText) × (lent_content (lent_of found) ≡ sound plain) × (plain_output row_limit channel_types reference ≡ print_text channel_types plain)
  pub others_refused : (text : List ℕ) (r : RefusalNumbers) → (against reference text).outcome ≡ Refused r
      → (verify_output total row_limit channel_types reference text ≡ print_refusal r.number r.line)
      × (panel_output total row_limit channel_types reference text ≡ print_refusal r.number r.line)
      × ((readings : List ℕ) → judge_output total row_limit channel_types reference text readings ≡ print_refusal r.number r.line)
  pub verify_else : (text : List ℕ) → (against reference text).outcome ≡ Accepted → verify_output total row_limit channel_types reference text ≡ print_accepted
  pub panel_else : (text : List ℕ) → (against reference text).outcome ≡ Accepted
      → let f = (against reference text).envelope.figures in
      panel_output total row_limit channel_types reference text ≡ print_steps channel_types (channel_codes f) (panel_shown total channel_types f).steps
  pub judge_else : (text : List ℕ) → (against reference text).outcome ≡ Accepted → (readings : List ℕ)
      → judge_output total row_limit channel_types reference text readings
      ≡ readings_output total channel_types (against reference text).envelope.figures readings
  -- 13 alone for the output
  pub output_13 : (output : List ℕ) (places : ℕ) → places < length output → text_written output places ≡ not_written (refused buffer_short)
  pub output_fits : (output : List ℕ) (places : ℕ) → length output ≤ places → text_written output places ≡ written (length output)

pub programs_refused : (reference : List ℕ) → ProgramsRefused reference
programs_refused reference =
    record {
      draw_reference = draw_faulty total row_limit channel_types reference;
      plain_reference = plain_faulty row_limit channel_types reference;
      record_reference = against_faulty total row_limit channel_types reference;
      record_by_text = against_sound total row_limit channel_types reference;
      readings_1 = readings_refused total channel_types;
      readings_judged = readings_judged total channel_types;
      drawn = λ found is. draw_accepted total row_limit channel_types reference found is house_sound;
      figures_within = against-within total row_limit channel_types house_sound (omega arith) reference;
      panel_sound = panel_accepted total row_limit channel_types house_sound (omega arith) reference;
      draw_else = λ found is. draw_record total row_limit channel_types reference found is house_sound;
      plain_else = λ found is.
          let plain = plain-accepted row_limit channel_types reference found is house_sound in
          (plain.0, plain.1, plain_sound row_limit channel_types reference found is plain.0 plain.1);
      others_refused = λ text r is.
          let read = against reference text in (
            sym (verify_by total row_limit channel_types reference text read refl (Refused r) is),
            sym (panel_by total row_limit channel_types reference text read refl (Refused r) is),
            λ readings. sym (judge_by total row_limit channel_types reference text read refl (Refused r) is readings),
          );
      verify_else = λ text is. sym (verify_by total row_limit channel_types reference text (against reference text) refl Accepted is);
      panel_else = λ text is.
          sym (panel_by total row_limit channel_types reference text (against reference text) refl Accepted is)
          ∙ rw (panel_accepted total row_limit channel_types house_sound (omega arith) reference text is);
      judge_else = λ text is readings. sym (judge_by total row_limit channel_types reference text (against reference text) refl Accepted is readings);
      output_13 = text_short;
      output_fits = text_fits;
    }
