-- Request 1: reference texts that are written, for the row limit and the types of the calls.
--     PlainPrinted      what the program plain prints
--     promise_R1        the writer: its calls, its refusals and its texts (`ReferenceWriter`)
use Rattle.std.specs.Prelude.{ℕ, ◌≡◌, true, List, length}
use Rattle.std.proofs.Common.{◌∙◌, ap, sym, arith}
use Rattle.limits.specs.Limits.{total, row_limit}
use Rattle.lent.specs.Clauses.{written}
use Rattle.text.specs.Parts.{free}
use Rattle.channel.specs.Channel.{channel_types}
use Rattle.channel.specs.ChannelLaws.{house_sound}
use Rattle.channel.specs.ContractLaws.{house_short}
use Rattle.value.specs.Value.{less_than}
use Rattle.reference_rows.specs.ReferenceText.{ReferenceText, codes_of, labels_of, table_of}
use Rattle.reference_rows.specs.Rows.{faulty, sound}
use Rattle.reference_write.specs.Clauses.{written_text}
use Rattle.reference_write.specs.Held.{lent_of}
use Rattle.reference_write.specs.Labels.{ends_from, labels_from, labels_joined}
use Rattle.reference_write.specs.LabelsLaws.{lent_labels}
use Rattle.reference_write.specs.Writing.{Lent}
use Rattle.program_lines.specs.Lines.{print_refusal}
use Rattle.program_draw.specs.Output.{draw_output}
use Rattle.program_verify.specs.Output.{verify_output}
use Rattle.program_panel.specs.Output.{panel_output}
use Rattle.program_judge.specs.Output.{judge_output}
use Rattle.program_plain.specs.Output.{plain_output}
use Rattle.program_plain.specs.OutputLaws.{plain-accepted, plain_again, plain_faulty, plain-own, plain-read, plain_sound, plain_values}
use Rattle.program_laws.specs.PlainLaws.{plain-drawn, plain-judged, plain_shown, plain_verified}
use Rattle.promises.specs.House.{text_content}
use Rattle.promises.specs.WriterAnswers.{WriterListed, writer_listed, writing}
use Rattle.promises.specs.WriterCalls.{WriterCalls, writer_calls}
use Rattle.promises.specs.WriterRefusals.{WriterRefused, writer_refused}
use Rattle.promises.specs.WrittenTexts.{OwnText, ReadBack, WrittenExactly, WrittenLength, own-text, read-back, text_of, written_exactly, written-length}
use seplogic.Ra.Ura.{Ura}
use types.Logic.{Logic}
use contract.Running.{Running}
use prog.Model.{Model}
use Rattle.refusal.specs.Outcome.{Accepted}

pub record PlainPrinted (reference : List ℕ) (found : ReferenceText) : Type 0 where
  -- what the writer gives of the text's own table, types and labels
  pub written : plain_output row_limit channel_types reference ≡ text_of (lent_of found)
  -- which is accepted as a text of the same types, table and labels
  pub read : (plain : ReferenceText) × (text_content (plain_output row_limit channel_types reference) ≡ sound plain)
      × (codes_of plain ≡ codes_of found) × (table_of plain ≡ table_of found) × (labels_of plain ≡ labels_of found)
  -- no `<` stands in it, and it is itself printed as it is
  pub plain_values : free less_than (plain_output row_limit channel_types reference) ≡ true
  pub again : plain_output row_limit channel_types (plain_output row_limit channel_types reference) ≡ plain_output row_limit channel_types reference
  -- draw, verify, panel and judge print the same of it as of the text
  pub drawn : draw_output total row_limit channel_types (plain_output row_limit channel_types reference) ≡ draw_output total row_limit channel_types reference
  pub verified : (record_text : List ℕ) → verify_output total row_limit channel_types (plain_output row_limit channel_types reference) record_text
      ≡ verify_output total row_limit channel_types reference record_text
  pub shown : (record_text : List ℕ) → panel_output total row_limit channel_types (plain_output row_limit channel_types reference) record_text
      ≡ panel_output total row_limit channel_types reference record_text
  pub judged : (record_text readings : List ℕ) → judge_output total row_limit channel_types (plain_output row_limit channel_types reference) record_text readings
      ≡ judge_output total row_limit channel_types reference record_text readings
  -- a text in which no `<` stands is printed as it is
  pub own : free less_than reference ≡ true → plain_output row_limit channel_types reference ≡ reference

plain-printed : (reference : List ℕ) (found : ReferenceText) → text_content reference ≡ sound found → PlainPrinted reference found
plain-printed reference found is =
    let (plain, text, within) = plain-accepted row_limit channel_types reference found is house_sound in
    record {
      written = plain_sound row_limit channel_types reference found is plain text ∙ sym (ap (written_text channel_types) text);
      read = plain-read row_limit channel_types reference found is house_sound house_short (omega arith);
      plain_values = plain_values row_limit channel_types reference found is house_sound;
      again = plain_again row_limit channel_types reference found is house_sound house_short (omega arith);
      drawn = plain-drawn total row_limit channel_types house_sound house_short (omega arith) reference found is;
      verified = plain_verified total row_limit channel_types house_sound house_short (omega arith) reference found is;
      shown = plain_shown total row_limit channel_types house_sound house_short (omega arith) reference found is;
      judged = plain-judged total row_limit channel_types house_sound house_short (omega arith) reference found is;
      own = plain-own row_limit channel_types reference found is house_sound;
    }

-- ---- R1

module _ {M : Type 1} {𝓤 : Ura M} (𝓛 : Logic 𝓤) (𝓜 : Model 𝓤 𝓛.H) (𝓡 : Running 𝓤 𝓛.H 𝓜) where
  pub record ReferenceWriter : Type 1 where
    -- what the code answers and leaves, which refusals there are, and in which order: 8; row by row 3, 4, 5; 13
    pub of_calls : WriterCalls 𝓛 𝓜 𝓡
    pub listed : (lent : Lent) (places : ℕ) → WriterListed lent places
    pub order : (lent : Lent) (places : ℕ) → WriterRefused lent places
    -- labels are lent as their bytes, one after another, with the index at which each ends
    pub labels_lent : (labels : List (List ℕ)) → labels_from (labels_joined labels) 0 (ends_from 0 labels) ≡ labels
    -- what is accepted gives a text that reads as what is lent
    pub read_back : (lent : Lent) (places : ℕ) → (writing lent places).outcome ≡ Accepted
        → (writing lent places ≡ written (length (text_of lent))) × ReadBack lent (text_of lent)
    pub exactly : (lent : Lent) → WrittenExactly lent
    pub own : (text : List ℕ) (found : ReferenceText) → text_content text ≡ sound found → OwnText text found
    -- and no text is longer than one that is read
    pub lengths : (lent : Lent) → WrittenLength lent
    -- of a refused text plain prints `NO`, number, line
    pub refused_printed : (reference : List ℕ) (number line : ℕ) → text_content reference ≡ faulty number line
        → plain_output row_limit channel_types reference ≡ print_refusal number line
    pub printed : (reference : List ℕ) (found : ReferenceText) → text_content reference ≡ sound found → PlainPrinted reference found

  pub promise_R1 : ReferenceWriter
  promise_R1 =
      record {
        of_calls = writer_calls 𝓛 𝓜 𝓡;
        listed = writer_listed;
        order = writer_refused;
        labels_lent = lent_labels;
        read_back = read-back;
        exactly = written_exactly;
        own = own-text;
        lengths = written-length;
        refused_printed = plain_faulty row_limit channel_types;
        printed = plain-printed;
      }
