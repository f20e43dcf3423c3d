-- Demand 1, which refusal a reference text and a reading meet, for the total, the row limit and the types of the calls; part of
-- promise 1.4 in Refusals.
--     ReferenceRefused, reference_refused     reference text: 1, 2, then line by line 6, 3, 4, 5, then 6, last 7
--     ReadingRefused, reading-refused         reading: 8, 1, 3, 10, 4
use Rattle.std.specs.Prelude.{◌*◌, ◌<◌, ◌≤◌, ℕ, ◌≡◌, false, true, List, [], ◌∷◌, length}
use Rattle.std.proofs.Common.{◌∙◌, ap, arith}
use Rattle.std.proofs.Math.Option.{none, some}
use Rattle.refusal.specs.Number.{heading, label_repeated, line_form, outside_limits, row_count_number, table_short, tag_differs, text_length, value_range}
use Rattle.refusal.specs.Outcome.{refused, refused_at}
use Rattle.limits.specs.Limits.{channel_limit, row_limit, text_limit, total}
use Rattle.text.specs.Parts.{cut, line_end, text_within}
use Rattle.label.specs.RowLabel.{label_used}
use Rattle.channel.specs.Channel.{channel_types}
use Rattle.channel.specs.ChannelLaws.{house_sound}
use Rattle.value.specs.Values.{values_in_range}
use Rattle.heading.specs.Heading.{heading_of}
use Rattle.reading_line.specs.Reading.{Reading, reading_of, tags_agree}
use Rattle.reference_row.specs.Row.{Row, row_of}
use Rattle.reference_rows.specs.ReferenceText.{ReferenceText, channel_count, codes_of, first_row_line, labels_of, row_count}
use Rattle.reference_rows.specs.Rows.{faulty, next_line, sound}
use Rattle.reference.specs.ContractLaws.{table_fits, table_too_short}
use Rattle.reference.specs.Clauses.{answer_of, reference_read, refused_reference, with_table}
use Rattle.reference.specs.Reference.{reference_word}
use Rattle.reference.specs.ReferenceLaws.{Begins}
use Rattle.reference.specs.RefusalLaws.{refuses_count, refuses_count_unended, refuses_empty, refuses_form, refuses_heading, refuses_headless, refuses_label, refuses_long, refuses_none, refuses_range, refuses_unended}
use Rattle.envelope.specs.Figures.{channel_codes, figures_known}
use Rattle.envelope.specs.declared.Figures.{Figures}
use Rattle.reading.specs.Verdict.{judged, refused_verdict}
use Rattle.reading.specs.VerdictLaws.{refuses_length, refuses_tag}
use Rattle.promises.specs.House.{text_content}
use Rattle.reading.specs.VerdictLaws as verdict-laws

-- `Begins row_limit channel_types found text parts`: the text begins with the heading and the rows of `found`, all within the limits, and
-- then has these parts between bytes 10
pub record ReferenceRefused (text : List ℕ) : Type 0 where
  -- 1
  pub empty_1 : text ≡ [] → text_content text ≡ faulty text_length 0
  pub long_1 : text_limit < length text → text_content text ≡ faulty text_length 0
  -- 2: a heading without byte 10, and one that is none
  pub unended_2 : 1 ≤ length text → length text ≤ text_limit → (line : List ℕ) → cut line_end text ≡ line ∷ [] → text_content text ≡ faulty heading 1
  pub heading_2 : 1 ≤ length text → length text ≤ text_limit → (line next : List ℕ) (parts : List (List ℕ)) → cut line_end text ≡ line ∷ next ∷ parts
      → heading_of reference_word channel_limit channel_types line ≡ none → text_content text ≡ faulty heading 1
  -- 6 for a row past the limit, whatever stands in it
  pub row_6 : (found : ReferenceText) (line next : List ℕ) (parts : List (List ℕ)) → Begins row_limit channel_types found text (line ∷ next ∷ parts)
      → row_limit ≤ row_count found → text_content text ≡ faulty row_count_number (next_line found)
  pub unended_row_6 : (found : ReferenceText) (b : ℕ) (part : List ℕ) → Begins row_limit channel_types found text ((b ∷ part) ∷ [])
      → row_limit ≤ row_count found → text_content text ≡ faulty row_count_number (next_line found)
  -- 3, 4, 5
  pub form_3 : (found : ReferenceText) (line next : List ℕ) (parts : List (List ℕ)) → Begins row_limit channel_types found text (line ∷ next ∷ parts)
      → row_count found < row_limit → row_of (channel_count found) line ≡ none → text_content text ≡ faulty line_form (next_line found)
  pub unended_3 : (found : ReferenceText) (b : ℕ) (part : List ℕ) → Begins row_limit channel_types found text ((b ∷ part) ∷ [])
      → row_count found < row_limit → text_content text ≡ faulty line_form (next_line found)
  pub range_4 : (found : ReferenceText) (line next : List ℕ) (parts : List (List ℕ)) → Begins row_limit channel_types found text (line ∷ next ∷ parts)
      → row_count found < row_limit → (row : Row) → row_of (channel_count found) line ≡ some row
      → values_in_range channel_types (codes_of found) row.values ≡ false → text_content text ≡ faulty value_range (next_line found)
  pub label_5 : (found : ReferenceText) (line next : List ℕ) (parts : List (List ℕ)) → Begins row_limit channel_types found text (line ∷ next ∷ parts)
      → row_count found < row_limit → (row : Row) → row_of (channel_count found) line ≡ some row
      → values_in_range channel_types (codes_of found) row.values ≡ true → label_used row.label (labels_of found) ≡ true
      → text_content text ≡ faulty label_repeated (next_line found)
  -- 6 for no row, at the line after the last
  pub none_6 : (found : ReferenceText) → Begins row_limit channel_types found text ([] ∷ []) → row_count found ≡ 0
      → text_content text ≡ faulty row_count_number (first_row_line found)
  -- 7 last: a refused text keeps its refusal, however short the lent table is
  pub kept : (number line : ℕ) → text_content text ≡ faulty number line → (places : ℕ)
      → reference_read row_limit channel_types text places ≡ refused_reference (refused_at number line)
  pub table_7 : (found : ReferenceText) → text_content text ≡ sound found → (places : ℕ) → places < row_count found * channel_count found
      → reference_read row_limit channel_types text places ≡ refused_reference (refused table_short)

pub reference_refused : (text : List ℕ) → ReferenceRefused text
unfolding reference_read
reference_refused text =
    record {
      empty_1 = λ e. ap text_content e ∙ refuses_empty row_limit channel_types;
      long_1 = refuses_long row_limit channel_types text;
      unended_2 = refuses_headless row_limit channel_types text;
      heading_2 = refuses_heading row_limit channel_types text;
      row_6 = λ found line next parts. refuses_count row_limit channel_types house_sound;
      unended_row_6 = λ found b part. refuses_count_unended row_limit channel_types house_sound;
      form_3 = λ found line next parts. refuses_form row_limit channel_types house_sound;
      unended_3 = λ found b part. refuses_unended row_limit channel_types house_sound;
      range_4 = λ found line next parts begins room row. refuses_range row_limit channel_types house_sound begins room;
      label_5 = λ found line next parts begins room row. refuses_label row_limit channel_types house_sound begins room;
      none_6 = λ found. refuses_none row_limit channel_types house_sound;
      kept = λ number line is places. ap (λ c. with_table places (answer_of c)) is ∙ table_fits places (answer_of (faulty number line)) (omega arith);
      table_7 = λ found is places short. ap (λ c. with_table places (answer_of c)) is ∙ table_too_short places (answer_of (sound found)) short;
    }

-- reading: 8, 1, 3, 10, 4
pub record ReadingRefused (f : Figures) (text : List ℕ) : Type 0 where
  pub figures_8 : figures_known total channel_types f ≡ false → judged total channel_types f text ≡ refused_verdict outside_limits 0
  pub length_1 : figures_known total channel_types f ≡ true → text_within text ≡ false → judged total channel_types f text ≡ refused_verdict text_length 0
  pub form_3 : figures_known total channel_types f ≡ true → text_within text ≡ true → reading_of f.n text ≡ none
      → judged total channel_types f text ≡ refused_verdict line_form 1
  pub tag_10 : figures_known total channel_types f ≡ true → text_within text ≡ true → (reading : Reading) → reading_of f.n text ≡ some reading
      → tags_agree channel_types (channel_codes f) reading.tags ≡ false → judged total channel_types f text ≡ refused_verdict tag_differs 1
  pub range_4 : figures_known total channel_types f ≡ true → text_within text ≡ true → (reading : Reading) → reading_of f.n text ≡ some reading
      → tags_agree channel_types (channel_codes f) reading.tags ≡ true → values_in_range channel_types (channel_codes f) reading.values ≡ false
      → judged total channel_types f text ≡ refused_verdict value_range 1

pub reading-refused : (f : Figures) (text : List ℕ) → ReadingRefused f text
reading-refused f text =
    record {
      figures_8 = verdict-laws.refuses_figures total channel_types f text;
      length_1 = refuses_length total channel_types f text;
      form_3 = verdict-laws.refuses_form total channel_types f text;
      tag_10 = λ within bytes reading is. refuses_tag total channel_types f text within bytes is;
      range_4 = λ within bytes reading is. verdict-laws.refuses_range total channel_types f text within bytes is;
    }
