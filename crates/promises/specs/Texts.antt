-- Demand 2, the texts: plain numbers, reference texts and their labels, for the row limit and the types of the calls.
--     promise_2_6     plain numbers, printed and read (`PlainNumbers`)
--     Values          a value as it is written, its range, and what it reads as
--     AcceptedText    what an accepted reference text is and gives
--     promise_2_7     what a value, a heading, a row and a reference text are (`ReferenceTexts`)
--     promise_2_8     the label of a row as a part of the text (`LabelsOfRows`)
use Rattle.std.specs.Prelude.{◌*◌, ◌+◌, ◌-◌, ◌/◌, ◌<◌, ◌≤◌, ℕ, ◌≡◌, refl, ◌&&◌, true, List, ◌++◌, ◌∷◌, map, leb, pos, ℤ, drop, get_or, length, take, ◌⊎◌}
use Rattle.std.proofs.Common.{◌∙◌, ap, subst, sym, le-leb, inl, inr, arith}
use Rattle.std.proofs.Math.Bool.{and-false}
use Rattle.std.proofs.Math.Option.{some}
use Rattle.std.proofs.lemmas.Bool.{lt-leb}
use Rattle.std.specs.Int.Signed.{le_z}
use Rattle.lists.specs.Padded.{padded}
use Rattle.limits.specs.Limits.{channel_limit, row_limit, text_limit}
use Rattle.geometry.specs.Table.{rows_within}
use Rattle.text.specs.Lines.{print_lines}
use Rattle.text.specs.Parts.{comma, join}
use Rattle.number.specs.Number.{plain, print}
use Rattle.number.specs.NumberLaws.{plain-print, print-plain}
use Rattle.label.specs.Label.{is_label, label_bytes}
use Rattle.label.specs.RowLabel.{is_row_label}
use Rattle.channel.specs.Channel.{channel_types, tag_of, type_of}
use Rattle.channel.specs.ChannelLaws.{SoundTypes, house_sound}
use Rattle.channel.specs.declared.Range.{Range}
use Rattle.value.specs.Value.{Written, below, less_than, number, print_value, reads, value_in_range, value_of}
use Rattle.value.specs.ValueLaws.{print-value, value-print}
use Rattle.heading.specs.Heading.{CodesWithin, heading_of, print_heading}
use Rattle.heading.specs.HeadingLaws.{heading_printed, printed-heading}
use Rattle.reference_row.specs.Row.{Row, print_row, row_of}
use Rattle.reference_row.specs.RowLaws.{printed-row, row_printed}
use Rattle.reference_rows.specs.ReferenceText.{ReferenceText, channel_count, codes_of, label_at, row_at, row_count, rows_of, table_of}
use Rattle.reference_rows.specs.Rows.{faulty, row_start, sound}
use Rattle.reference.specs.ContractLaws.{table_fits}
use Rattle.reference.specs.Clauses.{answer_of, reference_read, with_table}
use Rattle.reference.specs.LineLaws.{label_in-text, label_is, label_some}
use Rattle.reference.specs.Printing.{Within, print_text}
use Rattle.reference.specs.Reference.{reference_word}
use Rattle.reference.specs.ReferenceLaws.{accepted-labels, accepted-printed, accepted-rows, printed-accepted}
use Rattle.reference.specs.TableLaws.{table_at, table_in_range, table_length}
use Rattle.reference_label.specs.Clauses.{label_in, label_part, no_part}
use Rattle.reference_label.specs.declared.Part.{Part}
use Rattle.reference_table.specs.AcceptedTable.{accepted-table}
use Rattle.promises.specs.House.{text_content}
use Rattle.refusal.specs.Outcome.{Accepted}

-- ---- 2.6

pub record PlainNumbers : Type 0 where
  -- reading what was printed gives the number, printing what was read gives the bytes
  pub read_printed : (z : ℤ) → plain (print z) ≡ some z
  pub printed_read : (l : List ℕ) (z : ℤ) → plain l ≡ some z → print z ≡ l

pub promise_2_6 : PlainNumbers
promise_2_6 = record { read_printed = plain-print; printed_read = print-plain }

-- ---- 2.7

-- a value is plain, or `<` and a plain number; `<v` is asked to be from 1 to the high and reads as the whole part of v/2
pub record Values : Type 0 where
  pub printed_number : (z : ℤ) → print_value (number z) ≡ print z
  pub printed_below : (z : ℤ) → print_value (below z) ≡ less_than ∷ print z
  pub read_printed : (v : Written) → value_of (print_value v) ≡ some v
  pub printed_read : (l : List ℕ) (v : Written) → value_of l ≡ some v → print_value v ≡ l
  pub range_of_number : (range : Range) (z : ℤ) → value_in_range range (number z) ≡ (le_z range.low z && le_z z range.high)
  pub range_of_below : (range : Range) (z : ℤ) → value_in_range range (below z) ≡ (le_z (pos 1) z && le_z z range.high)
  pub number_reads : (z : ℤ) → reads (number z) ≡ z
  pub below_reads : (v : ℕ) → reads (below (pos v)) ≡ pos (v / 2)

values : Values
unfolding print_value
values =
    record {
      printed_number = λ z. refl;
      printed_below = λ z. refl;
      read_printed = value-print;
      printed_read = print-value;
      range_of_number = λ range z. refl;
      range_of_below = λ range z. refl;
      number_reads = λ z. refl;
      below_reads = λ v. refl;
    }

-- what an accepted text gives; rows and channels count from 0
pub record AcceptedText (text : List ℕ) (found : ReferenceText) : Type 0 where
  -- the text is the printing of a heading and rows within the limits
  pub printed : (text ≡ print_text channel_types found) × Within row_limit channel_types found × (1 ≤ length text) × (length text ≤ text_limit)
  -- m and n, and no label twice
  pub counts : (1 ≤ row_count found) × (row_count found ≤ row_limit) × (1 ≤ channel_count found) × (channel_count found ≤ channel_limit)
  pub labels_differ : (i j : ℕ) → i < j → j < row_count found → label_at found i ≡ label_at found j → ⊥
  -- what reading answers where the lent table is long enough
  pub answered : (places : ℕ) → row_count found * channel_count found ≤ places
      → reference_read row_limit channel_types text places
      ≡ record { outcome = Accepted; m = row_count found; n = channel_count found; codes = padded channel_limit (codes_of found) }
  -- the table holds what the values read as, row by row, each within its type's range
  pub table_length : length (table_of found) ≡ row_count found * channel_count found
  pub table_at : (i k : ℕ) → i < row_count found → k < channel_count found
      → get_or (table_of found) (i * channel_count found + k) (pos 0) ≡ reads (get_or (row_at found i).values k (number (pos 0)))
  pub table_in_range : (i k : ℕ) → i < row_count found → k < channel_count found
      → (le_z (type_of channel_types (get_or (codes_of found) k 0)).low (get_or (table_of found) (i * channel_count found + k) (pos 0)) ≡ true)
      × (le_z (get_or (table_of found) (i * channel_count found + k) (pos 0)) (type_of channel_types (get_or (codes_of found) k 0)).high ≡ true)
  -- no drawing and no check of it is met by 8, whatever follows it in the lent table
  pub table_within : (more : List ℤ) → rows_within row_limit (table_of found ++ more) (row_count found) (channel_count found) ≡ true

pub record ReferenceTexts : Type 0 where
  pub each_value : Values
  -- each known code has one tag and each tag one code
  pub types_sound : SoundTypes channel_types
  -- a heading is `REF`, n and n tags, a row is its label and its values, a text is its lines, each with byte 10
  pub heading_is : (codes : List ℕ) → print_heading reference_word channel_types codes
      ≡ join comma (reference_word ∷ print (pos (length codes)) ∷ map (tag_of channel_types) codes)
  pub row_is : (row : Row) → print_row row ≡ join comma (row.label ∷ map print_value row.values)
  pub text_is : (found : ReferenceText)
      → print_text channel_types found ≡ print_lines (print_heading reference_word channel_types (codes_of found) ∷ map print_row (rows_of found))
  -- a heading and a row, printed and read
  pub heading_printed : (line codes : List ℕ) → heading_of reference_word channel_limit channel_types line ≡ some codes
      → print_heading reference_word channel_types codes ≡ line
  pub heading_read : (codes : List ℕ) → CodesWithin channel_limit channel_types codes
      → heading_of reference_word channel_limit channel_types (print_heading reference_word channel_types codes) ≡ some codes
  pub row_printed : (n : ℕ) (line : List ℕ) (row : Row) → row_of n line ≡ some row
      → (print_row row ≡ line) × (is_row_label row.label ≡ true) × (length row.values ≡ n)
  pub row_read : (n : ℕ) (row : Row) → is_row_label row.label ≡ true → length row.values ≡ n → row_of n (print_row row) ≡ some row
  -- a text is accepted exactly when it is the printing of a heading and rows within the limits, of at most 65,536 bytes
  pub accepted : (text : List ℕ) (found : ReferenceText) → text_content text ≡ sound found → AcceptedText text found
  pub accepts : (found : ReferenceText) → Within row_limit channel_types found → length (print_text channel_types found) ≤ text_limit
      → text_content (print_text channel_types found) ≡ sound found

pub promise_2_7 : ReferenceTexts
unfolding reference_read is_label label_bytes print_heading print_row print_text
promise_2_7 =
    record {
      each_value = values;
      types_sound = house_sound;
      heading_is = λ codes. refl;
      row_is = λ row. refl;
      text_is = λ found. refl;
      heading_printed = heading_printed channel_types house_sound reference_word channel_limit;
      heading_read = printed-heading channel_types house_sound reference_word channel_limit refl;
      row_printed = row_printed;
      row_read = λ n row labelled. printed-row row labelled n;
      accepted = λ text found is.
          record {
            printed = accepted-printed row_limit channel_types text found is house_sound;
            counts = accepted-rows row_limit channel_types text found is;
            labels_differ = accepted-labels row_limit channel_types text found is;
            answered = λ places fits. ap (λ c. with_table places (answer_of c)) is ∙ table_fits places (answer_of (sound found)) fits;
            table_length = table_length row_limit channel_types text found is;
            table_at = table_at row_limit channel_types text found is;
            table_in_range = λ i k l m. table_in_range row_limit channel_types text found is i k l m house_sound;
            table_within = accepted-table row_limit channel_types text found is house_sound;
          };
      accepts = λ found within. printed-accepted row_limit channel_types house_sound within;
    }

-- ---- 2.8

-- rows count from 1
pub record LabelsOfRows (text : List ℕ) (row : ℕ) : Type 0 where
  -- empty when the text is refused, 7 not tested, or there is no such row
  pub refused_text : (number line : ℕ) → text_content text ≡ faulty number line → label_part row_limit channel_types text row ≡ no_part
  pub no_row : (found : ReferenceText) → text_content text ≡ sound found → (row ≡ 0) ⊎ (row_count found < row) → label_part row_limit channel_types text row ≡ no_part
  -- else the part of the caller's text, not empty, at the start of the row's line, whose bytes are the label of the row
  pub is_part : (found : ReferenceText) → text_content text ≡ sound found → 1 ≤ row → row ≤ row_count found
      → let part = label_part row_limit channel_types text row in
      (part.start ≡ row_start found text (row - 1)) × (take part.length (drop part.start text) ≡ label_at found (row - 1)) × (1 ≤ part.length)
      × (part.start + part.length ≤ length text)

pub promise_2_8 : (text : List ℕ) (row : ℕ) → LabelsOfRows text row
unfolding label_part
promise_2_8 text row =
    record {
      refused_text = λ number line is. ap (label_in text row) is;
      no_row = λ found is outside. ap (label_in text row) is ∙ past found outside;
      is_part = λ found is low high.
          subst
          (λ (p : Part). (p.start ≡ row_start found text (row - 1)) × (take p.length (drop p.start text) ≡ label_at found (row - 1)) × (1 ≤ p.length)
          × (p.start + p.length ≤ length text))
          (sym (ap (label_in text row) is ∙ there found low high)) (
            refl,
            label_is row_limit channel_types text found is (row - 1) (omega arith),
            label_some row_limit channel_types text found is (row - 1) (omega arith),
            label_in-text row_limit channel_types text found is (row - 1) (omega arith),
          );
    }
  where
    past : (found : ReferenceText) → (row ≡ 0) ⊎ (row_count found < row) → label_in text row (sound found) ≡ no_part
    past found (inl h) = rw (lt-leb 1 row (omega arith))
    past found (inr h) = rw (lt-leb row (row_count found) h, and-false (leb 1 row))

    there : (found : ReferenceText) → 1 ≤ row → row ≤ row_count found
        → label_in text row (sound found) ≡ record { start = row_start found text (row - 1); length = length (label_at found (row - 1)) }
    there found low high = rw (le-leb 1 row low, le-leb row (row_count found) high)
