-- Plain values: those of a text in which no `<` stands.
--     plain_value      a value of a plain text is the plain number that it reads as
--     free-plain       a text in which no `<` stands is accepted as a plain one
--     plain-free       no `<` stands in the printing of a plain text
--     plain-within     a row within the limits is so in plain values
use Rattle.std.specs.Prelude.{ℕ, ◌≡◌, true, ℤ, pos, get_or}
use Rattle.std.proofs.Math.Path.{refl, ap}
use Rattle.std.proofs.Common.{sym, ap₂, ◌∙◌, arith}
use Rattle.std.proofs.Math.Bool.{◌&&◌}
use mathlib.Core.List.{List, [], ◌∷◌, ◌++◌, map}
use Rattle.std.proofs.lemmas.List.{length-map}
use Rattle.std.proofs.Math.ListN.{get_or-map}
use Rattle.integers.specs.Tests.{both, clash}
use Rattle.lists.specs.Each.{Each, each_head, each_tail}
use Rattle.limits.specs.Limits.{channel_limit}
use Rattle.text.specs.Parts.{comma, line_end, free, all_free}
use Rattle.text.specs.PartsLaws.{cut_keeps_free, free-append, join_free}
use Rattle.text.specs.Lines.{print_lines}
use Rattle.number.specs.NumberLaws.{print-free}
use Rattle.label.specs.RowLabel.{is_row_label}
use Rattle.label.specs.RowLabelLaws.{row_label}
use Rattle.label.specs.LabelLaws.{label-free}
use Rattle.channel.specs.Channel.{Types}
use Rattle.channel.specs.ChannelLaws.{SoundTypes}
use Rattle.channel.specs.Clauses.{range_of}
use Rattle.value.specs.Value.{Written, number, below, less_than, reads, value_in_range, print_value}
use Rattle.value.specs.ValueLaws.{reads-within}
use Rattle.heading.specs.Heading.{print_heading}
use Rattle.heading.specs.HeadingLaws.{heading-free}
use Rattle.reference_row.specs.Row.{Row, no_row, print_row}
use Rattle.reference_row.specs.RowLaws.{row_fields_lem}
use Rattle.reference_rows.specs.ReferenceText.{ReferenceText, codes_of, rows_of, row_at}
use Rattle.reference_rows.specs.Rows.{sound}
use Rattle.reference.specs.Reference.{reference_word, content}
use Rattle.reference.specs.Printing.{print_text, RowWithin, Within}
use Rattle.reference.specs.ReferenceLaws.{word_label, accepted-lines, accepted-within}
use Rattle.reference_write.specs.Held.{plain_of, Plain}

-- ---- a value

pub plain_value : (found : ReferenceText) → Plain found → (i k : ℕ)
    → get_or (row_at found i).values k (number (pos 0)) ≡ number (reads (get_or (row_at found i).values k (number (pos 0))))
plain_value found plain i k =
    let values = (row_at found i).values in
    ap (λ (rows : List Row). get_or (get_or rows i no_row).values k (number (pos 0))) (sym plain)
    ∙ ap (λ (row : Row). get_or row.values k (number (pos 0))) (get_or-map plain_of (rows_of found) i no_row)
    ∙ get_or-map number (map reads values) k (pos 0) ∙ ap number (get_or-map reads values k (number (pos 0)))

-- ---- texts in which no `<` stands

free_values : (values : List Written) → all_free less_than (map print_value values) ≡ true → map number (map reads values) ≡ values
unfolding all_free free print_value
free_values [] h = refl
free_values (number z ∷ values) h =
    ap (λ (l : List Written). number z ∷ l)
    (free_values values (both (free less_than (print_value (number z))) (all_free less_than (map print_value values)) h).1)
free_values (below z ∷ values) h = clash h refl

free-row : (row : Row) → is_row_label row.label ≡ true → free less_than (print_row row) ≡ true → plain_of row ≡ row
unfolding all_free
free-row row labelled h =
    let fields = ap (all_free less_than) (sym (row_fields_lem row labelled)) ∙ cut_keeps_free comma less_than (print_row row) h in
    ap (λ (values : List Written). record { label = row.label; values = values })
    (free_values row.values (both (free less_than row.label) (all_free less_than (map print_value row.values)) fields).1)

-- a row with a row's label
abbrev Labelled : Row → Type 0
Labelled row = is_row_label row.label ≡ true

free-rows : (rows : List Row) (more : List (List ℕ)) → Each Labelled no_row rows → all_free less_than (map print_row rows ++ more) ≡ true
    → map plain_of rows ≡ rows
unfolding all_free
free-rows [] more labelled h = refl
free-rows (row ∷ rows) more labelled h =
    let parts = both (free less_than (print_row row)) (all_free less_than (map print_row rows ++ more)) h in
    ap₂ ◌∷◌ (free-row row (each_head Labelled no_row row rows labelled) parts.0)
    (free-rows rows more (each_tail Labelled no_row row rows labelled) parts.1)

free-after : (before parts : List (List ℕ)) → all_free less_than (before ++ parts) ≡ true → all_free less_than parts ≡ true
unfolding all_free
free-after [] parts h = h
free-after (part ∷ before) parts h = free-after before parts (both (free less_than part) (all_free less_than (before ++ parts)) h).1

pub free-plain : (limit : ℕ) (types : Types) (text : List ℕ) (found : ReferenceText) → content limit types text ≡ sound found
    → free less_than text ≡ true → Plain found
free-plain limit types text found e h =
    let lines = accepted-lines limit types text found e in
    let rows = map print_row (rows_of found) ++ ([] ∷ []) in
    free-rows (rows_of found) ([] ∷ []) (λ i l. ((accepted-within limit types text found e).all_rows.each i l).labelled)
    (free-after lines.0 rows (ap (all_free less_than) (sym lines.2) ∙ cut_keeps_free line_end less_than text h))

-- ---- the printing of plain texts

numbers-free : (numbers : List ℤ) → all_free less_than (map print_value (map number numbers)) ≡ true
unfolding all_free print_value
numbers-free [] = refl
numbers-free (z ∷ numbers) = ap₂ ◌&&◌ (print-free less_than refl refl z) (numbers-free numbers)

row-free : (row : Row) → is_row_label row.label ≡ true → free less_than (print_row (plain_of row)) ≡ true
unfolding all_free print_row
row-free row labelled =
    join_free comma less_than (row.label ∷ map print_value (map number (map reads row.values))) (λ e. omega arith)
    (ap₂ ◌&&◌ (label-free less_than row.label refl (row_label row.label labelled)) (numbers-free (map reads row.values)))

rows-free : (rows : List Row) → Each Labelled no_row rows → all_free less_than (map print_row (map plain_of rows)) ≡ true
unfolding all_free
rows-free [] labelled = refl
rows-free (row ∷ rows) labelled =
    ap₂ ◌&&◌ (row-free row (each_head Labelled no_row row rows labelled)) (rows-free rows (each_tail Labelled no_row row rows labelled))

lines-free : (lines : List (List ℕ)) → all_free less_than lines ≡ true → free less_than (print_lines lines) ≡ true
unfolding all_free free print_lines
lines-free [] h = refl
lines-free (line ∷ lines) h =
    let parts = both (free less_than line) (all_free less_than lines) h in
    free-append less_than line (line_end ∷ print_lines lines) ∙ ap₂ ◌&&◌ parts.0 (lines-free lines parts.1)

module _ (types : Types) (types_sound : SoundTypes types) where
  pub plain-free : (limit : ℕ) (found : ReferenceText) → Within limit types found → Plain found → free less_than (print_text types found) ≡ true
  unfolding all_free print_text
  plain-free limit found within plain =
      let rows = ap (λ (l : List Row). all_free less_than (map print_row l)) (sym plain)
      ∙ rows-free (rows_of found) (λ i l. (within.all_rows.each i l).labelled) in
      lines-free (print_heading reference_word types (codes_of found) ∷ map print_row (rows_of found))
      (ap₂ ◌&&◌ (heading-free types types_sound reference_word channel_limit word_label less_than refl (λ e. omega arith) (codes_of found) within.heading) rows)

  -- ---- their ranges

  pub plain-within : (codes : List ℕ) (row : Row) → RowWithin types codes row → RowWithin types codes (plain_of row)
  plain-within codes row within =
      record {
        labelled = within.labelled;
        complete = length-map (map reads row.values) number ∙ length-map row.values reads ∙ within.complete;
        each_in_range = λ k l.
            let value = get_or row.values k (number (pos 0)) in
            let range = range_of types (get_or codes k 0) in
            let is = get_or-map number (map reads row.values) k (pos 0) ∙ ap number (get_or-map reads row.values k (number (pos 0))) in
            let ends = reads-within types types_sound (get_or codes k 0) value (within.each_in_range k l) in
            ap (value_in_range range) is ∙ ap₂ ◌&&◌ ends.0 ends.1;
      }
