-- Document 02, job 1: a table, its types and its labels as a reference text, for any row limit and table of types. Labels are lent
-- as their bytes, one label after another, and the index at which each ends.
--     Lent                            what is lent: rows, m, n, codes, labels and their ends
--     lent_table rows m n codes ..     the same of its parts
--     labels_lent lent                 the labels that are lent
--     lent_within limit types lent     8 is not met
--     plain_row label numbers          a row of plain values
--     plain_rows n labels numbers      a row of n plain values for each label
--     text_from types so_far rows       the text so far and these rows after it, tested row by row
--     lent_text limit types lent       the text of what is lent, or the first refusal, 13 apart
use Rattle.std.specs.Prelude.{ℕ, Bool, ◌&&◌, List, [], ◌∷◌, map, eqb, ℤ, length, take, drop}
use Rattle.refusal.specs.Number.{line_form, outside_limits}
use Rattle.refusal.specs.Outcome.{require}
use Rattle.label.specs.RowLabel.{is_row_label}
use Rattle.channel.specs.Channel.{Types}
use Rattle.value.specs.Value.{number}
use Rattle.reference_row.specs.Row.{Row}
use Rattle.reference_rows.specs.ReferenceText.{ReferenceText, of_heading}
use Rattle.reference_rows.specs.Rows.{Content, faulty, sound, next_line, row_after}
use Rattle.typed_rows.specs.Given.{given_within}
use Rattle.reference_write.specs.Labels.{labels_from, ends_reach}

-- `labels` has the bytes of the labels, one label after another
pub record Lent : Type 0 where
  pub rows : List ℤ
  pub m : ℕ
  pub n : ℕ
  pub codes : List ℕ
  pub labels : List ℕ
  pub ends : List ℕ

abbrev pub lent_table : List ℤ → ℕ → ℕ → List ℕ → List ℕ → List ℕ → Lent
lent_table rows m n codes labels ends = record { rows = rows; m = m; n = n; codes = codes; labels = labels; ends = ends }

abbrev pub labels_lent : Lent → List (List ℕ)
labels_lent lent = labels_from lent.labels 0 lent.ends

-- rows and codes within their limits; one end for each row, none below the one before it, the last one the number of bytes
abbrev pub lent_within : ℕ → Types → Lent → Bool
lent_within limit types lent =
    given_within limit types lent.rows lent.m lent.n lent.codes
    && (eqb (length lent.ends) lent.m && ends_reach 0 lent.ends (length lent.labels))

abbrev pub plain_row : List ℕ → List ℤ → Row
plain_row label numbers = record { label = label; values = map number numbers }

unfoldable pub plain_rows : ℕ → List (List ℕ) → List ℤ → List Row
plain_rows n [] numbers = []
plain_rows n (label ∷ labels) numbers = plain_row label (take n numbers) ∷ plain_rows n labels (drop n numbers)

-- row by row 3, then 4 and 5, at the line that the row would have; each row has a value for each code
unfoldable pub text_from : Types → ReferenceText → List Row → Content
text_from types so_far [] = sound so_far
text_from types so_far (row ∷ rows) =
    require (is_row_label row.label) (faulty line_form (next_line so_far)) (λ _.
    row_after types so_far row (λ found.
    text_from types found rows))

-- 8, then row by row
unfoldable pub lent_text : ℕ → Types → Lent → Content
lent_text limit types lent =
    require (lent_within limit types lent) (faulty outside_limits 0) (λ _.
    text_from types (of_heading (take lent.n lent.codes)) (plain_rows lent.n (labels_lent lent) lent.rows))
