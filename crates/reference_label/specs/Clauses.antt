-- What the two calls on the label of a row answer.
--     no_part                              what stands for a label that is not there
--     part_of answer                       where a label stands, as the code answers
--     part_found part                      what the code answers: no part where there is no label, which has a byte
--     label_in text row content            where the label of a row stands in the text, by what the text is
--     label_part limit types text row      where the label of a row, counted from 1, stands in the text
use Rattle.std.specs.Prelude.{ℕ, ◌-◌, cond, ◌&&◌, List, leb, length, Option, Some, None}
use Rattle.channel.specs.Channel.{Types}
use Rattle.reference_rows.specs.ReferenceText.{row_count, label_at}
use Rattle.reference_rows.specs.Rows.{Content, faulty, sound, row_start}
use Rattle.reference.specs.Reference.{content}
use Rattle.reference_label.specs.declared.Part.{Part}

abbrev pub no_part : Part
no_part = record { start = 0; length = 0 }

abbrev pub part_of : Option Part → Part
part_of (Some part) = part
part_of None = no_part

abbrev pub part_found : Part → Option Part
part_found part = cond (leb 1 part.length) (Some part) None

abbrev pub label_in : List ℕ → ℕ → Content → Part
label_in text row (faulty number line) = no_part
label_in text row (sound found) =
    cond (leb 1 row && leb row (row_count found))
    (record { start = row_start found text (row - 1); length = length (label_at found (row - 1)) }) no_part

unfoldable pub label_part : ℕ → Types → List ℕ → ℕ → Part
label_part limit types text row = label_in text row (content limit types text)
