-- What plain prints of a reference text, for any row limit and table of types: the text that the writer gives of its table, its types and its
-- labels, so that each value is plain.
--     lent_output types content              what is printed of the text of what is lent
--     content_output limit types content     what is printed of a reference text
--     plain_output limit types reference     what the program prints
use Rattle.std.specs.Prelude.{ℕ, List}
use Rattle.channel.specs.Channel.{Types}
use Rattle.reference_rows.specs.Rows.{Content, faulty, sound}
use Rattle.reference.specs.Reference.{content}
use Rattle.reference.specs.Printing.{print_text}
use Rattle.reference_write.specs.Writing.{lent_text}
use Rattle.reference_write.specs.Held.{lent_of}
use Rattle.program_lines.specs.Lines.{print_refusal}

-- what an accepted text lends is itself accepted (`plain-accepted`)
abbrev pub lent_output : Types → Content → List ℕ
lent_output types (faulty number line) = print_refusal number line
lent_output types (sound plain) = print_text types plain

abbrev pub content_output : ℕ → Types → Content → List ℕ
content_output limit types (faulty number line) = print_refusal number line
content_output limit types (sound found) = lent_output types (lent_text limit types (lent_of found))

unfoldable pub plain_output : ℕ → Types → List ℕ → List ℕ
plain_output limit types reference = content_output limit types (content limit types reference)
