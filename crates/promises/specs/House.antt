-- What a text is, for the total, the row limit and the types of the calls.
--     text_content text           a reference text: refused with number and line, or accepted
--     lent_content lent           what is lent to the writer: refused with number and line, or the text of it
--     text_form text              a record: faulty at a line, or in form
--     against reference text     the record, read against the reference text
use Rattle.std.specs.Prelude.{ℕ, List}
use Rattle.limits.specs.Limits.{row_limit, total}
use Rattle.channel.specs.Channel.{channel_types}
use Rattle.reference_rows.specs.Rows.{Content}
use Rattle.reference.specs.Reference.{content}
use Rattle.reference_write.specs.Writing.{Lent, lent_text}
use Rattle.record_form.specs.Record.{Form, Record, form}
use Rattle.program_record.specs.Against.{record_against}
use Rattle.record_read.specs.Clauses.{EnvelopeRead}

abbrev pub text_content : List ℕ → Content
text_content = content row_limit channel_types

abbrev pub lent_content : Lent → Content
lent_content = lent_text row_limit channel_types

abbrev pub text_form : List ℕ → Form Record
text_form = form row_limit channel_types

abbrev pub against : List ℕ → List ℕ → EnvelopeRead
against = record_against total row_limit channel_types
