-- A reference text and the text of a record, from which verify, panel and judge start, for any total D, row limit and table of types. Each
-- text is an argument of its own. A `NO` counts lines in its own text, and is the whole output where it refuses a text other than a reading.
--     content_against D limit types text content     a record read against the rows and tags of a reference text, if that is accepted
--     record_against D limit types reference text    the same of the two texts: the first refusal of the two, or the envelope
--     unless_refused outcome output                  the refusal, or this output
--     of_figures read output                         the refusal of a record, or what is printed of its figures
use Rattle.std.specs.Prelude.{ℕ, List}
use Rattle.refusal.specs.Outcome.{refused_at, Outcome, Accepted, Refused}
use Rattle.channel.specs.Channel.{Types}
use Rattle.reference_rows.specs.ReferenceText.{codes_of, channel_count, row_count, table_of}
use Rattle.reference_rows.specs.Rows.{Content, faulty, sound}
use Rattle.reference.specs.Reference.{content}
use Rattle.envelope.specs.declared.Figures.{Figures}
use Rattle.record_read.specs.Clauses.{not_read, record_read, EnvelopeRead}
use Rattle.program_lines.specs.Lines.{print_refusal}

abbrev pub content_against : ℕ → ℕ → Types → List ℕ → Content → EnvelopeRead
content_against D limit types text (faulty number line) = not_read limit (refused_at number line)
content_against D limit types text (sound found) =
    record_read D limit types (table_of found) (row_count found) (channel_count found) (codes_of found) text

unfoldable pub record_against : ℕ → ℕ → Types → List ℕ → List ℕ → EnvelopeRead
record_against D limit types reference text = content_against D limit types text (content limit types reference)

abbrev pub unless_refused : Outcome → (Unit {0} → List ℕ) → List ℕ
unless_refused Accepted output = output tt
unless_refused (Refused r) output = print_refusal r.number r.line

abbrev pub of_figures : EnvelopeRead → (Figures → List ℕ) → List ℕ
of_figures read output = unless_refused read.outcome (λ _. output read.envelope.figures)
