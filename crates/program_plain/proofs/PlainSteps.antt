-- A reference text whose values are printed as plain ones.
--     parsed_table     what is read of the text
--     parsed_start     the labels of an accepted text stand where its rows start
--     plain_put        where its labels are gathered, and what it lends is written, that is what plain prints
--     plain_written    so it is always written
--     printed_over     what is printed over a slice as it was
use Prim.Native.Nat.{ℕ, ◌*◌, ◌≤◌, ◌<◌}
use mathlib.Core.Path.{◌≡◌, refl, sym, ap, ap₂, subst, ◌∙◌}
use mathlib.Core.List.{List}
use native.Mathlib.Omega.{arith}
use lib.IntN.{ℤ}
use lib.ListN.{length, get_or, take, take-append-drop}
use Rattle.refusal.specs.Outcome.{number_of, outcome_of, refusal_outcome, Accepted}
use Rattle.refusal.specs.declared.Refusal.{Refusal}
use Rattle.std.specs.Prelude.{Result, Ok, Err}
use Rattle.limits.specs.Limits.{row_limit, place_limit}
use Rattle.lent.specs.Filled.{filled}
use Rattle.lent.specs.Clauses.{written, text_outcome, TextWritten}
use Rattle.lent.specs.ContractLaws.{text_fits}
use Rattle.printing.specs.Clauses.{Put}
use Rattle.printing.specs.ContractLaws.{put_as}
use Rattle.channel.specs.Channel.{channel_types}
use Rattle.channel.specs.ChannelLaws.{house_sound}
use Rattle.channel.specs.ContractLaws.{house_short}
use Rattle.reference_rows.specs.ReferenceText.{ReferenceText, row_count, labels_of}
use Rattle.reference_rows.specs.Rows.{Content, sound, row_start}
use Rattle.reference.specs.Clauses.{Parsed, ReferenceOutcome}
use Rattle.reference.specs.Printing.{print_text, Within}
use Rattle.reference.specs.PrintedLaws.{text_most}
use Rattle.reference.proofs.ReadSteps.{parsed_within, read_whole_lem, read-filled}
use Rattle.reference_write.specs.Labels.{labels_joined, ends_from}
use Rattle.reference_write.specs.Writing.{Lent, lent_text}
use Rattle.reference_write.specs.Held.{lent_of}
use Rattle.reference_write.specs.Clauses.{written_text, content_written, reference_written}
use Rattle.program_lines.proofs.LineSteps.{filled_put}
use Rattle.program_record.proofs.ReadSteps.{TableRead, RowsRead, table-read}
use Rattle.program_plain.specs.Output.{plain_output}
use Rattle.program_plain.specs.OutputLaws.{plain_sound}
use Rattle.program_plain.specs.Clauses.{plain_room, labels_at, LabelsStart, Gathered, PlainWritten}
use Rattle.program_plain.specs.ContractLaws.{labels-start, labels-found}

-- ---- the text as it is read

module _ {text : List ℕ} {table : List ℤ} {starts : List ℕ} {r : ReferenceOutcome} (p : Parsed row_limit channel_types text table starts r) where
  own-filled : table ≡ filled 0 (r.m * r.n) table table
  unfolding filled
  own-filled = sym (take-append-drop (r.m * r.n) table)

  pub parsed_table : place_limit ≤ length table → TableRead text r table
  parsed_table long =
      table-read table (sym (read_whole_lem p place_limit (parsed_within p).1)) (own-filled ∙ read-filled p table) long

-- ---- what it lends

-- two lendings with the same parts
lent_same : {rows rows' : List ℤ} {m m' n n' : ℕ} {codes codes' labels labels' ends ends' : List ℕ} → rows ≡ rows' → m ≡ m' → n ≡ n'
    → codes ≡ codes' → labels ≡ labels' → ends ≡ ends'
    → ◌≡◌ {A = Lent} (record { rows = rows; m = m; n = n; codes = codes; labels = labels; ends = ends })
    (record { rows = rows'; m = m'; n = n'; codes = codes'; labels = labels'; ends = ends' })
lent_same rows m n codes labels ends = cc

module _ {text : List ℕ} {table : List ℤ} {starts : List ℕ} {r : ReferenceOutcome} (p : Parsed row_limit channel_types text table starts r)
    (read : RowsRead text r table) where
  rows_are : r.m ≡ row_count read.found
  rows_are = ap (λ (x : ReferenceOutcome). x.m) read.answer

  lines_are : (k : ℕ) → k < row_count read.found → get_or starts k 0 ≡ row_start read.found text k
  lines_are = p.lines read.found read.is

  pub parsed_start : LabelsStart text starts r.m
  parsed_start = rw rows_are (labels-start channel_types text read.found read.is starts lines_are)

  parsed_labels : labels_at text starts r.m ≡ labels_of read.found
  parsed_labels = ap (labels_at text starts) rows_are ∙ labels-found channel_types text read.found read.is starts lines_are

  module _ {bytes ends : List ℕ} {size : ℕ} (g : Gathered (labels_at text starts r.m) bytes r.m ends size) where
    -- what is handed to the writer
    abbrev handed : Lent
    handed =
        record {
          rows = take (r.m * r.n) table;
          m = r.m;
          n = r.n;
          codes = take r.n r.codes;
          labels = take size bytes;
          ends = take r.m ends;
        }

    handed_is : handed ≡ lent_of read.found
    handed_is =
        lent_same read.first rows_are (ap (λ (x : ReferenceOutcome). x.n) read.answer) read.typed
        (g.all_bytes ∙ ap labels_joined parsed_labels) (g.all_ends ∙ ap (ends_from 0) parsed_labels)

    module _ (plain : ReferenceText) (text_is : lent_text row_limit channel_types (lent_of read.found) ≡ sound plain)
        (within : Within row_limit channel_types plain) (out : List ℕ) (room : plain_room ≤ length out) where
      lent_is : lent_text row_limit channel_types handed ≡ sound plain
      lent_is = ap (lent_text row_limit channel_types) handed_is ∙ text_is

      plain_room_lem : length (print_text channel_types plain) ≤ length out
      plain_room_lem = omega (arith, text_most channel_types house_sound house_short row_limit within, within.all_rows.most)

      module _ {w : TextWritten} (answered : w ≡ reference_written row_limit channel_types handed (length out)) where
        plain-written : w ≡ written (length (print_text channel_types plain))
        unfolding reference_written
        plain-written =
            answered ∙ ap (λ (c : Content). content_written channel_types c (length out)) lent_is
            ∙ text_fits (print_text channel_types plain) (length out) plain_room_lem

        pub plain_put : {out' : List ℕ}
            → out' ≡ filled (number_of w.outcome) w.length (written_text channel_types (lent_text row_limit channel_types handed)) out
            → Put (plain_output row_limit channel_types text) out 0 out' w.length
        plain_put {out' = out'} f =
            let printed = print_text channel_types plain in
            let after : out' ≡ filled 0 (length printed) printed out =
            f ∙ ap₂ (λ (x : TextWritten) (c : Content). filled (number_of x.outcome) x.length (written_text channel_types c) out) plain-written lent_is in
            let put : Put printed out 0 out' (length printed) = rw after (filled_put printed out plain_room_lem) in
            put_as put (sym (plain_sound row_limit channel_types text read.found read.is plain text_is))
            (ap (λ (x : TextWritten). x.length) (sym plain-written))

        -- what is lent is always written
        pub plain_written : (a : Result ℕ Refusal) {out' : List ℕ} → text_outcome a ≡ w
            → out' ≡ filled (number_of (outcome_of a)) (text_outcome a).length (written_text channel_types (lent_text row_limit channel_types handed)) out
            → PlainWritten text out out' a
        plain_written (Ok bytes) {out'} is f =
            let put = plain_put {out' = out'} (f ∙ ap (λ (x : TextWritten). filled (number_of x.outcome) x.length (written_text channel_types (lent_text row_limit channel_types handed)) out) is) in
            rw (sym is) at put
        plain_written (Err r) is f =
            let accepted : refusal_outcome r ≡ Accepted = ap (λ (x : TextWritten). x.outcome) (is ∙ plain-written) in
            let z : ◌≡◌ {A = ℕ} 0 1 = cc in
            absurd (omega arith)

-- what is printed over a slice as it was
pub printed_over : {printed output out₀ out out' : List ℕ} {r : ℕ} → Put printed out 0 out' r → out ≡ out₀ → output ≡ printed → Put output out₀ 0 out' r
printed_over {printed} {output} {out₀} {out} {out'} {r} f same is = put_as (subst (λ (o : List ℕ). Put printed o 0 out' r) same f) (sym is) refl
