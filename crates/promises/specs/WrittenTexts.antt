-- Request 1, the reference texts that are written, for the row limit and the types of the calls; part of promise R1 in WrittenReferences.
--     text_of lent                          what the buffer of an accepted call holds
--     ReadBack, read-back                  what is written, read
--     WrittenExactly, written_exactly      what is accepted, by the texts that reading accepts
--     OwnText, own-text                    an accepted text's own table, types and labels, written
--     WrittenLength, written-length        how long a text is
use Rattle.std.specs.Prelude.{◌*◌, ◌+◌, ◌-◌, ◌<◌, ◌≤◌, ℕ, ◌≡◌, refl, true, List, [], map, ◌↔◌, leb, drop, get_or, length, take}
use Rattle.std.proofs.Common.{◌∙◌, sym, arith}
use Rattle.std.proofs.Math.Path.{ap}
use Rattle.lists.specs.Padded.{padded}
use Rattle.refusal.specs.Number.{buffer_short}
use Rattle.refusal.specs.Outcome.{number_of, Accepted}
use Rattle.refusal.specs.OutcomeLaws.{each_answer}
use Rattle.limits.specs.Limits.{channel_limit, row_limit}
use Rattle.lent.specs.ContractLaws.{text_fits}
use Rattle.lent.specs.Clauses.{text_written, written, TextWritten}
use Rattle.text.specs.Parts.{free}
use Rattle.channel.specs.Channel.{channel_types}
use Rattle.channel.specs.ChannelLaws.{house_sound}
use Rattle.channel.specs.ContractLaws.{house_short}
use Rattle.value.specs.Value.{less_than}
use Rattle.reference_rows.specs.ReferenceText.{ReferenceText, label_at, rows_of}
use Rattle.reference_rows.specs.Rows.{Content, faulty, sound}
use Rattle.reference.specs.Clauses.{reference_read, values_in}
use Rattle.reference.specs.Printing.{Within, print_text}
use Rattle.reference.specs.PrintedLaws.{text_most, text_short}
use Rattle.reference_label.specs.Clauses.{label_part}
use Rattle.reference_write.specs.Clauses.{content_written, reference_written, written_text}
use Rattle.reference_write.specs.Held.{Holds, lent_of, plain_of}
use Rattle.reference_write.specs.HeldLaws.{held_exactly, own_holds, read_same, read-text, text_exactly, text_holds, text-label, text-read, text-within}
use Rattle.reference_write.specs.Writing.{Lent, labels_lent, lent_text}
use Rattle.promises.specs.House.{lent_content, text_content}
use Rattle.promises.specs.Listed.{apart}
use Rattle.promises.specs.Texts.{promise_2_7, promise_2_8}
use Rattle.promises.specs.WriterAnswers.{before_13, writing}
use Rattle.promises.specs.WriterRefusals.{writer_refused}

-- what the buffer of an accepted call holds
abbrev pub text_of : Lent → List ℕ
text_of lent = written_text channel_types (lent_content lent)

-- rows count from 0, those of label_part from 1
pub record ReadBack (lent : Lent) (text : List ℕ) : Type 0 where
  -- reading the text answers with the m, the n and the codes that are lent, where the table has room
  pub answered : (places : ℕ) → lent.m * lent.n ≤ places
      → reference_read row_limit channel_types text places
      ≡ record { outcome = Accepted; m = lent.m; n = lent.n; codes = padded channel_limit (take lent.n lent.codes) }
  -- and fills it with the rows that are lent
  pub table : values_in (text_content text) ≡ take (lent.m * lent.n) lent.rows
  -- and each row has the label that is lent
  pub labels : (i : ℕ) → i < lent.m → let part = label_part row_limit channel_types text (i + 1) in
      take part.length (drop part.start text) ≡ get_or (labels_lent lent) i []

pub record WrittenExactly (lent : Lent) : Type 0 where
  -- some buffer is taken exactly where an accepted text holds the rows, the codes and the labels that are lent (`Holds`)
  pub accepted : ((places : ℕ) × ((writing lent places).outcome ≡ Accepted))
      ↔ ((text : List ℕ) × (found : ReferenceText) × (text_content text ≡ sound found) × Holds found lent)
  -- and a text is the one that is written exactly where it is such a text and no `<` stands in it
  pub this_text : (text : List ℕ) (found : ReferenceText)
      → ((lent_content lent ≡ sound found) × (text ≡ print_text channel_types found))
      ↔ ((text_content text ≡ sound found) × Holds found lent × (free less_than text ≡ true))

-- of an accepted text, and of what is lent that it holds, as it holds what it lends itself
pub record OwnText (text : List ℕ) (found : ReferenceText) : Type 0 where
  pub lends : Holds found (lent_of found)
  -- what it holds is accepted, and the text that is written has its rows with each value as the plain number that it reads as
  pub accepted : (lent : Lent) → Holds found lent
      → (plain : ReferenceText) × (lent_content lent ≡ sound plain) × Holds plain lent × (rows_of plain ≡ map plain_of (rows_of found))
  pub written_whole : (lent : Lent) → Holds found lent → (places : ℕ) → 15654 ≤ places → (writing lent places).outcome ≡ Accepted
  -- where no `<` stands in it, its own bytes are written
  pub own_bytes : (lent : Lent) → Holds found lent → free less_than text ≡ true
      → (text_of lent ≡ text) × ((places : ℕ) → length text ≤ places → writing lent places ≡ written (length text))

-- no text is longer than one that is read, for any row limit up to 1,024, so that 13 meets no buffer of 15,654 places
pub record WrittenLength (lent : Lent) : Type 0 where
  pub most_bytes : (limit : ℕ) → limit ≤ 1024 → (found : ReferenceText) → lent_text limit channel_types lent ≡ sound found
      → (length (print_text channel_types found) ≤ 38 + 61 * lent.m) × (length (print_text channel_types found) ≤ 65536)
  pub room_enough : (places : ℕ) → 15654 ≤ places → number_of (writing lent places).outcome ≡ buffer_short → ⊥

-- ---- what is accepted

enough : row_limit ≤ 1024
enough = omega arith

accepted-text : (lent : Lent) (places : ℕ) → (writing lent places).outcome ≡ Accepted → (found : ReferenceText) × (lent_content lent ≡ sound found)
unfolding reference_written
accepted-text lent places = go (lent_content lent) refl
  where
    go : (c : Content) → lent_content lent ≡ c → (content_written channel_types c places).outcome ≡ Accepted → (found : ReferenceText) × (lent_content lent ≡ sound found)
    go (faulty number line) is e = apart (sym e)
    go (sound found) is e = (found, is)

bytes_most : (lent : Lent) (limit : ℕ) → limit ≤ 1024 → (found : ReferenceText) → lent_text limit channel_types lent ≡ sound found
    → (length (print_text channel_types found) ≤ 38 + 61 * lent.m) × (length (print_text channel_types found) ≤ 65536)
bytes_most lent limit most found is =
    let within = text-within limit channel_types lent found is in (
      omega (arith, text_most channel_types house_sound house_short limit within, (text_holds limit channel_types lent found is).row_count),
      text_short channel_types house_sound house_short limit within most,
    )

module _ (lent : Lent) (found : ReferenceText) (is : lent_content lent ≡ sound found) where
  text_is : text_of lent ≡ print_text channel_types found
  text_is = ap (written_text channel_types) is

  room_most : length (print_text channel_types found) ≤ 15654
  room_most = omega (arith, text_most channel_types house_sound house_short row_limit within, within.all_rows.most)
    where
      within : Within row_limit channel_types found
      within = text-within row_limit channel_types lent found is

  fits : (places : ℕ) → length (print_text channel_types found) ≤ places → writing lent places ≡ written (length (print_text channel_types found))
  fits places = (writer_refused lent places).else_written found is

  accepted_whole : (places : ℕ) → (writing lent places).outcome ≡ Accepted → writing lent places ≡ written (length (print_text channel_types found))
  unfolding reference_written
  accepted_whole places e =
      let text = print_text channel_types found in
      let answer : writing lent places ≡ text_written text places = ap (λ (c : Content). content_written channel_types c places) is in
      answer
      ∙ each_answer (λ (w : TextWritten). w.outcome ≡ Accepted → w ≡ written (length text)) (leb (length text) places) (λ _ other. apart (sym other)) (λ _ _. refl)
      (sym (ap (λ (w : TextWritten). w.outcome) answer) ∙ e)

  reads : ReadBack lent (print_text channel_types found)
  reads =
      let text = print_text channel_types found in
      let holds = text_holds row_limit channel_types lent found is in
      let read : text_content text ≡ sound found =
      text-read row_limit channel_types lent found is house_sound (bytes_most lent row_limit enough found is).1 in
      record {
        answered = λ places room.
            (promise_2_7.accepted text found read).answered places (rw (holds.row_count, holds.channels) room)
            ∙ rw (holds.row_count, holds.channels, holds.codes);
        table = ap values_in read ∙ holds.table;
        labels = λ i below.
            (let here : i + 1 - 1 ≡ i = omega arith in
            ((promise_2_8 text (i + 1)).is_part found read (omega arith) (omega (arith, holds.row_count))).1
            ∙ ap (label_at found) here ∙ text-label row_limit channel_types lent found is i);
      }

room_for : (lent : Lent) (places : ℕ) → 15654 ≤ places → number_of (writing lent places).outcome ≡ buffer_short → ⊥
unfolding reference_written
room_for lent places room = go (lent_content lent) refl
  where
    go : (c : Content) → lent_content lent ≡ c → number_of (content_written channel_types c places).outcome ≡ buffer_short → ⊥
    go (faulty number line) is e = before_13 lent number line is e
    go (sound found) is e =
        let text = print_text channel_types found in
        let whole = text_fits text places (omega (arith, room_most lent found is)) in
        omega (arith, ap (λ (w : TextWritten). number_of w.outcome) whole, e)

-- ---- the statements

pub read-back : (lent : Lent) (places : ℕ) → (writing lent places).outcome ≡ Accepted
    → (writing lent places ≡ written (length (text_of lent))) × ReadBack lent (text_of lent)
read-back lent places e =
    let (found, is) = accepted-text lent places e in
    rw (text_is lent found is) (accepted_whole lent found is places e, reads lent found is)

pub written_exactly : (lent : Lent) → WrittenExactly lent
written_exactly lent =
    let held = held_exactly row_limit enough channel_types house_sound house_short lent in
    record {
      accepted = (
        λ taken. held.0 (accepted-text lent taken.0 taken.1),
        λ text.
            let (found, is) = held.1 text in
            let places = length (print_text channel_types found) in
            (places, ap (λ (w : TextWritten). w.outcome) (fits lent found is places (omega arith))),
      );
      this_text = text_exactly row_limit enough channel_types house_sound house_short lent;
    }

pub own-text : (text : List ℕ) (found : ReferenceText) → text_content text ≡ sound found → OwnText text found
own-text text found read =
    record {
      lends = own_holds row_limit channel_types text found read;
      accepted = read-text row_limit channel_types text found read house_sound;
      written_whole = λ lent holds places room.
          let plain = read-text row_limit channel_types text found read house_sound lent holds in
          ap (λ (w : TextWritten). w.outcome) (fits lent plain.0 plain.1 places (omega (arith, room_most lent plain.0 plain.1)));
      own_bytes = λ lent holds none.
          let is = read_same row_limit channel_types text found read house_sound lent holds none in
          let bytes : text ≡ print_text channel_types found = (promise_2_7.accepted text found read).printed.0 in
          (text_is lent found is ∙ sym bytes, λ places room. rw bytes (fits lent found is places (rw (← bytes) room)));
    }

pub written-length : (lent : Lent) → WrittenLength lent
written-length lent = record { most_bytes = bytes_most lent; room_enough = room_for lent }
