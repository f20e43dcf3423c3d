-- Demand 2, records that are written, for the total, the row limit and the types of the calls.
--     AcceptedRecord       every accepted record, written
--     WrittenEnvelope      every envelope, written and read back
--     OwnEnvelopes         every envelope that is drawn or that the check gives
--     ProgramsTogether     the programs on an accepted reference text
--     promise_2_11         what is read gives its own bytes, what is written gives its own envelope (`RecordsWritten`)
use Rattle.std.specs.Prelude.{◌*◌, ◌+◌, ◌<◌, ◌≤◌, min, ℕ, ◌≡◌, true, ℤ, drop, length, take}
use mathlib.Core.List.{List, flat_map}
use Rattle.std.proofs.Common.{arith}
use Rattle.lists.specs.Each.{Each}
use Rattle.lists.specs.Padded.{padded}
use Rattle.refusal.specs.Number.{buffer_short, disagreement}
use Rattle.refusal.specs.Outcome.{number_of, refused, Accepted}
use Rattle.limits.specs.Limits.{budget_limit, channel_limit, row_limit, total}
use Rattle.lent.specs.Clauses.{not_written, written, TextWritten}
use Rattle.geometry.specs.Table.{rows_within}
use Rattle.checking.specs.Check.{checking}
use Rattle.drawing.specs.Draw.{drawing}
use Rattle.text.specs.EndedLines.{lines_with_ends}
use Rattle.text.specs.Parts.{text_within}
use Rattle.channel.specs.Channel.{channel_types, codes_known}
use Rattle.channel.specs.ChannelLaws.{house_sound}
use Rattle.reading_line.specs.Reading.{own_reading, print_reading}
use Rattle.reference_rows.specs.ReferenceText.{ReferenceText, channel_count, codes_of, label_at, row_at, row_count, table_of}
use Rattle.reference_rows.specs.Rows.{sound}
use Rattle.envelope.specs.Figures.{envelope_of, figures_known, figures_of, drawn_envelope, drawn_figures}
use Rattle.envelope.specs.declared.Envelope.{Envelope}
use Rattle.agreement.specs.Agreement.{all_zero, cleared}
use Rattle.agreement.specs.AgreementLaws.{drawn_cleared}
use Rattle.record_print.specs.Printed.{record_text}
use Rattle.record_read.specs.Clauses.{record_read, EnvelopeRead}
use Rattle.record_read.specs.ReadLaws.{accepted-read, accepting}
use Rattle.record_write.specs.Clauses.{record_written}
use Rattle.record_write.specs.WriteLaws.{writing-written}
use Rattle.record_write.proofs.AnswerLaws.{written-writing}
use Rattle.record.specs.DrawnLaws.{checked-writing, drawn_written}
use Rattle.record.specs.HouseLaws.{Arrays, house_drawn_read, house_most, house_refused, house_unread, house_written_read}
use Rattle.record.proofs.RoomLaws.{house_drawn_written, house_enough}
use Rattle.record.specs.TripLaws.{accepted_bytes, accepted-cleared, cleared-text, written-cleared}
use Rattle.program_lines.specs.Lines.{print_accepted, print_verdict, print_verdicts}
use Rattle.program_draw.specs.Output.{draw_budget, draw_output}
use Rattle.program_verify.specs.Output.{verify_output}
use Rattle.program_judge.specs.Output.{judge_output}
use Rattle.program_laws.specs.TripLaws.{draw_judged, draw_verified, rows_quiet}
use Rattle.promises.specs.House.{text_content}
use Rattle.reading.specs.Verdict.{Quiet}

abbrev read_back : List ℤ → ℕ → ℕ → List ℕ → List ℕ → EnvelopeRead
read_back = record_read total row_limit channel_types

abbrev writing : List ℤ → ℕ → Envelope → ℕ → TextWritten
writing = record_written total row_limit channel_types

abbrev text_of : Envelope → List ℕ
text_of = record_text channel_types

-- every accepted record
pub record AcceptedRecord (rows : List ℤ) (m n : ℕ) (codes text : List ℕ) : Type 0 where
  -- written to a buffer that holds it, it gives its own bytes
  pub own_bytes : text_of (read_back rows m n codes text).envelope ≡ text
  pub written_whole : (places : ℕ) → length text ≤ places → writing rows m (read_back rows m n codes text).envelope places ≡ written (length text)
  -- clearing the places past n changes nothing
  pub own_cleared : cleared (read_back rows m n codes text).envelope ≡ (read_back rows m n codes text).envelope

-- every envelope, handed over in its arrays
pub record WrittenEnvelope (rows : List ℤ) (m : ℕ) (e : Envelope) (places : ℕ) : Type 0 where
  -- once written, its record gives the envelope with places past n set to 0
  pub read_cleared : (writing rows m e places).outcome ≡ Accepted
      → read_back rows m e.figures.n e.figures.codes (text_of e) ≡ accepting (cleared e)
  -- places past n are not looked at
  pub cleared_written : length e.figures.codes ≡ channel_limit → length e.figures.ball.scaled_centre ≡ channel_limit
      → writing rows m (cleared e) places ≡ writing rows m e places
  pub cleared_bytes : length e.figures.codes ≡ channel_limit → length e.figures.ball.scaled_centre ≡ channel_limit
      → e.figures.n ≤ channel_limit → text_of (cleared e) ≡ text_of e
  -- 12 meets exactly an envelope whose record would be turned back
  pub refused_unread : number_of (writing rows m e places).outcome ≡ disagreement
      → (read_back rows m e.figures.n e.figures.codes (text_of e)).outcome ≡ Accepted → ⊥
  pub unread_refused : figures_known total channel_types e.figures ≡ true → rows_within row_limit rows m e.figures.n ≡ true
      → ((read_back rows m e.figures.n e.figures.codes (text_of e)).outcome ≡ Accepted → ⊥)
      → writing rows m e places ≡ not_written (refused disagreement)
  -- a record has at most 38 + 90 + 52 bytes and 12 for each row, so that 13 meets no buffer of so many places
  pub most_bytes : (writing rows m e places).outcome ≡ Accepted → length (text_of e) ≤ 38 + 90 + 52 + min m row_limit * 12
  pub room_enough : 38 + 90 + 52 + min m row_limit * 12 ≤ places → number_of (writing rows m e places).outcome ≡ buffer_short → ⊥

-- every envelope that is drawn, or that the check gives, of n channels of known codes
pub record OwnEnvelopes (rows : List ℤ) (m n : ℕ) (codes : List ℕ) : Type 0 where
  pub drawn_cleared : (budget : ℕ) → (drawing total row_limit rows m n budget).outcome ≡ Accepted
      → let e = drawn_envelope n (padded channel_limit codes) (drawing total row_limit rows m n budget) in cleared e ≡ e
  pub drawn_written : (budget : ℕ) → (drawing total row_limit rows m n budget).outcome ≡ Accepted
      → let e = drawn_envelope n (padded channel_limit codes) (drawing total row_limit rows m n budget) in
      (places : ℕ) → length (text_of e) ≤ places → writing rows m e places ≡ written (length (text_of e))
  pub drawn_room : (budget : ℕ) → (drawing total row_limit rows m n budget).outcome ≡ Accepted
      → let e = drawn_envelope n (padded channel_limit codes) (drawing total row_limit rows m n budget) in
      (places : ℕ) → 38 + 90 + 52 + row_limit * 12 ≤ places → writing rows m e places ≡ written (length (text_of e))
  pub drawn_read : (budget : ℕ) → (drawing total row_limit rows m n budget).outcome ≡ Accepted
      → let e = drawn_envelope n (padded channel_limit codes) (drawing total row_limit rows m n budget) in
      read_back rows m n (padded channel_limit codes) (text_of e) ≡ accepting e
  pub checked_written : (ws : List ℕ) → (checking total row_limit rows m n ws).outcome ≡ Accepted → (moves : ℕ) → moves ≤ budget_limit
      → (all : List ℕ) → take m all ≡ ws → all_zero (drop m all) ≡ true
      → let e = envelope_of (figures_of n (padded channel_limit codes) (checking total row_limit rows m n ws).ball moves) all in
      (places : ℕ) → length (text_of e) ≤ places → writing rows m e places ≡ written (length (text_of e))

-- of the programs, for every accepted reference text
pub record ProgramsTogether (reference : List ℕ) (found : ReferenceText) : Type 0 where
  -- what draw prints, verify answers by `OK`
  pub verified : verify_output total row_limit channel_types reference (draw_output total row_limit channel_types reference) ≡ print_accepted
  -- judge gives the verdicts against the drawn envelope
  pub judged_lines : (readings : List ℕ) → text_within readings ≡ true
      → judge_output total row_limit channel_types reference (draw_output total row_limit channel_types reference) readings
      ≡ print_verdicts total channel_types
      (drawn_figures (channel_count found) (padded channel_limit (codes_of found))
      (drawing total row_limit (table_of found) (row_count found) (channel_count found) draw_budget))
      (lines_with_ends readings)
  -- and the text's own rows, as many as fit, are QUIET
  pub rows_quiet : (places : List ℕ) → Each (λ i. i < row_count found) 0 places
      → let readings = flat_map (λ i. print_reading (own_reading channel_types (codes_of found) (label_at found i) (row_at found i).values)) places in
      text_within readings ≡ true
      → judge_output total row_limit channel_types reference (draw_output total row_limit channel_types reference) readings ≡ flat_map (λ i. print_verdict Quiet) places

pub record RecordsWritten : Type 0 where
  pub accepted : (rows : List ℤ) (m n : ℕ) (codes text : List ℕ) → (read_back rows m n codes text).outcome ≡ Accepted → AcceptedRecord rows m n codes text
  pub envelopes : (rows : List ℤ) (m : ℕ) (e : Envelope) → Arrays e → (places : ℕ) → WrittenEnvelope rows m e places
  pub own : (rows : List ℤ) (m n : ℕ) (codes : List ℕ) → length codes ≡ n → codes_known channel_types codes ≡ true → OwnEnvelopes rows m n codes
  pub programs : (reference : List ℕ) (found : ReferenceText) → text_content reference ≡ sound found → ProgramsTogether reference found

pub promise_2_11 : RecordsWritten
promise_2_11 =
    record {
      accepted = λ rows m n codes text is.
          let e = (read_back rows m n codes text).envelope in
          let a = accepted-read total row_limit channel_types rows m n codes text is in
          let bytes = accepted_bytes total row_limit channel_types house_sound rows m n codes text e a (omega arith) in
          record {
            own_bytes = bytes.0;
            written_whole = bytes.1;
            own_cleared = accepted-cleared total row_limit channel_types house_sound rows m n codes text e a;
          };
      envelopes = λ rows m e arrays places.
          record {
            read_cleared = house_written_read rows m e arrays places;
            cleared_written = λ typed placed. written-cleared total row_limit channel_types e typed placed rows m places;
            cleared_bytes = cleared-text total row_limit channel_types e;
            refused_unread = house_unread rows m e arrays places;
            unread_refused = house_refused rows m e arrays places;
            most_bytes = λ is. house_most rows m e (written-writing total row_limit channel_types rows m e places is);
            room_enough = house_enough rows m e places;
          };
      own = λ rows m n codes coded known.
          record {
            drawn_cleared = λ budget is. drawn_cleared total row_limit rows m n (omega arith) budget is codes coded;
            drawn_written = drawn_written total row_limit channel_types (omega arith) rows m n codes coded known;
            drawn_room = house_drawn_written rows m n codes coded known;
            drawn_read = house_drawn_read rows m n codes coded known;
            checked_written = λ ws is moves most all first rest places.
                writing-written total row_limit channel_types rows m
                (envelope_of (figures_of n (padded channel_limit codes) (checking total row_limit rows m n ws).ball moves) all) places
                (checked-writing total row_limit channel_types (omega arith) rows m n codes coded known ws is moves most all first rest);
          };
      programs = λ reference found is.
          record { verified = draw_verified reference found is; judged_lines = draw_judged reference found is; rows_quiet = rows_quiet reference found is };
    }
