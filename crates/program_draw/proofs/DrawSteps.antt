-- The record of a drawing as draw prints it.
--     drawn-accepted     the drawing of the rows of a text is not refused
--     drawn_put          where they are drawn, and the record of the drawing is written, that is what draw prints
--     record_put         so that the writing of it is not refused
use Prim.Native.Nat.{ℕ, ◌*◌, ◌≤◌}
use mathlib.Core.Path.{◌≡◌, refl, sym, ap, ap₂, ◌∙◌}
use mathlib.Core.Bool.{true}
use mathlib.Core.List.{List}
use native.Mathlib.Omega.{arith}
use lib.IntN.{ℤ}
use lib.ListN.{length, take}
use Rattle.lent.specs.Filled.{filled}
use Rattle.lists.specs.Padded.{padded}
use Rattle.std.specs.Prelude.{Result, Ok, Err}
use Rattle.refusal.specs.Outcome.{number_of, outcome_of, Accepted}
use Rattle.refusal.specs.declared.Refusal.{Refusal}
use Rattle.limits.specs.Limits.{total, row_limit, channel_limit}
use Rattle.drawing.specs.Draw.{drawing, DrawingOutcome}
use Rattle.drawing.specs.Clauses.{DrawPromise}
use Rattle.printing.specs.Clauses.{Put}
use Rattle.printing.specs.ContractLaws.{put_as}
use Rattle.channel.specs.Channel.{channel_types, codes_known}
use Rattle.channel.specs.ChannelLaws.{house_sound}
use Rattle.reference_rows.specs.ReferenceText.{codes_of, channel_count, row_count, table_of}
use Rattle.reference.specs.ReferenceLaws.{accepted-within}
use Rattle.channel.specs.CodesLaws.{each_codes}
use Rattle.envelope.specs.Figures.{drawn_envelope}
use Rattle.envelope.specs.declared.Envelope.{Envelope}
use Rattle.record_print.specs.Printed.{record_text}
use Rattle.record_write.specs.Clauses.{record_written}
use Rattle.lent.specs.Clauses.{written, text_outcome, TextWritten}
use Rattle.record.proofs.RoomLaws.{house_drawn_most, house_drawn_written}
use Rattle.program_lines.proofs.LineSteps.{filled_put}
use Rattle.program_draw.specs.Output.{draw_budget, draw_output}
use Rattle.program_draw.specs.OutputLaws.{draw_accepted, draw_record}
use Rattle.program_draw.specs.Clauses.{draw_room, RecordPut}
use Rattle.program_record.proofs.ReadSteps.{RowsRead}
use Rattle.reference.specs.Clauses.{ReferenceOutcome}

module _ {text : List ℕ} {r : ReferenceOutcome} {table : List ℤ} (read : RowsRead text r table) {d : DrawingOutcome}
    (promise : DrawPromise (take (r.m * r.n) table) r.m r.n draw_budget d) where
  -- the rows, how many there are, and the codes
  abbrev rows : List ℤ
  rows = table_of read.found

  abbrev m : ℕ
  m = row_count read.found

  abbrev n : ℕ
  n = channel_count read.found

  abbrev codes : List ℕ
  codes = codes_of read.found

  abbrev own : Envelope
  own = drawn_envelope n (padded channel_limit codes) (drawing total row_limit rows m n draw_budget)

  own_is : drawn_envelope r.n r.codes d ≡ own
  own_is =
      ap (drawn_envelope r.n r.codes) (promise.is ∙ ap (λ (l : List ℤ). drawing total row_limit l r.m r.n draw_budget) read.first)
      ∙ ap (λ (x : ReferenceOutcome). drawn_envelope x.n x.codes (drawing total row_limit rows x.m x.n draw_budget)) read.answer

  accepted : (drawing total row_limit rows m n draw_budget).outcome ≡ Accepted
  accepted = draw_accepted total row_limit channel_types text read.found read.is house_sound

  pub drawn-accepted : d.outcome ≡ Accepted
  drawn-accepted =
      ap (λ (x : DrawingOutcome). x.outcome) (promise.is ∙ ap (λ (l : List ℤ). drawing total row_limit l r.m r.n draw_budget) read.first)
      ∙ ap (λ (x : ReferenceOutcome). (drawing total row_limit rows x.m x.n draw_budget).outcome) read.answer
      ∙ accepted

  known : codes_known channel_types codes ≡ true
  known = each_codes channel_types codes (accepted-within row_limit channel_types text read.found read.is).heading.each_known

  module _ (out : List ℕ) (room : draw_room ≤ length out) where
    own_room : length (record_text channel_types own) ≤ length out
    own_room =
        omega (
          arith,
          house_drawn_most rows m n codes refl known draw_budget accepted,
          room,
        )

    module _ {e : Envelope} (made : e ≡ drawn_envelope r.n r.codes d) {w : TextWritten}
        (answered : w ≡ record_written total row_limit channel_types (take (r.m * r.n) table) r.m e (length out)) where
      own-written : w ≡ written (length (record_text channel_types own))
      own-written =
          answered
          ∙ ap₂ (λ (l : List ℤ) (x : Envelope). record_written total row_limit channel_types l r.m x (length out)) read.first (made ∙ own_is)
          ∙ ap (λ (x : ReferenceOutcome). record_written total row_limit channel_types rows x.m own (length out)) read.answer
          ∙ house_drawn_written rows m n codes refl known draw_budget accepted (length out) room

      pub drawn_put : {out' : List ℕ} → out' ≡ filled (number_of w.outcome) w.length (record_text channel_types e) out
          → Put (draw_output total row_limit channel_types text) out 0 out' w.length
      drawn_put {out' = out'} f =
          let record_is = record_text channel_types own in
          let after : out' ≡ filled 0 (length record_is) record_is out =
          f ∙ ap₂ (λ (x : TextWritten) (y : Envelope). filled (number_of x.outcome) x.length (record_text channel_types y) out) own-written (made ∙ own_is) in
          let put : Put record_is out 0 out' (length record_is) = rw after (filled_put record_is out own_room) in
          put_as put (sym (draw_record total row_limit channel_types text read.found read.is house_sound))
          (ap (λ (x : TextWritten). x.length) (sym own-written))

    pub record_put : {e : Envelope} → e ≡ drawn_envelope r.n r.codes d → (w : Result ℕ Refusal)
        → text_outcome w ≡ record_written total row_limit channel_types (take (r.m * r.n) table) r.m e (length out) → {out' : List ℕ}
        → out' ≡ filled (number_of (outcome_of w)) (text_outcome w).length (record_text channel_types e) out
        → RecordPut (draw_output total row_limit channel_types text) out out' w
    record_put made (Ok length) answered f = drawn_put made answered f
    record_put made (Err x) answered f =
        let z : ◌≡◌ {A = ℕ} 0 1 = cc (ap (λ (x : TextWritten). x.outcome) (own-written made answered)) in
        absurd (omega arith)
