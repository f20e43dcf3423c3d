-- What holds of the two calls as they stand: D = 65,536, 256 rows and document 01's types.
--     Arrays e                       what every envelope of the code has: 256 weights of 32 bits
--     house_room                     a record is within record_room
--     house_text                     so that it has at most 65,536 bytes, and 1 never meets one of ours
--     house_most                     a record that is written has at most record_most bytes
--     house_written_read             2.11: a written record, read against the same rows and codes, gives its own envelope, cleared
--     own, own-writing               the envelope of a drawing of n channels of these codes, and that it is written
--     house_drawn_read               its record, read against the same rows and codes, gives that envelope
--     house_unread, house_refused    writing refuses with 12 exactly the envelopes whose record reading turns back
use Rattle.std.specs.Prelude.{ℕ, ◌^◌, ◌≤◌, min, ◌≡◌, true, List, ℤ, length}
use native.Mathlib.Omega.{arith}
use Rattle.lists.specs.Padded.{padded}
use Rattle.refusal.specs.Number.{disagreement}
use Rattle.refusal.specs.Outcome.{refused, number_of, Accepted}
use Rattle.geometry.specs.Table.{rows_within}
use Rattle.limits.specs.Limits.{total, row_limit, channel_limit, text_limit, row_digits, weight_digits, centre_digits, distance_digits, moves_digits}
use Rattle.geometry.specs.TableLaws.{within_limits}
use Rattle.drawing.specs.Draw.{drawing}
use Rattle.drawing.specs.DrawnWeights.{drawing-length}
use Rattle.printing.specs.UnsignedLaws.{Below}
use Rattle.channel.specs.Channel.{channel_types, codes_known}
use Rattle.channel.specs.ChannelLaws.{house_sound}
use Rattle.channel.specs.ContractLaws.{house_short}
use Rattle.envelope.specs.Figures.{figures_known, drawn_envelope}
use Rattle.envelope.specs.FigureLaws.{known-within, known_coded}
use Rattle.agreement.specs.Agreement.{cleared}
use Rattle.agreement.specs.AgreementLaws.{agrees_agreed, agreed_weight}
use Rattle.envelope.specs.declared.Envelope.{Envelope}
use Rattle.record_print.specs.Printed.{record_of, record_text, record_most}
use Rattle.record_print.specs.Clauses.{record_room}
use Rattle.record_print.specs.PrintedLaws.{heading_short, centre_short, result_short, lines_short, record_length, record_room_lem}
use Rattle.record_read.specs.Clauses.{record_read, EnvelopeRead}
use Rattle.record_write.specs.Clauses.{record_written}
use Rattle.lent.specs.Clauses.{not_written}
use Rattle.record_read.specs.ReadLaws.{accepting}
use Rattle.record_write.specs.WriteLaws.{within_printing, Writing}
use Rattle.record_write.proofs.AnswerLaws.{written-writing}
use Rattle.record.specs.TripLaws.{Holds, written_envelope, disagreement_unread, unread_disagreement}
use Rattle.record.specs.DrawnLaws.{drawn-writing, drawn_read}

pub record Arrays (e : Envelope) : Type 0 where
  pub rows : length e.weights ≡ row_limit
  pub fitting : Below (2 ^ 32) e.weights

holding : (e : Envelope) → Arrays e → Holds row_limit e
holding e arrays = record { places = arrays.rows; short = λ i h. omega (arith, arrays.fitting i h) }

pub house_room : (e : Envelope) → Arrays e → figures_known total channel_types e.figures ≡ true
    → length (record_text channel_types e) ≤ record_room row_limit
unfolding record_text
house_room e arrays kept =
    let figures = known-within total channel_types e.figures kept in
    omega (
      arith,
      arrays.rows,
      record_room_lem e.figures e.weights (within_printing channel_types e.figures e.weights kept arrays.rows) channel_types house_short
          (omega (arith, figures.moves_limit)) (λ i h. omega (arith, arrays.fitting i h)),
    )

pub house_text : (e : Envelope) → Arrays e → figures_known total channel_types e.figures ≡ true → length (record_text channel_types e) ≤ text_limit
house_text e arrays kept = omega (arith, house_room e arrays kept)

-- ---- the most bytes of a record

-- whatever envelope, rows and m are given: m above 256 is refused by 8, so that both record_most m and 3,252 bytes are enough
module _ (rows : List ℤ) (m : ℕ) (e : Envelope) where
  pub house_most : Writing total row_limit channel_types rows m e → length (record_text channel_types e) ≤ record_most (min m row_limit)
  unfolding record_text
  house_most writing =
      let f = e.figures in
      let ball = f.ball in
      let figures = known-within total channel_types f writing.figures_kept_lem in
      let few = (within_limits row_limit rows m f.n writing.rows_kept).rows_most in
      let agreed = agrees_agreed total row_limit rows m f.n ball e.weights writing.agreeing in
      omega (
        arith,
        few,
        figures.channels,
        record_length channel_types (record_of f e.weights),
        heading_short f channel_types house_short figures.channels (known_coded total channel_types f writing.figures_kept_lem).typed,
        centre_short centre_digits f.n ball.scaled_centre (omega arith) figures.places (λ k h. omega (arith, figures.centre_limit k h)),
        result_short distance_digits moves_digits ball.scaled_squared_radius ball.scaled_lower_bound f.moves (omega arith) (omega arith)
            (omega (arith, figures.radius_limit)) (omega (arith, figures.floor_limit)) (omega (arith, figures.moves_limit)) ball.settled,
        lines_short row_digits weight_digits (omega arith) (omega arith) 1 m e.weights (λ i h. omega (arith, few))
            (λ i h. omega (arith, agreed_weight total row_limit rows m f.n ball e.weights agreed i)) agreed.rest,
      )

-- ---- a record that is read back

module _ (rows : List ℤ) (m : ℕ) (e : Envelope) (arrays : Arrays e) (places : ℕ) where
  -- what is read of the envelope's own text, against the same rows and codes
  abbrev read_back : EnvelopeRead
  read_back = record_read total row_limit channel_types rows m e.figures.n e.figures.codes (record_text channel_types e)

  pub house_written_read : (record_written total row_limit channel_types rows m e places).outcome ≡ Accepted
      → read_back ≡ accepting (cleared e)
  house_written_read accepted =
      let writing = written-writing total row_limit channel_types rows m e places accepted in
      written_envelope total row_limit channel_types house_sound (omega arith) (omega arith) (omega arith) rows m e (holding e arrays) writing
      (house_text e arrays writing.figures_kept_lem)

  pub house_unread : number_of (record_written total row_limit channel_types rows m e places).outcome ≡ disagreement → read_back.outcome ≡ Accepted → ⊥
  house_unread h =
      disagreement_unread total row_limit channel_types house_sound (omega arith) (omega arith) (omega arith) rows m e (holding e arrays) places h

  pub house_refused : figures_known total channel_types e.figures ≡ true → rows_within row_limit rows m e.figures.n ≡ true
      → (read_back.outcome ≡ Accepted → ⊥) → record_written total row_limit channel_types rows m e places ≡ not_written (refused disagreement)
  house_refused kept rows_kept unread =
      unread_disagreement total row_limit channel_types house_sound (omega arith) (omega arith) (omega arith) rows m e (holding e arrays) places kept
      rows_kept (house_text e arrays kept) unread

-- a drawing of n channels of these codes
module _ (rows : List ℤ) (m n : ℕ) (codes : List ℕ) (coded : length codes ≡ n) (codes_known_lem : codes_known channel_types codes ≡ true) (budget : ℕ)
    (accepted : (drawing total row_limit rows m n budget).outcome ≡ Accepted) where
  abbrev pub own : Envelope
  own = drawn_envelope n (padded channel_limit codes) (drawing total row_limit rows m n budget)

  pub own-writing : Writing total row_limit channel_types rows m own
  own-writing = drawn-writing total row_limit channel_types (omega arith) rows m n codes coded codes_known_lem budget accepted

  own_arrays : Arrays own
  own_arrays =
      let r = drawing total row_limit rows m n budget in
      let agreed = agrees_agreed total row_limit rows m n r.ball r.weights own-writing.agreeing in
      record {
        rows = drawing-length total row_limit rows m n budget;
        fitting = λ i h. omega (arith, agreed_weight total row_limit rows m n r.ball r.weights agreed i);
      }

  pub house_drawn_read : record_read total row_limit channel_types rows m n (padded channel_limit codes) (record_text channel_types own) ≡ accepting own
  house_drawn_read =
      drawn_read total row_limit channel_types (omega arith) rows m n codes coded codes_known_lem budget accepted house_sound (omega arith) (omega arith)
      (house_text own own_arrays own-writing.figures_kept_lem)
