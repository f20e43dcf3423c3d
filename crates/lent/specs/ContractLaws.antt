-- Laws of what is handed out to lent memory.
--     text_short, text_fits              a text is written exactly to a buffer that holds it
--     text_most                          no more places are written than the buffer and the text have
--     buffer_filled                      the buffer after a text is copied to it
--     buffer_part                        what is written is a part of the buffer
--     buffer_left                        a refusal leaves the buffer as it was
--     room_accepted                      what holds where the outcome of a call that fills lent slices has the number 0
--     unwritten, rewritten               what a call leaves in a lent slice
--     part_copied                        a lent slice that a part is copied to
use Rattle.std.specs.Prelude.{ℕ, suc, ◌≤◌, ◌<◌, ◌≡◌, refl, Bool, true, false, List, ◌++◌, leb, length, take, drop}
use Rattle.std.proofs.Common.{zero-le, sym, ap, ap₂, ◌∙◌, arith, leb-true, le-leb, length-take-le}
use Rattle.std.proofs.lemmas.Bool.{lt-leb}
use Rattle.std.proofs.Math.Seq.{take-length}
use Rattle.integers.specs.Tests.{nonzero}
use Rattle.refusal.specs.Number.{buffer_short}
use Rattle.refusal.specs.Outcome.{refused, number_of, require, Outcome, Accepted, Refused}
use Rattle.lent.specs.Filled.{filled, filled-refused, filled-length}
use Rattle.lent.specs.Clauses.{not_written, written, Part, text_written, with_room, TextWritten}

-- ---- a text

module _ (text : List ℕ) (places : ℕ) where
  pub text_short : places < length text → text_written text places ≡ not_written (refused buffer_short)
  text_short h = rw (lt-leb (length text) places h)

  pub text_fits : length text ≤ places → text_written text places ≡ written (length text)
  text_fits h = rw (le-leb (length text) places h)

  most : (b : Bool) → (b ≡ true → length text ≤ places)
      → let r = require b (not_written (refused buffer_short)) (λ _. written (length text)) in (r.length ≤ places) × (r.length ≤ length text)
  most true h = (h refl, omega arith)
  most false h = (zero-le, zero-le)

  pub text_most : ((text_written text places).length ≤ places) × ((text_written text places).length ≤ length text)
  text_most = most (leb (length text) places) (leb-true (length text) places)

-- the buffer after a text is copied to it
pub buffer_filled : (text buffer : List ℕ) → take (length text) text ++ drop (length text) buffer ≡ filled 0 (length text) text buffer
unfolding filled
buffer_filled text buffer = refl

pub buffer_left : (w : TextWritten) (k : ℕ) (source buffer : List ℕ) → w ≡ not_written (refused (suc k))
    → buffer ≡ filled (number_of w.outcome) w.length source buffer
buffer_left w k source buffer e =
    filled-refused (number_of w.outcome) w.length source buffer
    (λ z. absurd (omega (arith, z, ap (λ (x : TextWritten). number_of x.outcome) e)))

pub buffer_part : (text buffer after : List ℕ) (w : TextWritten) → w ≡ text_written text (length buffer)
    → after ≡ filled (number_of w.outcome) w.length text buffer → Part after w.length
buffer_part text buffer after w is filling =
    let most = most text (length buffer) (leb (length text) (length buffer)) (leb-true (length text) (length buffer)) in
    let count = ap (λ (x : TextWritten). x.length) is in
    let within : w.length ≤ length after =
    omega (
      arith,
      ap length filling,
      filled-length (number_of w.outcome) w.length text buffer (omega (arith, count, most.1)) (omega (arith, count, most.0)),
      count,
      most.0,
    ) in
    record { within = within; taken = sym (length-take-le w.length after within) }

-- ---- an outcome of number 0

-- a call that fills lent slices has the number 0 only where they have room and the call itself has it
pub room_accepted : {P : Type 0} (room : Bool) (o : Outcome) → (number_of o ≡ 0 → (o ≡ Accepted) × P) → number_of (with_room room o) ≡ 0
    → (room ≡ true) × P
room_accepted true Accepted only h = (refl, (only h).1)
room_accepted false Accepted only h = nonzero h
room_accepted room (Refused r) only h = let z : ◌≡◌ {A = ℕ} 0 1 = cc (only h).0 in absurd (omega arith)

-- ---- a call on lent slices, whose answer has the number k

module _ {A : Type 0} {number k : ℕ} (e : number ≡ k) (count : ℕ) (source lent₀ : List A) where
  pub unwritten : (k ≡ 0 → ⊥) → lent₀ ≡ filled number count source lent₀
  unwritten refused = filled-refused number count source lent₀ (λ z. refused (sym e ∙ z))

  pub rewritten : {lent : List A} → k ≡ 0 → lent ≡ filled 0 count source lent₀ → lent ≡ filled number count source lent₀
  rewritten z l = l ∙ ap (λ (j : ℕ). filled j count source lent₀) (sym (e ∙ z))

-- ---- a part that is copied

pub part_copied : {A : Type 0} (count : ℕ) (source lent : List A) → count ≤ length source
    → take (length (take count source)) (take count source) ++ drop (length (take count source)) lent ≡ filled 0 count source lent
unfolding filled
part_copied {A} count source lent h =
    ap₂ (λ (l : List A) (k : ℕ). l ++ drop k lent) (take-length (take count source)) (length-take-le count source h)
