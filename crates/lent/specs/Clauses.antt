-- What is handed out to lent memory.
--     TextWritten, text_outcome a      what writing a text answers, in numbers
--     not_written o, written bytes     a text that is refused, and one of so many bytes that is written
--     Part buffer count               the first places of a buffer, as they are handed on
--     text_written text places         a text that is written to a buffer of so many places: 13, or the whole text
--     with_room room o                 the outcome of a call that fills lent slices: 13, tested last, where they are too short
use Rattle.std.specs.Prelude.{ℕ, ◌≤◌, ◌≡◌, Bool, List, leb, length, take, Result, Ok, Err}
use Rattle.refusal.specs.Number.{buffer_short}
use Rattle.refusal.specs.Outcome.{refused, require, Outcome, Accepted, Refused, refusal_outcome}
use Rattle.refusal.specs.declared.Refusal.{Refusal}

-- what writing a text to a lent buffer answers, in numbers; in a refusal the length is 0
pub record TextWritten : Type 0 where
  pub outcome : Outcome
  pub length : ℕ

abbrev pub not_written : Outcome → TextWritten
not_written o = record { outcome = o; length = 0 }

abbrev pub written : ℕ → TextWritten
written bytes = record { outcome = Accepted; length = bytes }

abbrev pub text_outcome : Result ℕ Refusal → TextWritten
text_outcome (Ok bytes) = written bytes
text_outcome (Err r) = not_written (refusal_outcome r)

-- the first places of a buffer, as they are handed on
pub record Part (buffer : List ℕ) (count : ℕ) : Type 0 where
  pub within : count ≤ length buffer
  pub taken : count ≡ length (take count buffer)

-- 13, or the whole text
abbrev pub text_written : List ℕ → ℕ → TextWritten
text_written text places =
    require (leb (length text) places) (not_written (refused buffer_short)) (λ _.
    written (length text))

-- a refusal of the call comes before 13
abbrev pub with_room : Bool → Outcome → Outcome
with_room room Accepted = require room (refused buffer_short) (λ _. Accepted)
with_room room (Refused r) = Refused r
