-- A buffer of record_most bytes is room enough, since `house_most` says that no record that is written is longer.
--     house_enough                   13 never answers a buffer of so many places
--     house_drawn_most               the record of a drawn envelope has at most record_most bytes
--     house_drawn_written            and is written to every buffer of record_most row_limit places, 3,252
use Rattle.std.specs.Prelude.{ℕ, ◌≤◌, min, ◌≡◌, true, List, ℤ, length}
use native.Mathlib.Omega.{arith}
use Rattle.refusal.specs.Number.{buffer_short}
use Rattle.refusal.specs.Outcome.{number_of, Accepted}
use Rattle.limits.specs.Limits.{total, row_limit}
use Rattle.drawing.specs.Draw.{drawing}
use Rattle.channel.specs.Channel.{channel_types, codes_known}
use Rattle.envelope.specs.declared.Envelope.{Envelope}
use Rattle.record_print.specs.Printed.{record_text, record_most}
use Rattle.record_write.specs.Clauses.{record_written}
use Rattle.lent.specs.Clauses.{written, TextWritten}
use Rattle.record_write.specs.WriteLaws.{Writing, each_written, writing-written}
use Rattle.record.specs.HouseLaws.{house_most, own, own-writing}

module _ (rows : List ℤ) (m : ℕ) (e : Envelope) where
  pub house_enough : (places : ℕ) → record_most (min m row_limit) ≤ places
      → number_of (record_written total row_limit channel_types rows m e places).outcome ≡ buffer_short → ⊥
  house_enough places room =
      each_written total row_limit channel_types rows m e places (λ (a : TextWritten). number_of a.outcome ≡ buffer_short → ⊥)
      (λ h. omega arith) (λ f r a h. omega arith) (λ w l h. omega (arith, house_most rows m e w)) (λ w l h. omega arith)

-- a drawing of n channels of these codes
module _ (rows : List ℤ) (m n : ℕ) (codes : List ℕ) (coded : length codes ≡ n) (codes_known_lem : codes_known channel_types codes ≡ true) (budget : ℕ)
    (accepted : (drawing total row_limit rows m n budget).outcome ≡ Accepted) where
  abbrev drawn : Envelope
  drawn = own rows m n codes coded codes_known_lem budget accepted

  drawn-kept : Writing total row_limit channel_types rows m drawn
  drawn-kept = own-writing rows m n codes coded codes_known_lem budget accepted

  pub house_drawn_most : length (record_text channel_types drawn) ≤ record_most (min m row_limit)
  house_drawn_most = house_most rows m drawn drawn-kept

  pub house_drawn_written : (places : ℕ) → record_most row_limit ≤ places
      → record_written total row_limit channel_types rows m drawn places ≡ written (length (record_text channel_types drawn))
  house_drawn_written places room = writing-written total row_limit channel_types rows m drawn places drawn-kept (omega (arith, house_drawn_most))
