-- What the proofs of the exported calls share.
--     as_number           a test in numbers
--     accepted_places     what holds where the outcome of a call on rows has the number 0
--     numbered            what is written of a text, its answer being in numbers
use Rattle.std.specs.Prelude.{ℕ, ◌≤◌, ◌≡◌, refl, Bool, true, false, cond, List, ℤ}
use Rattle.std.proofs.Common.{sym, ap, ◌∙◌, arith}
use mir.Val.{bool_byte}
use Rattle.refusal.specs.Outcome.{number_of, Outcome, Accepted}
use Rattle.limits.specs.Limits.{row_limit, channel_limit}
use Rattle.lent.specs.Filled.{filled}
use Rattle.geometry.specs.Table.{rows_within}
use Rattle.geometry.specs.TableLaws.{within-table}
use Rattle.export_answers.specs.Clauses.{written_in_numbers}
use Rattle.export_answers.specs.declared.WrittenAnswer.{WrittenAnswer}
use Rattle.lent.specs.Clauses.{TextWritten}

pub as_number : (t : Bool) → bool_byte t ≡ cond t 1 0
as_number true = refl
as_number false = refl

-- what is known of a call that answers as it is defined, where its number is 0
pub accepted_places : (rows : List ℤ) (m n : ℕ) {places : ℕ} {o defined : Outcome} → places ≡ row_limit → o ≡ defined
    → (number_of defined ≡ 0 → defined ≡ Accepted) → (defined ≡ Accepted → rows_within row_limit rows m n ≡ true)
    → number_of o ≡ 0 → (o ≡ Accepted) × ((n ≤ channel_limit) × (m ≤ places))
accepted_places rows m n all is only within z =
    let accepted = only (ap number_of (sym is) ∙ z) in
    let table = within-table rows m n (within accepted) in
    (is ∙ accepted, (table.channels, omega (arith, table.rows_most)))

pub numbered : (text lent : List ℕ) (defined : TextWritten) {after : List ℕ} {w : TextWritten} {a : WrittenAnswer} → a ≡ written_in_numbers w → w ≡ defined
    → after ≡ filled (number_of w.outcome) w.length text lent
    → (a ≡ written_in_numbers defined) × (after ≡ filled a.number a.length text lent)
numbered text lent defined is written filling =
    (is ∙ ap written_in_numbers written, filling ∙ ap (λ (x : WrittenAnswer). filled x.number x.length text lent) (sym is))
