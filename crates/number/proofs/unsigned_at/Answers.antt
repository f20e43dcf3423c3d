-- `number::unsigned_at` meets its contract: the field ends where the rest of it after the digits does, and each way is a case of
-- `magnitude_of`, by whether there is such a rest, by the field's length and by its first byte.
use mathlib.Core.Path.{◌≡◌, sym}
use native.Mathlib.Omega.{arith}
use Rattle.std.proofs.Common.{ℕ, List, inl, inr}
use Rattle.std.specs.Prelude.{Option as Answer}
use Rattle.text.specs.Parts.{comma}
use Rattle.text.specs.Clauses.{PartEnd, FieldRead}
use Rattle.text.specs.PartsLaws.{part_at}
use Rattle.number.specs.Clauses.{unsigned_field, LeadingDigits}
use Rattle.number.specs.ContractLaws.{unsigned_ends, unsigned_other, unsigned_empty, unsigned_zero, unsigned_whole}
use Rattle.number.proofs.unsigned_at.Goals as goal
use Rattle.number.proofs.unsigned_at.Goals.{else-at-end-2-via-then-at-end-2+else-line-at-eq-ZERO, else-at-end-2-via-else-at-end-2}

-- what the field is, up to where it ends
read : {line : List ℕ} {at m e end : ℕ} {r : Answer ℕ} → LeadingDigits line at m e → PartEnd comma line e end
    → unsigned_field (part_at line at end) ≡ r → FieldRead unsigned_field line at r end
read d p e = record { is = sym e; ends = unsigned_ends _ _ d p }

pub returns-then-digits-end : goal.returns-then-digits-end
returns-then-digits-end c =
    let d = c.leading_digits-digits.ensures in
    let p = c.field_end-end.ensures in
    elim c.then-digits-end.either [ inl h ↦ read d p (unsigned_other _ _ d p h) | inr h ↦ read d p (unsigned_empty _ _ d p h.1) ]

pub returns-then-line-at-eq-ZERO : goal.returns-then-line-at-eq-ZERO
returns-then-line-at-eq-ZERO c =
    let d = c.leading_digits-digits.ensures in
    let p = c.field_end-end.ensures in
    read d p (unsigned_zero _ _ d p c.if-at-end-2.true c.if-line-at-eq-ZERO.true)

pub returns : goal.returns
returns c =
    let d = c.leading_digits-digits.ensures in
    let p = c.field_end-end.ensures in
    elim c.else-at-end-2.branch [
      | else-at-end-2-via-then-at-end-2+else-line-at-eq-ZERO w ↦
          read d p (unsigned_whole _ _ d p c.if-digits-end.false c.if-at-end.false (λ _. w.if-line-at-eq-ZERO.false))
      | else-at-end-2-via-else-at-end-2 w ↦ read d p (unsigned_whole _ _ d p c.if-digits-end.false c.if-at-end.false (λ h. absurd (omega arith)))
    ]
