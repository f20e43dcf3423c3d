-- Demand 1, what it is that an answer in numbers is accepted or a listed refusal; said of each call for C and Rust in ListedExports.
--     ListedNumber number line, listed_number     0 and line 0, or one of the fourteen with its line; a listed outcome has such a number and line
--     EnvelopeNumbers, envelope_numbers           such an answer to a drawing or to a record: where the number is not 0 every other figure is 0
--     CheckNumbers, check_numbers                 to a check
--     ReferenceNumbers, reference_numbers         to a reference text
--     WrittenNumbers, written-numbers             of a text that is written
--     VerdictNumbers, verdict_numbers             to a reading
--     MarkNumbers, mark_numbers                   of a chart
use Rattle.std.specs.Prelude.{ℕ, ◌≡◌, refl, true, ◌⊎◌}
use Rattle.std.proofs.Common.{ap, inl, inr}
use Rattle.integers.specs.Tests.{clash}
use Rattle.refusal.specs.Outcome.{line_of, number_of, Outcome, Accepted, Refused}
use Rattle.ball.specs.declared.Ball.{Ball}
use Rattle.chart.specs.Fraction.{positive_zero}
use Rattle.export_answers.specs.Clauses.{envelope_in_numbers, written_in_numbers}
use Rattle.export_answers.specs.declared.EnvelopeAnswer.{EnvelopeAnswer}
use Rattle.export_answers.specs.declared.WrittenAnswer.{WrittenAnswer}
use Rattle.export_ball.specs.Clauses.{check_in_numbers}
use Rattle.export_ball.specs.declared.CheckAnswer.{CheckAnswer}
use Rattle.export_reference.specs.Clauses.{reference_in_numbers}
use Rattle.export_reference.specs.declared.ReferenceAnswer.{ReferenceAnswer}
use Rattle.export_reading.specs.Clauses.{verdict_in_numbers}
use Rattle.export_reading.specs.declared.VerdictAnswer.{VerdictAnswer}
use Rattle.export_chart.specs.Clauses.{mark_in_numbers}
use Rattle.export_chart.specs.declared.MarkAnswer.{MarkAnswer}
use Rattle.promises.specs.Listed.{Listed, is_refusal_at, with_line}
use Rattle.promises.specs.ListedAnswers.{ReferenceAnswered, TextAnswered}
use Rattle.promises.specs.ListedVerdicts.{MarkAnswered, VerdictAnswered}
use Rattle.lent.specs.Clauses.{TextWritten}
use Rattle.checking.specs.Check.{Checked}
use Rattle.reference.specs.Clauses.{ReferenceOutcome}
use Rattle.reading.specs.Verdict.{VerdictOutcome, Alarm, Quiet, Refused as RefusedReading}
use Rattle.chart.specs.Mark.{MarkOutcome, Disc, Dot, Refused as RefusedMark}

abbrev pub ListedNumber : ℕ → ℕ → Type 0
ListedNumber number line = ((number ≡ 0) × (line ≡ 0)) ⊎ (is_refusal_at number line ≡ true)

abbrev pub EnvelopeNumbers : EnvelopeAnswer → Type 0
EnvelopeNumbers a =
    ListedNumber a.number a.line
    × ((a.number ≡ 0 → ⊥) → (a.settled ≡ 0) × (a.moves ≡ 0) × (a.scaled_squared_radius ≡ 0) × (a.scaled_lower_bound ≡ 0))

abbrev pub CheckNumbers : CheckAnswer → Type 0
CheckNumbers a =
    ListedNumber a.number a.line × ((a.number ≡ 0 → ⊥) → (a.settled ≡ 0) × (a.scaled_squared_radius ≡ 0) × (a.scaled_lower_bound ≡ 0))

abbrev pub ReferenceNumbers : ReferenceAnswer → Type 0
ReferenceNumbers a = ListedNumber a.number a.line × ((a.number ≡ 0 → ⊥) → (a.m ≡ 0) × (a.n ≡ 0))

abbrev pub WrittenNumbers : WrittenAnswer → Type 0
WrittenNumbers a = ListedNumber a.number a.line × ((a.number ≡ 0 → ⊥) → a.length ≡ 0)

-- the line at fault in a reading is 1
abbrev pub VerdictNumbers : VerdictAnswer → Type 0
VerdictNumbers a =
    ListedNumber a.number a.line × (with_line a.number ≡ true → a.line ≡ 1)
    × ((a.number ≡ 0 → ⊥) → (a.verdict ≡ 0) × (a.excess ≡ 0))

abbrev pub MarkNumbers : MarkAnswer → Type 0
MarkNumbers a =
    ListedNumber a.number a.line
    × ((a.number ≡ 0 → ⊥) → (a.mark ≡ 0) × (a.horizontal ≡ positive_zero) × (a.vertical ≡ positive_zero) × (a.radius ≡ positive_zero))

pub listed_number : (o : Outcome) → Listed o → ListedNumber (number_of o) (line_of o)
listed_number Accepted listed = inl (refl, refl)
listed_number (Refused r) listed = inr listed

pub envelope_numbers : (o : Outcome) (ball : Ball) (moves : ℕ) → Listed o → EnvelopeNumbers (envelope_in_numbers o ball moves)
envelope_numbers Accepted ball moves listed = (inl (refl, refl), λ some. absurd (some refl))
envelope_numbers (Refused r) ball moves listed = (inr listed, λ _. (refl, refl, refl, refl))

pub check_numbers : (o : Outcome) (c : Checked) → Listed o → CheckNumbers (check_in_numbers o c)
check_numbers Accepted c listed = (inl (refl, refl), λ some. absurd (some refl))
check_numbers (Refused r) c listed = (inr listed, λ _. (refl, refl, refl))

pub reference_numbers : (a : ReferenceOutcome) → ReferenceAnswered a → ReferenceNumbers (reference_in_numbers a)
reference_numbers a answered = (listed_number a.outcome answered.listed, go a.outcome refl)
  where
    go : (o : Outcome) → a.outcome ≡ o → (number_of a.outcome ≡ 0 → ⊥) → (a.m ≡ 0) × (a.n ≡ 0)
    go Accepted is some = absurd (some (ap number_of is))
    go (Refused r) is some = (ap (λ (x : ReferenceOutcome). x.m) (answered.whole r is), ap (λ (x : ReferenceOutcome). x.n) (answered.whole r is))

pub written-numbers : (w : TextWritten) → TextAnswered w → WrittenNumbers (written_in_numbers w)
written-numbers w answered = (listed_number w.outcome answered.listed, go w.outcome refl)
  where
    go : (o : Outcome) → w.outcome ≡ o → (number_of w.outcome ≡ 0 → ⊥) → w.length ≡ 0
    go Accepted is some = absurd (some (ap number_of is))
    go (Refused r) is some = ap (λ (x : TextWritten). x.length) (answered.whole r is)

pub verdict_numbers : (v : VerdictOutcome) → VerdictAnswered v → VerdictNumbers (verdict_in_numbers v)
verdict_numbers Quiet answered = (inl (refl, refl), λ h. clash h refl, λ some. absurd (some refl))
verdict_numbers (Alarm excess) answered = (inl (refl, refl), λ h. clash h refl, λ some. absurd (some refl))
verdict_numbers (RefusedReading r) answered = (inr (answered.refused r refl).0, (answered.refused r refl).1, λ _. (refl, refl))

pub mark_numbers : (mark : MarkOutcome) → MarkAnswered mark → MarkNumbers (mark_in_numbers mark)
mark_numbers (Dot p) answered = (inl (refl, refl), λ some. absurd (some refl))
mark_numbers (Disc p x) answered = (inl (refl, refl), λ some. absurd (some refl))
mark_numbers (RefusedMark r) answered = (inr (answered.refused r refl).0, λ _. (refl, refl, refl, refl))
