-- What the exported calls on a reference text answer in numbers.
--     reference_in_numbers r         a reference's answer in numbers
--     with_codes places r           the answer where the codes have so many lent places: 13 is tested last
--     reference_answer r places     what the exported call answers
--     refused_answer number         a refusal with no line at fault
--     label_answer part             a label's place in numbers
use Rattle.std.specs.Prelude.{ℕ, leb}
use Rattle.refusal.specs.Number.{buffer_short}
use Rattle.refusal.specs.Outcome.{refused, number_of, line_of, require}
use Rattle.reference.specs.Clauses.{refused_reference, ReferenceOutcome}
use Rattle.reference_label.specs.declared.Part.{Part}
use Rattle.export_reference.specs.declared.ReferenceAnswer.{ReferenceAnswer}
use Rattle.export_reference.specs.declared.LabelAnswer.{LabelAnswer}

abbrev pub reference_in_numbers : ReferenceOutcome → ReferenceAnswer
reference_in_numbers r = record { number = number_of r.outcome; line = line_of r.outcome; m = r.m; n = r.n }

-- a refused text has no channel, so that its refusal stays
abbrev pub with_codes : ℕ → ReferenceOutcome → ReferenceOutcome
with_codes places r = require (leb r.n places) (refused_reference (refused buffer_short)) (λ _. r)

abbrev pub reference_answer : ReferenceOutcome → ℕ → ReferenceAnswer
reference_answer r places = reference_in_numbers (with_codes places r)

abbrev pub refused_answer : ℕ → ReferenceAnswer
refused_answer number = reference_in_numbers (refused_reference (refused number))

abbrev pub label_answer : Part → LabelAnswer
label_answer part = record { start = part.start; length = part.length }
