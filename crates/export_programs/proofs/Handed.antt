-- The output of a program, its answer being in numbers.
--     handed     the answer in numbers, and what is left in the lent slice, from the program's own
use Rattle.std.specs.Prelude.{ℕ, ◌≡◌, List, Result, Ok, Err}
use Rattle.refusal.specs.Outcome.{number_of, outcome_of}
use Rattle.refusal.specs.declared.Refusal.{Refusal}
use Rattle.lent.specs.Filled.{filled}
use Rattle.lent.specs.Clauses.{TextWritten, text_outcome}
use Rattle.export_answers.specs.Clauses.{written_in_numbers}
use Rattle.export_answers.specs.ContractLaws.{numbered}
use Rattle.export_answers.specs.declared.WrittenAnswer.{WrittenAnswer}

pub handed : (text lent : List ℕ) (defined : TextWritten) (r : Result ℕ Refusal) {after : List ℕ} {a : WrittenAnswer} → a ≡ written_in_numbers (text_outcome r)
    → text_outcome r ≡ defined → after ≡ filled (number_of (outcome_of r)) (text_outcome r).length text lent
    → (a ≡ written_in_numbers defined) × (after ≡ filled a.number a.length text lent)
handed text lent defined (Ok bytes) is written filling = numbered text lent defined is written filling
handed text lent defined (Err refusal) is written filling = numbered text lent defined is written filling
