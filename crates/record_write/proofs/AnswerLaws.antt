-- What an answer of writing a record says of the envelope, by cases on the answers.
--     written-writing     only an envelope that keeps its limits, those of the rows, and agreement with them is written
--     writing-refused     12 is met only where limits are kept and agreement is not
use Rattle.std.specs.Prelude.{ℕ, ◌≡◌, true, false, List, ℤ}
use Rattle.std.proofs.Common.{ap, arith}
use Rattle.integers.specs.Tests.{nonzero}
use Rattle.refusal.specs.Number.{disagreement}
use Rattle.refusal.specs.Outcome.{number_of, Accepted}
use Rattle.geometry.specs.Table.{rows_within}
use Rattle.channel.specs.Channel.{Types}
use Rattle.envelope.specs.Figures.{figures_known}
use Rattle.agreement.specs.Agreement.{agrees}
use Rattle.envelope.specs.declared.Envelope.{Envelope}
use Rattle.record_write.specs.Clauses.{record_written}
use Rattle.record_write.specs.WriteLaws.{Writing, each_written}
use Rattle.lent.specs.Clauses.{TextWritten}

module _ (D limit : ℕ) (types : Types) (rows : List ℤ) (m : ℕ) (e : Envelope) (places : ℕ) where
  pub written-writing : (record_written D limit types rows m e places).outcome ≡ Accepted → Writing D limit types rows m e
  written-writing h =
      each_written D limit types rows m e places (λ (a : TextWritten). number_of a.outcome ≡ 0 → Writing D limit types rows m e)
      nonzero (λ f r a. nonzero) (λ w l. nonzero) (λ w l k. w) (ap number_of h)

  pub writing-refused : number_of (record_written D limit types rows m e places).outcome ≡ disagreement
      → (figures_known D types e.figures ≡ true) × (rows_within limit rows m e.figures.n ≡ true)
      × (agrees D limit rows m e.figures.n e.figures.ball e.weights ≡ false)
  writing-refused =
      each_written D limit types rows m e places
      (λ (a : TextWritten). number_of a.outcome ≡ disagreement
      → (figures_known D types e.figures ≡ true) × (rows_within limit rows m e.figures.n ≡ true)
      × (agrees D limit rows m e.figures.n e.figures.ball e.weights ≡ false))
      (λ h. absurd (omega arith)) (λ f r a h. (f, r, a)) (λ w l h. absurd (omega arith)) (λ w l h. absurd (omega arith))
