-- What writing a record answers, for any total D, row limit and table of types.
--     record_written D limit types rows m e places    what writing to so many places answers
use Rattle.std.specs.Prelude.{ℕ, ◌&&◌, List, ℤ}
use Rattle.refusal.specs.Number.{outside_limits, disagreement}
use Rattle.refusal.specs.Outcome.{refused, require}
use Rattle.geometry.specs.Table.{rows_within}
use Rattle.channel.specs.Channel.{Types}
use Rattle.envelope.specs.Figures.{figures_known}
use Rattle.agreement.specs.Agreement.{agrees}
use Rattle.envelope.specs.declared.Envelope.{Envelope}
use Rattle.record_print.specs.Printed.{record_text}
use Rattle.lent.specs.Clauses.{not_written, text_written, TextWritten}

-- 8, 12, 13
unfoldable pub record_written : ℕ → ℕ → Types → List ℤ → ℕ → Envelope → ℕ → TextWritten
record_written D limit types rows m e places =
    require (figures_known D types e.figures && rows_within limit rows m e.figures.n) (not_written (refused outside_limits)) (λ _.
    require (agrees D limit rows m e.figures.n e.figures.ball e.weights) (not_written (refused disagreement)) (λ _.
    text_written (record_text types e) places))
