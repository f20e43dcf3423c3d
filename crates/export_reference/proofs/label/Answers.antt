-- The answer is the part that the call below gives.
use mathlib.Core.Path.{ap}
use Rattle.export_reference.specs.Clauses.{label_answer}
use Rattle.export_reference.proofs.label.Goals as goal

pub returns-in-Some : goal.returns-in-Some
returns-in-Some c = ap label_answer c.in-Some.ensures.part

pub returns-in-None : goal.returns-in-None
returns-in-None c = ap label_answer c.in-None.ensures.part
