-- The answer in numbers is that of the verdict against the figures that are given.
use Rattle.std.proofs.Common.{ap, ◌∙◌}
use Rattle.export_reading.specs.Clauses.{verdict_in_numbers, judge_answer}
use Rattle.export_reading.proofs.judge.Goals as goal

pub returns : goal.returns
unfolding judge_answer
returns c = c.into.ensures ∙ ap verdict_in_numbers c.judge_given.ensures
