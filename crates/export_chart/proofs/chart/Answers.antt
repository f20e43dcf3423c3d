-- The answer in numbers is that of the mark of the figures that are given.
use Rattle.std.proofs.Common.{ap, ◌∙◌}
use Rattle.export_chart.specs.Clauses.{mark_in_numbers, chart_answer}
use Rattle.export_chart.proofs.chart.Goals as goal

pub returns : goal.returns
unfolding chart_answer
returns c = c.into.ensures ∙ ap mark_in_numbers c.chart_given.ensures
