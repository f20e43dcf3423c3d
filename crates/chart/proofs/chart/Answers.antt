-- `chart::chart` meets its contract: the figures' own codes and X are lent.
use Rattle.limits.specs.Limits.{total}
use Rattle.channel.specs.Channel.{channel_types}
use Rattle.envelope.specs.FigureLaws.{own_lent}
use Rattle.envelope.specs.declared.Figures.{Figures}
use Rattle.chart.specs.Mark.{chart_mark}
use Rattle.chart.proofs.chart.Goals as goal

pub returns : goal.returns
returns c =
    let args = c.args in
    own_lent (λ (f : Figures). chart_mark total channel_types f args.horizontal args.vertical) args.figures c.scalars.ensures
    c.chart_lent.ensures
