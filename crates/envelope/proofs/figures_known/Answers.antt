-- `envelope::figures_known` meets its contract: the figures' own codes and X are lent.
use Rattle.limits.specs.Limits.{total}
use Rattle.channel.specs.Channel.{channel_types}
use Rattle.envelope.specs.Figures.{figures_known}
use Rattle.envelope.specs.FigureLaws.{own_lent}
use Rattle.envelope.proofs.figures_known.Goals as goal

pub returns : goal.returns
returns c =
    own_lent (figures_known total channel_types) c.args.figures c.scalars.ensures
    c.figures_known_lent.ensures
