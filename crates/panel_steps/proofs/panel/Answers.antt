-- `panel_steps::panel` meets its contract: the figures' own codes and X are lent.
use Rattle.limits.specs.Limits.{total}
use Rattle.channel.specs.Channel.{channel_types}
use Rattle.envelope.specs.FigureLaws.{own_lent}
use Rattle.panel_steps.specs.Panel.{panel_shown}
use Rattle.panel_steps.proofs.panel.Goals as goal

pub returns : goal.returns
returns c =
    own_lent (panel_shown total channel_types) c.args.figures c.scalars.ensures
    c.panel_lent.ensures
