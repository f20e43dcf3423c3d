-- `panel_steps::panel_lent` meets its contract: the test is the definition's own, and past it X has n places within their limit.
use mathlib.Core.Path.{sym, ap, ◌∙◌}
use Rattle.std.specs.Prelude.{Err}
use Rattle.refusal.specs.declared.Refusal.{Refusal}
use Rattle.limits.specs.Limits.{total}
use Rattle.channel.specs.Channel.{channel_types}
use Rattle.envelope.specs.Clauses.{lent_figures}
use Rattle.envelope.specs.FigureLaws.{known-within, within_centre}
use Rattle.panel_steps.specs.Panel.{panel_outcome}
use Rattle.panel_steps.specs.PanelLaws.{panel_refuses, panel_shows}
use Rattle.panel_steps.proofs.panel_lent.Goals as goal
use Rattle.refusal.specs.Outcome.{Accepted}

pub returns-then-not-figures_known_lent : goal.returns-then-not-figures_known_lent
returns-then-not-figures_known_lent c =
    let f = lent_figures c.args.scalars c.args.codes.now c.args.scaled_centre.now in
    ap (λ (r : Refusal). panel_outcome (Err r)) c.into.ensures ∙ sym (panel_refuses total channel_types f (sym c.figures_known_lent.ensures ∙ c.if-not-figures_known_lent.true))

pub steps_of-requires : goal.steps_of-requires
steps_of-requires c =
    let f = lent_figures c.args.scalars c.args.codes.now c.args.scaled_centre.now in
    let limits = known-within total channel_types f (sym c.figures_known_lent.ensures ∙ c.if-not-figures_known_lent.false) in
    (limits.channels, within_centre limits)

pub returns : goal.returns
returns c =
    let f = lent_figures c.args.scalars c.args.codes.now c.args.scaled_centre.now in
    ap (λ steps. record { outcome = Accepted; steps = steps }) c.steps_of.ensures
    ∙ sym (panel_shows total channel_types f (sym c.figures_known_lent.ensures ∙ c.if-not-figures_known_lent.false))
