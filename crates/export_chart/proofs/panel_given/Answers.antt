-- The ending that is given is one of the two or refused by 8, as the definition chooses; the panel is that of the figures that are given.
use Rattle.std.specs.Prelude.{Err}
use Rattle.std.proofs.Common.{sym, ap, ◌∙◌}
use Rattle.refusal.specs.Number.{outside_limits}
use Rattle.refusal.specs.declared.Refusal.{Refusal}
use Rattle.limits.specs.Limits.{total}
use Rattle.channel.specs.Channel.{channel_types}
use Rattle.panel_steps.specs.Panel.{panel_outcome, refused_panel, panel_shown}
use Rattle.export_figures.specs.ContractLaws.{answer_taken, answer-refused}
use Rattle.export_chart.specs.Clauses.{panel_given}
use Rattle.export_chart.proofs.panel_given.Goals as goal

pub returns-then-not-ending_known : goal.returns-then-not-ending_known
unfolding panel_given
returns-then-not-ending_known c =
    let args = c.args in
    answer-refused args.figures args.codes.now args.scaled_centre.now (panel_shown total channel_types) (refused_panel outside_limits)
    (sym c.ending_known.ensures ∙ c.if-not-ending_known.true) (ap (λ (r : Refusal). panel_outcome (Err r)) c.into.ensures)

pub returns : goal.returns
unfolding panel_given
returns c =
    let args = c.args in
    answer_taken args.figures args.codes.now args.scaled_centre.now (panel_shown total channel_types) (refused_panel outside_limits)
    (sym c.ending_known.ensures ∙ c.if-not-ending_known.false)
    c.scalars.ensures c.panel_lent.ensures
