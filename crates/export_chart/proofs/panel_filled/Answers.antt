-- A refusal leaves the lent places as they were; a panel that is accepted has a step for each of the n channels.
use Rattle.std.specs.Prelude.{◌≡◌, length}
use Rattle.std.proofs.Common.{sym, ap, arith, rules}
use Rattle.std.proofs.lemmas.Result.{err_from_is_err_and}
use Rattle.refusal.specs.Outcome.{number_of}
use Rattle.refusal.specs.OutcomeLaws.{kind_nonzero}
use Rattle.limits.specs.Limits.{total, channel_limit}
use Rattle.lent.specs.Filled.{filled-refused}
use Rattle.channel.specs.Channel.{channel_types}
use Rattle.panel_steps.specs.Panel.{PanelShown}
use Rattle.export_chart.proofs.PanelLaws.{panel_accepted}
use Rattle.export_chart.proofs.panel_filled.Goals as goal

pub returns-in_err-shown-clause-steps_filled : goal.returns-in_err-shown-clause-steps_filled
returns-in_err-shown-clause-steps_filled c =
    let p = err_from_is_err_and c.from_residual.result c.from_residual.ensures.1 in
    filled-refused _ c.args.figures.n _ c.args.steps.now (rw p.1 (kind_nonzero _))

pub returns-then-not-room-clause-steps_filled : goal.returns-then-not-room-clause-steps_filled
returns-then-not-room-clause-steps_filled c = filled-refused _ c.args.figures.n _ c.args.steps.now (kind_nonzero c.into.result.kind)

pub fill-requires : goal.fill-requires
fill-requires c =
    let accepted = panel_accepted total channel_types c.args.figures c.args.codes.now c.args.scaled_centre.now
    (ap (λ (p : PanelShown). number_of p.outcome) (sym c.in_ok-shown.ensures)) in
    let eight : channel_limit ≡ length c.in_ok-shown.shown = search rules in
    (omega arith, omega (arith, accepted.1))
