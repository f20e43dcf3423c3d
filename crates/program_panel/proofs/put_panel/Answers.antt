-- The panel of figures within their limits is not refused, and there are n codes.
use mathlib.Core.Path.{refl, ap, ◌∙◌}
use native.Mathlib.Omega.{arith}
use Rattle.printing.specs.ContractLaws.{put_as}
use Rattle.channel.specs.Channel.{channel_types}
use Rattle.envelope.specs.Figures.{channel_codes}
use Rattle.panel_steps.specs.Panel.{PanelShown}
use Rattle.program_lines.specs.Lines.{print_refusal, print_steps}
use Rattle.program_record.specs.Against.{unless_refused}
use Rattle.program_panel.proofs.PanelSteps.{shown}
use Rattle.program_panel.proofs.put_panel.Goals as goal

pub put_steps-requires : goal.put_steps-requires
put_steps-requires c =
    let s = shown c.args.figures c.requires.0 _ c.in-Ok.ensures in
    (s.channels, (s.typed, (omega (arith, s.channels), omega arith)))

pub returns-in-Ok : goal.returns-in-Ok
returns-in-Ok c = put_as c.put_steps.ensures (shown c.args.figures c.requires.0 _ c.in-Ok.ensures).is refl

pub returns-in-Err : goal.returns-in-Err
returns-in-Err c =
    put_as c.put_refusal.ensures.line
    (ap (λ k. print_refusal k c.in-Err.refusal.line) c.number.ensures
    ∙ ap (λ (p : PanelShown). unless_refused p.outcome (λ _. print_steps channel_types (channel_codes c.args.figures) p.steps)) c.in-Err.ensures) refl
