-- The loop keeps the lines of the first channels.
use Rattle.program_panel.proofs.PanelSteps.{Steps}
use Rattle.program_panel.proofs.put_steps.Given as goal

abbrev pub invariant-loop-i : goal.invariant-loop-i
invariant-loop-i l = Steps l.codes l.steps l.n l.fn.out l.out l.printed l.i
