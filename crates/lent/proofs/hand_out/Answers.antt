-- A text that is too long is refused and nothing is copied; any other is copied whole.
use Rattle.refusal.specs.OutcomeLaws.{kind_nonzero}
use Rattle.lent.specs.Filled.{filled-refused}
use Rattle.lent.proofs.hand_out.Goals as goal

pub returns-then-buffer-length-clause-buffer_filled : goal.returns-then-buffer-length-clause-buffer_filled
returns-then-buffer-length-clause-buffer_filled c = filled-refused _ 0 c.args.text.now c.args.buffer.now (kind_nonzero c.into.result.kind)
