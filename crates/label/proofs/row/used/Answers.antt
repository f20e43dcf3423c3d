use mathlib.Core.Path.{sym, ◌∙◌}
use native.Mathlib.Omega.{arith}
use Rattle.label.specs.RowLabelLaws.{used_here, used_further, used_none}
use Rattle.label.proofs.row.used.Goals as goal

pub returns-then-keys-i : goal.returns-then-keys-i
returns-then-keys-i c =
    sym (c.loop-i.invariant.1
    ∙ used_here c.args.keys.now c.args.count c.args.key c.loop-i.i c.requires
    c.loop-i-test.true c.if-keys-i.true)

pub loop-i-preserved : goal.loop-i-preserved
loop-i-preserved c = (
  omega arith,
  c.loop-i.invariant.1
      ∙ used_further c.args.keys.now c.args.count c.args.key c.loop-i.i c.requires
      c.loop-i-test.true c.if-keys-i.false,
)

pub returns : goal.returns
returns c =
    sym (c.loop-i.invariant.1
    ∙ used_none c.args.keys.now c.args.count c.args.key c.loop-i.i c.requires c.loop-i-test.false)
