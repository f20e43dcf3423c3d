use Rattle.std.proofs.Common.{◌∙◌, arith}
use Rattle.text.proofs.Found.{found_here, found_on, found_none}
use Rattle.text.proofs.scan.find.Goals as goal

pub returns-then-text-at-clause-is : goal.returns-then-text-at-clause-is
returns-then-text-at-clause-is c =
    let args = c.args in
    omega (arith, c.loop-at.invariant, found_here args.byte c.loop-at.at args.to args.text.now c.requires.1 c.loop-at-test.true c.if-text-at.true)

pub loop-at-preserved : goal.loop-at-preserved
loop-at-preserved c =
    let args = c.args in
    c.loop-at.invariant ∙ found_on args.byte c.loop-at.at args.to args.text.now c.requires.1 c.loop-at-test.true c.if-text-at.false

pub returns-clause-is : goal.returns-clause-is
returns-clause-is c =
    let args = c.args in
    omega (arith, c.loop-at.invariant, found_none args.byte c.loop-at.at args.to args.text.now c.requires.1 c.loop-at-test.false)
