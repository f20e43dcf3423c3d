use native.Mathlib.Omega.{arith}
use lib.IntN.{pos}
use borrow.Author.Rules.{rules}
use Rattle.lent.specs.Filled.{filling_none, filling_next}
use Rattle.reference_write.proofs.RowSteps.{row_small, row_put}
use Rattle.reference_write.proofs.put_row.Goals as goal

pub loop-i-init : goal.loop-i-init
loop-i-init c = filling_none

pub loop-i-preserved : goal.loop-i-preserved
loop-i-preserved c =
    filling_next (pos 0) (c.requires.channels, c.requires.places) c.loop-i-test.true c.loop-i.invariant (search rules)

pub put_line-requires : goal.put_line-requires
put_line-requires c =
    let pre = c.requires in
    let inv = c.loop-i.invariant in
    (omega (arith, pre.channels, inv.same_length), (row_small c.loop-i-test.false pre.places inv pre.small, pre.room))

pub returns : goal.returns
returns c = row_put c.loop-i-test.false c.requires.places c.loop-i.invariant _ c.put_line.ensures
