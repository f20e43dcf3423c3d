use Rattle.std.proofs.Common.{arith, lit≤}
use Rattle.integers.specs.Sum.{square}
use Rattle.geometry.specs.Figures.{squared_length}
use Rattle.limits.specs.Limits.{channel_limit}
use Rattle.integers.specs.Partial.{partial_none, partial_more, partial_all}
use Rattle.geometry.specs.TableLaws.{row-held}
use Rattle.integers.specs.Reading.{kept, passed, given}
use Rattle.figures.proofs.bound.squared_length.Goals as goal

pub loop-k-init : goal.loop-k-init
loop-k-init c = partial_none

pub square-sum-requires : goal.square-sum-requires
square-sum-requires c = (passed (kept (row-held c.requires c.loop-k.k (omega arith)) tt), lit≤ tt)

pub loop-k-preserved : goal.loop-k-preserved
loop-k-preserved c =
    let l = c.loop-k in
    partial_more 1 l.invariant (omega arith) (given (kept (row-held c.requires l.k (omega arith)) tt) square c.square-sum.ensures)

pub returns : goal.returns
unfolding squared_length
returns c = partial_all channel_limit c.loop-k.invariant c.loop-k-test.false (omega arith)
