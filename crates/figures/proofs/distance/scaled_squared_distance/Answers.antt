use native.Mathlib.Omega.{arith}
use lib.IntN.{pos, ◌-ℤ◌, ◌*ℤ◌}
use Rattle.integers.specs.Sum.{square}
use Rattle.geometry.specs.Figures.{squared_length, scaled_squared_distance}
use Rattle.limits.specs.Limits.{total, channel_limit}
use Rattle.integers.specs.Partial.{partial_none, partial_more, partial_all}
use Rattle.geometry.specs.TableLaws.{row-held, centre_held}
use Rattle.integers.specs.Reading.{passed, given₂}
use Rattle.figures.proofs.distance.scaled_squared_distance.Goals as goal

pub loop-k-init : goal.loop-k-init
loop-k-init c = partial_none

pub scaled_square-sum-requires : goal.scaled_square-sum-requires
scaled_square-sum-requires c =
    let k = c.loop-k.k in
    (passed (row-held c.requires.0 k (omega arith)), passed (centre_held c.requires.1 k (omega arith)))

pub loop-k-preserved : goal.loop-k-preserved
loop-k-preserved c =
    let k = c.loop-k.k in
    partial_more 1 c.loop-k.invariant (omega arith)
    (given₂ (row-held c.requires.0 k (omega arith)) (λ a x. square (pos total *ℤ a -ℤ x)) (centre_held c.requires.1 k (omega arith)) c.scaled_square-sum.ensures)

pub returns : goal.returns
unfolding squared_length scaled_squared_distance
returns c = partial_all channel_limit c.loop-k.invariant (omega arith) (omega arith)
