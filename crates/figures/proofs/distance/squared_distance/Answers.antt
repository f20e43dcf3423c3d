use native.Mathlib.Omega.{arith}
use lib.IntN.{◌-ℤ◌}
use Rattle.integers.specs.Sum.{square}
use Rattle.geometry.specs.Figures.{squared_length, squared_distance}
use Rattle.limits.specs.Limits.{channel_limit}
use Rattle.integers.specs.Partial.{partial_none, partial_more, partial_all}
use Rattle.geometry.specs.TableLaws.{row-held}
use Rattle.integers.specs.Reading.{passed, given₂}
use Rattle.figures.proofs.distance.squared_distance.Goals as goal

pub loop-k-init : goal.loop-k-init
loop-k-init c = partial_none

pub square_of_difference-sum-requires : goal.square_of_difference-sum-requires
square_of_difference-sum-requires c =
    let k = c.loop-k.k in
    (passed (row-held c.requires.0 k (omega arith)), passed (row-held c.requires.1 k (omega arith)))

pub loop-k-preserved : goal.loop-k-preserved
loop-k-preserved c =
    let k = c.loop-k.k in
    partial_more 1 c.loop-k.invariant (omega arith)
    (given₂ (row-held c.requires.0 k (omega arith)) (λ a b. square (a -ℤ b)) (row-held c.requires.1 k (omega arith)) c.square_of_difference-sum.ensures)

pub returns : goal.returns
unfolding squared_length squared_distance
returns c = partial_all channel_limit c.loop-k.invariant (omega arith) (omega arith)
