use mathlib.Core.Path.{◌≡◌}
use native.Mathlib.Omega.{arith}
use Rattle.lists.specs.Placed.{placed_none, placed_next, placed_done}
use Rattle.geometry.specs.TableLaws.{table-row}
use Rattle.moves.proofs.distances.fill_distances.Goals as goal

pub loop-i-init : goal.loop-i-init
loop-i-init c = (omega arith, placed_none)

pub scaled_squared_distance-requires : goal.scaled_squared_distance-requires
scaled_squared_distance-requires c = (table-row c.requires.0 c.loop-i.i c.loop-i-test.true, c.requires.1.0)

pub loop-i-preserved : goal.loop-i-preserved
loop-i-preserved c = (omega arith, placed_next c.loop-i.invariant.1 c.scaled_squared_distance.result (omega arith) (omega arith) c.scaled_squared_distance.ensures.is)

pub returns : goal.returns
returns c =
    let all : c.args.m ≡ c.loop-i.i = omega arith in
    placed_done c.loop-i.invariant.1 all
