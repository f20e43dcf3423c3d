-- `figures::distance::square` meets its contract: the product fits an i64, and is read back as it is.
use Rattle.std.proofs.Common.{◌*◌, ◌^◌, arith, mul-le-mul}
use Rattle.std.proofs.Math.Dec.{lt→ltb}
use Rattle.integers.specs.Reading.{held, square_is}
use Rattle.figures.proofs.distance.square.Goals as goal

pub returns : goal.returns
returns g c =
    square_is (held c.ranges.d c.requires.0) (lt→ltb (g.most * g.most) (2 ^ 63) (omega (arith, mul-le-mul c.requires.1 c.requires.1)))
