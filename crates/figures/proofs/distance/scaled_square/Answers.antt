-- `figures::distance::scaled_square` meets its contract: D times the coordinate, less X, is within twice the limit on X of 0.
use Rattle.std.proofs.Common.{le_refl}
use Rattle.integers.specs.Sum.{square}
use Rattle.limits.specs.Limits.{total}
use Rattle.integers.specs.Reading.{held, number, kept, given, difference, product}
use Rattle.figures.proofs.distance.scaled_square.Goals as goal

pub returns : goal.returns
returns c =
    let scaled = product (number total (le_refl total)) (kept (held c.ranges.a c.requires.0) tt) in
    given (kept (difference (kept scaled tt) (held c.ranges.scaled_centre c.requires.1)) tt) square c.square.ensures
