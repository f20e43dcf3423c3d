-- The difference is within twice the coordinates' limit.
use Rattle.std.proofs.Common.{◌*◌}
use Rattle.limits.specs.Limits.{coordinate_limit}
use Rattle.figures.proofs.distance.square_of_difference.Given as goal

abbrev pub ghost-square : goal.ghost-square
ghost-square a = 2 * coordinate_limit
