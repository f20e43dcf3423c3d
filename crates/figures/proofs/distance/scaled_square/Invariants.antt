-- The difference is within twice the limit on X.
use Rattle.std.proofs.Common.{◌*◌}
use Rattle.limits.specs.Limits.{total, centre_limit}
use Rattle.figures.proofs.distance.scaled_square.Given as goal

abbrev pub ghost-square : goal.ghost-square
ghost-square a = 2 * centre_limit total
