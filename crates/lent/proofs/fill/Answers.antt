-- The copied part is the source's first places, and what stands past it is as it was.
use Rattle.std.proofs.Common.{ap, ◌++◌, drop}
use Rattle.lent.specs.Filled.{filled}
use Rattle.lent.proofs.fill.Goals as goal

pub returns : goal.returns
unfolding filled
returns g c = ap (λ l. l ++ drop c.args.count c.args.lent.now) c.copy_from_slice.ensures.after
