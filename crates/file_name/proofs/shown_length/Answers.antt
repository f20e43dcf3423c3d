-- A name that is shorter than the limit is told whole.
use native.Mathlib.Omega.{arith}
use lib.ListN.{length-take}
use Rattle.file_name.specs.Name.{name_limit}
use Rattle.file_name.proofs.shown_length.Goals as goal

pub returns : goal.returns
returns c =
    let name = c.args.name.now in
    record { is = omega (arith, length-take name_limit name, c.min.ensures); within = omega arith; most = omega arith }
