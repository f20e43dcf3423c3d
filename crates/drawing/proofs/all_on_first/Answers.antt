-- `drawing::all_on_first` meets its contract: the array is the definition's list, a store at place 0 of zeros.
use mathlib.Core.Path.{refl}
use Rattle.drawing.specs.Draw.{start}
use Rattle.drawing.proofs.all_on_first.Goals as goal

pub returns : goal.returns
unfolding start
returns c = refl
