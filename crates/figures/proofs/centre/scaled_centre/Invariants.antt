-- `figures::centre::scaled_centre` meets its contract. The loop's invariant: the places passed hold X, the others 0.
use mathlib.Core.Path.{◌≡◌}
use Prim.Native.Nat.{◌≤◌}
use Rattle.geometry.specs.Figures.{scaled_centre}
use Rattle.geometry.specs.Move.{weight_of}
use Rattle.geometry.specs.Table.{coordinate}
use Rattle.geometry.specs.Places.{centre_list}
use Rattle.figures.proofs.centre.scaled_centre.Given as goal

abbrev pub invariant-loop-k : goal.invariant-loop-k
invariant-loop-k l = (l.k ≤ l.n) × (l.scaled_centre ≡ centre_list l.k (scaled_centre (coordinate l.rows l.n) (weight_of l.weights) l.m))
