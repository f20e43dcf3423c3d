-- `moves::step::one_move` meets its contract: the row that loses t has it, and the row that gains t, which may be the same, has with
-- it at most what a u32 holds, so that neither step leaves the range; the two stores are the definition's.
use Prim.Native.Nat.{ℕ, ◌-◌, ◌≤◌, ◌<◌}
use mathlib.Core.Path.{◌≡◌, sym, subst}
use mathlib.Core.List.{List}
use native.Mathlib.Decide.{ℕ_discrete}
use native.Mathlib.Omega.{arith}
use lib.ListN.{length, get_or, set}
use lib.Seq.{get_or-set_same, get_or-set_other}
use Rattle.geometry.specs.Move.{move_weight}
use Rattle.moves.proofs.step.one_move.Goals as goal

-- a store of a number that is at most the element in its place raises no element
set-lowers : (ws : List ℕ) (j k v : ℕ) → j < length ws → v ≤ get_or ws j 0 → get_or (set ws j v) k 0 ≤ get_or ws k 0
set-lowers ws j k v l h = go (ℕ_discrete k j)
  where
    go : Dec (k ≡ j) → get_or (set ws j v) k 0 ≤ get_or ws k 0
    go (yes e) = subst (λ i. get_or (set ws j v) i 0 ≤ get_or ws i 0) (sym e) (omega (arith, get_or-set_same ws j v 0 l))
    go (no e) = omega (arith, get_or-set_other ws j k v 0 e)

pub overflow_add-weights : goal.overflow_add-weights
overflow_add-weights c =
    let a = c.args in
    omega (arith, set-lowers a.weights a.from a.to (get_or a.weights a.from 0 - a.t) (omega arith) (omega arith))

pub returns : goal.returns
unfolding move_weight
returns c = cc
