-- `moves::select::at_most` meets its contract: both numbers are below the top bit, so that it stays where and only where nothing is borrowed.
use Prim.Native.Nat.{ℕ, ◌+◌, ◌-◌, ◌≤◌, ◌<◌}
use mathlib.Core.Path.{◌≡◌, sym, ◌∙◌, ap}
use mathlib.Core.Bool.{not}
use native.Mathlib.Decide.{dec_lt}
use native.Mathlib.Omega.{arith}
use borrow.Author.Tests.{lt-ltb, le-ltb, le-leb, lt-leb}
use lib.Dec.{ltb, leb}
use Rattle.moves.specs.Clauses.{no_score}
use Rattle.moves.proofs.select.at_most.Goals as goal

top-tells : (top best score : ℕ) → score ≤ top → leb top (top + best - score) ≡ not (ltb best score)
top-tells top best score low = go (dec_lt best score)
  where
    go : Dec (best < score) → leb top (top + best - score) ≡ not (ltb best score)
    go (yes l) = lt-leb top (top + best - score) (omega arith) ∙ sym (ap not (lt-ltb best score l))
    go (no l) = le-leb top (top + best - score) (omega arith) ∙ sym (ap not (le-ltb best score (omega arith)))

pub returns : goal.returns
returns c = top-tells no_score c.args.best c.args.score (omega (arith, c.requires.0))
