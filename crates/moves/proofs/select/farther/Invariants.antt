-- `moves::select::farther` meets its contract. The loop's invariant: what is held is the far row of the rows passed.
use Rattle.moves.specs.Clauses.{FarHeld}
use Rattle.moves.proofs.select.farther.Given as goal

abbrev pub invariant-loop-row : goal.invariant-loop-row
invariant-loop-row l = FarHeld l.scores l.end l.row l.held
