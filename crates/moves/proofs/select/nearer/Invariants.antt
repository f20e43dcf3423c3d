-- `moves::select::nearer` meets its contract. The loop's invariant: before the first row of weight above 0 the row held is row 0 and what is
-- held is above every score; after it the row and the score are those of the near row of the first i rows.
use Rattle.moves.specs.Clauses.{NearHeld}
use Rattle.moves.proofs.select.nearer.Given as goal

abbrev pub invariant-loop-row : goal.invariant-loop-row
invariant-loop-row l = NearHeld l.scores l.weights l.end l.row l.held
