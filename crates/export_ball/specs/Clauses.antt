-- What the exported drawing and check answer in numbers.
--     check_in_numbers o k       a check in numbers, with the outcome o
--     draw_answer d m n c w     the answer to a drawing that is lent c places for X and w for the weights
--     check_answer k n c        the answer to a check that is lent c places for X
use Rattle.std.specs.Prelude.{ℕ, cond, ◌&&◌, leb}
use Rattle.refusal.specs.Outcome.{number_of, line_of, Outcome}
use Rattle.lent.specs.Clauses.{with_room}
use Rattle.export_answers.specs.Clauses.{figure, envelope_in_numbers}
use Rattle.export_answers.specs.declared.EnvelopeAnswer.{EnvelopeAnswer}
use Rattle.export_ball.specs.declared.CheckAnswer.{CheckAnswer}
use Rattle.drawing.specs.Draw.{DrawingOutcome}
use Rattle.checking.specs.Check.{Checked}

abbrev pub check_in_numbers : Outcome → Checked → CheckAnswer
check_in_numbers o k =
    record {
      number = number_of o;
      line = line_of o;
      settled = figure o (cond k.ball.settled 1 0);
      scaled_squared_radius = figure o k.ball.scaled_squared_radius;
      scaled_lower_bound = figure o k.ball.scaled_lower_bound;
    }

-- X needs n places, the weights m
abbrev pub draw_answer : DrawingOutcome → ℕ → ℕ → ℕ → ℕ → EnvelopeAnswer
draw_answer d m n centrePlaces weightsPlaces =
    envelope_in_numbers (with_room (leb n centrePlaces && leb m weightsPlaces) d.outcome) d.ball d.moves

abbrev pub check_answer : Checked → ℕ → ℕ → CheckAnswer
check_answer k n centrePlaces = check_in_numbers (with_room (leb n centrePlaces) k.outcome) k
