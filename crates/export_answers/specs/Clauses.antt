-- The answers in numbers that several calls share.
--     figure o f                         a figure of an answer with the outcome o
--     envelope_in_numbers o ball moves     the figures of a drawing or a record in numbers, with the outcome o
--     written_in_numbers r                 what writing a text answers, in numbers
use Rattle.std.specs.Prelude.{ℕ, cond}
use Rattle.refusal.specs.Outcome.{number_of, line_of, Outcome, Accepted, Refused}
use Rattle.ball.specs.declared.Ball.{Ball}
use Rattle.export_answers.specs.declared.EnvelopeAnswer.{EnvelopeAnswer}
use Rattle.export_answers.specs.declared.WrittenAnswer.{WrittenAnswer}
use Rattle.lent.specs.Clauses.{TextWritten}

-- a figure where accepted, else 0
abbrev pub figure : Outcome → ℕ → ℕ
figure Accepted f = f
figure (Refused r) f = 0

abbrev pub envelope_in_numbers : Outcome → Ball → ℕ → EnvelopeAnswer
envelope_in_numbers o b moves =
    record {
      number = number_of o;
      line = line_of o;
      settled = figure o (cond b.settled 1 0);
      moves = figure o moves;
      scaled_squared_radius = figure o b.scaled_squared_radius;
      scaled_lower_bound = figure o b.scaled_lower_bound;
    }

abbrev pub written_in_numbers : TextWritten → WrittenAnswer
written_in_numbers r = record { number = number_of r.outcome; line = line_of r.outcome; length = r.length }
