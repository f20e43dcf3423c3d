-- What the exported calls on a reading answer in numbers.
--     verdict_code v                      0 where refused, 1 for Quiet, 2 for Alarm, so that no answer left unfilled says Quiet
--     verdict_in_numbers v                 a verdict in numbers
--     judge_answer D types ..             what the exported verdict answers
--     measured_in_numbers m                what is measured, in numbers
--     measured_given D types ..           what is measured against the figures that are given
use Rattle.std.specs.Prelude.{ℕ, List, ℤ}
use Rattle.refusal.specs.Number.{outside_limits}
use Rattle.channel.specs.Channel.{Types}
use Rattle.reading.specs.Verdict.{refused_verdict, verdict_number, verdict_line, verdict_excess, judged, VerdictOutcome, Quiet, Alarm, Refused}
use Rattle.measured_reading.specs.Measured.{MeasuredReading, not_measured, measured, MeasuredOutcome}
use Rattle.export_figures.specs.Clauses.{answer_given}
use Rattle.export_figures.specs.declared.FiguresGiven.{FiguresGiven}
use Rattle.export_reading.specs.declared.MeasuredAnswer.{MeasuredAnswer}
use Rattle.export_reading.specs.declared.VerdictAnswer.{VerdictAnswer}

abbrev pub verdict_code : VerdictOutcome → ℕ
verdict_code Quiet = 1
verdict_code (Alarm excess) = 2
verdict_code (Refused r) = 0

abbrev pub verdict_in_numbers : VerdictOutcome → VerdictAnswer
verdict_in_numbers v =
    record { number = verdict_number v; line = verdict_line v; verdict = verdict_code v; excess = verdict_excess v }

unfoldable pub judge_answer : ℕ → Types → FiguresGiven → List ℕ → List ℤ → List ℕ → VerdictAnswer
judge_answer D types given codes scaled_centre text =
    verdict_in_numbers (answer_given (λ f. judged D types f text) (refused_verdict outside_limits 0) given codes scaled_centre)

abbrev pub measured_in_numbers : MeasuredOutcome → MeasuredAnswer
measured_in_numbers m =
    let v = verdict_in_numbers m.verdict in
    record { number = v.number; line = v.line; verdict = v.verdict; excess = v.excess; scaled_squared_distance = m.scaled_squared_distance }

unfoldable pub measured_given : ℕ → Types → FiguresGiven → List ℕ → List ℤ → List ℕ → MeasuredReading
measured_given D types given codes scaled_centre text =
    answer_given (λ f. measured D types f text) (not_measured outside_limits 0) given codes scaled_centre
