-- A measured reading: the verdict, s and the values as they read, for any total D and table of types. The tests are those of the verdict.
--     MeasuredOutcome, measured_outcome a      what measuring a reading answers, in numbers
--     refused_measure number line       the refusal with this number at this line; s is 0
--     measure_of D f values             the verdict on an accepted reading and its s
--     MeasuredReading                  verdict and s, and the values as they read
--     not_measured number line          a refused reading, which has no values
--     measured_as D f content           what is measured of what a text is
--     measured D types f text          what is measured of a text
--     measure_answer m places           the answer where so many places are lent for the values: 13 is tested last
use Rattle.std.specs.Prelude.{ℕ, List, [], map, leb, ℤ, length, Result, Ok, Err}
use Rattle.refusal.specs.Number.{buffer_short}
use Rattle.refusal.specs.Outcome.{require}
use Rattle.channel.specs.Channel.{Types}
use Rattle.value.specs.Value.{Written, reads}
use Rattle.envelope.specs.declared.Figures.{Figures}
use Rattle.reading.specs.Content.{Content, faulty, sound, reading_content, distance_of}
use Rattle.reading.specs.Verdict.{refused_verdict, verdict_on, VerdictOutcome, verdict_outcome}
use Rattle.refusal.specs.declared.Refusal.{Refusal}
use Rattle.measured_reading.specs.declared.Measured.{Measured}

-- the verdict on a reading and its s, which is 0 in a refusal, in numbers
pub record MeasuredOutcome : Type 0 where
  pub verdict : VerdictOutcome
  pub scaled_squared_distance : ℕ

abbrev pub measured_outcome : Result Measured Refusal → MeasuredOutcome
measured_outcome (Ok m) = record { verdict = verdict_outcome (Ok m.verdict); scaled_squared_distance = m.scaled_squared_distance }
measured_outcome (Err r) = record { verdict = verdict_outcome (Err r); scaled_squared_distance = 0 }

abbrev pub refused_measure : ℕ → ℕ → MeasuredOutcome
refused_measure number line = record { verdict = refused_verdict number line; scaled_squared_distance = 0 }

abbrev pub measure_of : ℕ → Figures → List Written → MeasuredOutcome
measure_of D f values = record { verdict = verdict_on D f (sound values); scaled_squared_distance = distance_of D f values }

pub record MeasuredReading : Type 0 where
  pub answer : MeasuredOutcome
  pub values : List ℤ

abbrev pub not_measured : ℕ → ℕ → MeasuredReading
not_measured number line = record { answer = refused_measure number line; values = [] }

abbrev pub measured_as : ℕ → Figures → Content → MeasuredReading
measured_as D f (faulty number line) = not_measured number line
measured_as D f (sound values) = record { answer = measure_of D f values; values = map reads values }

unfoldable pub measured : ℕ → Types → Figures → List ℕ → MeasuredReading
measured D types f text = measured_as D f (reading_content D types f text)

-- a refused reading has no values, so that its refusal stays
abbrev pub measure_answer : MeasuredReading → ℕ → MeasuredOutcome
measure_answer m places =
    require (leb (length m.values) places) (refused_measure buffer_short 0) (λ _.
    m.answer)
