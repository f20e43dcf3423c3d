-- A measured reading, for a reader.
--     measured_as_lem                       what is measured is by what the text is
--     measured-judged                   the verdict is that of `judged`, for every text and all figures
--     Measures D types f text           what is measured of an accepted reading: its n values as they read, and their s
--     measured-accepted                 so is every text that is not refused
--     quiet_measured, alarm_measured    then s is at most M exactly where it is Quiet, and above M by the excess of an Alarm
--     measured-refused                  a text that is refused has s 0 and no values
--     answer_fits, answer_short         the answer where as many places are lent as there are values, and where fewer are
--     answer_none                       the answer where there is nothing to hand out
--     refusal_before_room               a refusal of the text comes before 13
--     answer-accepted                   an answer of the number 0 is an accepted reading's, and its n values have places
use Rattle.std.specs.Prelude.{ℕ, ◌+◌, ◌≤◌, ◌<◌, ◌≡◌, Bool, List, map, leb, length}
use Rattle.std.proofs.Common.{zero-le, sym, ◌∙◌, arith, leb-true, le-leb}
use Rattle.std.proofs.Math.Path.{refl, ap}
use Rattle.std.proofs.lemmas.Bool.{lt-leb}
use Rattle.std.proofs.lemmas.List.{length-map}
use Rattle.integers.specs.Tests.{impossible, nonzero}
use Rattle.refusal.specs.Number.{buffer_short}
use Rattle.refusal.specs.Outcome.{require, RefusalNumbers}
use Rattle.refusal.specs.OutcomeLaws.{each_answer}
use Rattle.channel.specs.Channel.{Types}
use Rattle.value.specs.Value.{reads}
use Rattle.envelope.specs.declared.Figures.{Figures}
use Rattle.reading.specs.Content.{Content, faulty, sound, reading_content, distance_of}
use Rattle.reading.specs.ContentLaws.{Accepted}
use Rattle.reading.specs.Verdict.{verdict_number, verdict_on, judged, Quiet, Alarm, Refused}
use Rattle.reading.specs.VerdictLaws.{quiet_or_alarm, accepted-printed, quiet_in_ball, alarm_off_ball}
use Rattle.measured_reading.specs.Measured.{refused_measure, MeasuredReading, not_measured, measured_as, measured, measure_answer, MeasuredOutcome}

module _ (D : ℕ) (types : Types) (f : Figures) (text : List ℕ) where
  pub measured_as_lem : {c : Content} → reading_content D types f text ≡ c → measured D types f text ≡ measured_as D f c
  unfolding measured
  measured_as_lem is = ap (measured_as D f) is

  pub measured-judged : (measured D types f text).answer.verdict ≡ judged D types f text
  unfolding measured judged
  measured-judged = go (reading_content D types f text)
    where
      go : (c : Content) → (measured_as D f c).answer.verdict ≡ verdict_on D f c
      go (faulty k l) = refl
      go (sound values) = refl

  -- ---- accepted and refused

  pub record Measures : Type 0 where
    -- the text is the printing of a reading with the channels' tags, and of these values
    pub accepted : Accepted D types f text
    pub values : (measured D types f text).values ≡ map reads accepted.values
    pub count : length (measured D types f text).values ≡ f.n
    pub distance : (measured D types f text).answer.scaled_squared_distance ≡ distance_of D f accepted.values

  measures : (a : Accepted D types f text) → Measures
  measures a =
      let is = measured_as_lem a.content in
      record {
        accepted = a;
        values = ap (λ (m : MeasuredReading). m.values) is;
        count = ap (λ (m : MeasuredReading). length m.values) is ∙ length-map a.values reads ∙ a.complete;
        distance = ap (λ (m : MeasuredReading). m.answer.scaled_squared_distance) is;
      }

  pub measured-accepted : verdict_number (measured D types f text).answer.verdict ≡ 0 → Measures
  measured-accepted h = measures (accepted-printed D types f text (ap verdict_number (sym measured-judged) ∙ h))

  -- s is at most M exactly where the verdict is Quiet, and M and the excess together where it is Alarm
  module _ (m : Measures) where
    pub quiet_measured : ((measured D types f text).answer.verdict ≡ Quiet
        → (measured D types f text).answer.scaled_squared_distance ≤ f.ball.scaled_squared_radius)
        × ((measured D types f text).answer.scaled_squared_distance ≤ f.ball.scaled_squared_radius
        → (measured D types f text).answer.verdict ≡ Quiet)
    quiet_measured =
        let in-ball = quiet_in_ball m.accepted in
        (λ quiet. omega (arith, m.distance, in-ball.0 (sym measured-judged ∙ quiet)), λ h. measured-judged ∙ in-ball.1 (omega (arith, m.distance)))

    pub alarm_measured : (e : ℕ)
        → ((measured D types f text).answer.verdict ≡ Alarm e
        → ((measured D types f text).answer.scaled_squared_distance ≡ f.ball.scaled_squared_radius + e) × (0 < e))
        × (((measured D types f text).answer.scaled_squared_distance ≡ f.ball.scaled_squared_radius + e) × (0 < e)
        → (measured D types f text).answer.verdict ≡ Alarm e)
    alarm_measured e =
        let off-ball = alarm_off_ball m.accepted e in (
          λ alarm. let by = off-ball.0 (sym measured-judged ∙ alarm) in (m.distance ∙ by.0, by.1),
          λ h. measured-judged ∙ off-ball.1 (sym m.distance ∙ h.0, h.1),
        )

  pub measured-refused : (r : RefusalNumbers) → judged D types f text ≡ Refused r → measured D types f text ≡ not_measured r.number r.line
  unfolding measured judged
  measured-refused r = go (reading_content D types f text)
    where
      go : (c : Content) → verdict_on D f c ≡ Refused r → measured_as D f c ≡ not_measured r.number r.line
      go (faulty k l) is = let same : record { number = k; line = l } ≡ r = cc in ap (λ (x : RefusalNumbers). not_measured x.number x.line) same
      go (sound values) is =
          quiet_or_alarm (distance_of D f values) f.ball.scaled_squared_radius
          (λ v. v ≡ Refused r → measured_as D f (sound values) ≡ not_measured r.number r.line) (λ e. impossible (cc)) (λ _ e. impossible (cc)) is

-- ---- the answer where places are lent

module _ (m : MeasuredReading) (places : ℕ) where
  chosen : {b : Bool} → leb (length m.values) places ≡ b → measure_answer m places ≡ require b (refused_measure buffer_short 0) (λ _. m.answer)
  chosen e = ap (λ (b : Bool). require b (refused_measure buffer_short 0) (λ _. m.answer)) e

  pub answer_fits : length m.values ≤ places → measure_answer m places ≡ m.answer
  answer_fits h = chosen (le-leb (length m.values) places h)

  pub answer_short : places < length m.values → measure_answer m places ≡ refused_measure buffer_short 0
  answer_short h = chosen (lt-leb (length m.values) places h)

pub answer_none : (k l places : ℕ) → measure_answer (not_measured k l) places ≡ refused_measure k l
answer_none k l places = answer_fits (not_measured k l) places zero-le

module _ (D : ℕ) (types : Types) (f : Figures) (text : List ℕ) (places : ℕ) where
  pub refusal_before_room : (r : RefusalNumbers) → judged D types f text ≡ Refused r
      → measure_answer (measured D types f text) places ≡ refused_measure r.number r.line
  refusal_before_room r is =
      ap (λ (m : MeasuredReading). measure_answer m places) (measured-refused D types f text r is) ∙ answer_none r.number r.line places

  pub answer-accepted : verdict_number (measure_answer (measured D types f text) places).verdict ≡ 0
      → (f.n ≤ places) × Measures D types f text
  answer-accepted =
      each_answer (λ (r : MeasuredOutcome). verdict_number r.verdict ≡ 0 → (f.n ≤ places) × Measures D types f text)
      (leb (length (measured D types f text).values) places)
      (λ _ h. nonzero h)
      (λ fits h.
      let m = measured-accepted D types f text h in
      (omega (arith, m.count, leb-true (length (measured D types f text).values) places fits), m))
