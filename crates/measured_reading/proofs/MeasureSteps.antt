-- What is measured of a text, from its s, or its refusal.
--     few_places           each channel of a reading has a place
--     answered_short       a reading for whose values too few places are lent
--     answered             one for whose values there are places
--     answered_refused     a text that is refused
--     values_filled        the lent places, from those that the values were read into
use Prim.Native.Nat.{ℕ, ◌≤◌, ◌<◌}
use mathlib.Core.Path.{◌≡◌, sym, ap, ap₂, ◌∙◌}
use mathlib.Core.List.{List, ◌++◌, map}
use native.Mathlib.Omega.{arith}
use lib.IntN.{ℤ}
use lib.ListN.{length, take, drop, length-map}
use lib.Seq.{take_all, take-append_seam}
use Rattle.refusal.specs.Number.{buffer_short}
use Rattle.limits.specs.Limits.{channel_limit}
use Rattle.lent.specs.Filled.{filled}
use Rattle.channel.specs.Channel.{Types}
use Rattle.value.specs.Value.{Written, reads}
use Rattle.envelope.specs.FigureLaws.{known-within}
use Rattle.envelope.specs.declared.Figures.{Figures}
use Rattle.reading.specs.Content.{reading_content, faulty, sound, distance_of}
use Rattle.reading.specs.ContentLaws.{sound_accepted}
use Rattle.reading.specs.Clauses.{DistanceRead, Distance}
use Rattle.reading.specs.Verdict.{verdict_of, VerdictOutcome}
use Rattle.measured_reading.specs.Measured.{refused_measure, measure_of, MeasuredReading, measured, measure_answer}
use Rattle.measured_reading.specs.MeasuredLaws.{measured_as_lem, answer_fits, answer_short, answer_none}

module _ (D : ℕ) (types : Types) (f : Figures) (text : List ℕ) (places : ℕ) where
  pub answered_refused : {k l : ℕ} → reading_content D types f text ≡ faulty k l → measure_answer (measured D types f text) places ≡ refused_measure k l
  answered_refused {k} {l} is =
      ap (λ (r : MeasuredReading). measure_answer r places) (measured_as_lem D types f text is)
      ∙ answer_none k l places

  module _ {values : List Written} (is : reading_content D types f text ≡ sound values) where
    -- as many values as channels
    pub as_many : length (map reads values) ≡ f.n
    as_many =
        let a = sound_accepted D types f text values is in
        length-map values reads ∙ ap length (sym a.1) ∙ a.0.complete

    pub few_places : f.n ≤ channel_limit
    few_places = (known-within D types f (sound_accepted D types f text values is).0.within).channels

    measures : measured D types f text ≡ record { answer = measure_of D f values; values = map reads values }
    measures = measured_as_lem D types f text is

    pub answered_short : places < f.n → measure_answer (measured D types f text) places ≡ refused_measure buffer_short 0
    answered_short h = answer_short (measured D types f text) places (omega (arith, ap (λ (r : MeasuredReading). length r.values) measures, as_many))

    pub answered : f.n ≤ places → {v : VerdictOutcome} {s : ℕ} → v ≡ verdict_of s f.ball.scaled_squared_radius → s ≡ distance_of D f values
        → record { verdict = v; scaled_squared_distance = s } ≡ measure_answer (measured D types f text) places
    answered h by is-s =
        ap₂ (λ (v : VerdictOutcome) (s : ℕ). record { verdict = v; scaled_squared_distance = s })
        (by ∙ ap (λ (s : ℕ). verdict_of s f.ball.scaled_squared_radius) is-s) is-s
        ∙ sym (ap (λ (r : MeasuredReading). r.answer) measures)
        ∙ sym (answer_fits (measured D types f text) places (omega (arith, ap (λ (r : MeasuredReading). length r.values) measures, as_many)))

    pub values_filled : (lent₀ : List ℤ) {places₀ source lent : List ℤ} {r : Distance} → DistanceRead D types f text places₀ source r
        → lent ≡ filled 0 f.n source lent₀ → lent ≡ filled 0 f.n (measured D types f text).values lent₀
    unfolding filled
    values_filled lent₀ {places₀} read filling =
        filling ∙ ap (λ (l : List ℤ). l ++ drop f.n lent₀)
        (ap₂ (λ k (l : List ℤ). take k l) (sym as_many) (read.written values is) ∙ take-append_seam (map reads values) (drop f.n places₀)
        ∙ sym (take_all f.n (map reads values) (omega (arith, as_many)))
        ∙ ap (λ (r : MeasuredReading). take f.n r.values) (sym measures))
