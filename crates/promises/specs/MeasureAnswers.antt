-- Demand 1, what a call that measures a reading answers, for the total and the types of the calls: parts of promises 1.2, 1.3 and 1.4.
--     measuring, measuring_given                the answer where so many places are lent, against figures, and against those that are given
--     MeasureCounts, measure_counts            1.2: an accepted call fills n places, which are within the values and within what is lent
--     MeasureAnswered, MeasuredNumbers         1.3: an answer is accepted or a listed refusal, in which the excess and s are 0
--     MeasuresListed, measures_listed          each call
--     MeasureRefused, measures_refused         1.4: the refusals of the verdict first, then 13
--     GivenMeasured, given-measured            1.4: 8 for the ending that is given first
use Rattle.std.specs.Prelude.{◌<◌, ◌≤◌, ℕ, ◌≡◌, refl, Bool, true, List, leb, ℤ, length}
use Rattle.std.proofs.Common.{◌∙◌, ap, subst, sym, arith, le-leb}
use Rattle.std.proofs.lemmas.Bool.{lt-leb}
use Rattle.integers.specs.Tests.{clash, nonzero}
use Rattle.refusal.specs.Number.{buffer_short, outside_limits}
use Rattle.refusal.specs.Outcome.{require, RefusalNumbers}
use Rattle.refusal.specs.OutcomeLaws.{each_answer}
use Rattle.limits.specs.Limits.{total}
use Rattle.channel.specs.Channel.{channel_types}
use Rattle.envelope.specs.declared.Figures.{Figures}
use Rattle.reading.specs.Verdict.{judged, refused_verdict, verdict_number, VerdictOutcome, Alarm, Quiet, Refused}
use Rattle.measured_reading.specs.Measured.{MeasuredReading, measure_answer, measured, not_measured, refused_measure, MeasuredOutcome}
use Rattle.measured_reading.specs.MeasuredLaws.{answer-accepted, answer_fits, answer_none, answer_short, measured-accepted, measured-judged, measured-refused, refusal_before_room}
use Rattle.export_figures.specs.Clauses.{ending_known, figures_given}
use Rattle.export_figures.specs.declared.FiguresGiven.{FiguresGiven}
use Rattle.export_reading.specs.Clauses.{measured_given, measured_in_numbers}
use Rattle.export_reading.specs.declared.MeasuredAnswer.{MeasuredAnswer}
use Rattle.promises.specs.Lent.{CountWithin}
use Rattle.promises.specs.Listed.{with_line}
use Rattle.promises.specs.ListedAnswers.{answers_listed}
use Rattle.promises.specs.ListedNumbers.{ListedNumber, verdict_numbers}
use Rattle.promises.specs.ListedVerdicts.{ListedVerdict, VerdictAnswered, verdict_answered}

abbrev pub measuring : Figures → List ℕ → ℕ → MeasuredOutcome
measuring f text places = measure_answer (measured total channel_types f text) places

abbrev pub measuring_given : FiguresGiven → List ℕ → List ℤ → List ℕ → ℕ → MeasuredOutcome
measuring_given given codes X text places = measure_answer (measured_given total channel_types given codes X text) places

-- ---- 1.2

pub record MeasureCounts : Type 0 where
  pub of_measure : (f : Figures) (text : List ℕ) (places : ℕ) → verdict_number (measuring f text places).verdict ≡ 0
      → CountWithin f.n (measured total channel_types f text).values places
  pub for_C_and_Rust : (given : FiguresGiven) (codes : List ℕ) (X : List ℤ) (text : List ℕ) (places : ℕ)
      → (measured_in_numbers (measuring_given given codes X text places)).number ≡ 0
      → CountWithin given.n (measured_given total channel_types given codes X text).values places

measure_count : (f : Figures) (text : List ℕ) (places : ℕ) → verdict_number (measuring f text places).verdict ≡ 0
    → CountWithin f.n (measured total channel_types f text).values places
measure_count f text places zero_number =
    let a = answer-accepted total channel_types f text places zero_number in
    (omega (arith, a.1.count), a.0)

given-count : (given : FiguresGiven) (codes : List ℕ) (X : List ℤ) (text : List ℕ) (places : ℕ)
    → verdict_number (measuring_given given codes X text places).verdict ≡ 0
    → CountWithin given.n (measured_given total channel_types given codes X text).values places
unfolding measured_given
given-count given codes X text places =
    each_answer (λ (m : MeasuredReading). verdict_number (measure_answer m places).verdict ≡ 0 → CountWithin given.n m.values places) (ending_known given)
    (λ _ zero_number. nonzero (sym (ap (λ (m : MeasuredOutcome). verdict_number m.verdict) (answer_none outside_limits 0 places)) ∙ zero_number))
    (λ _. measure_count (figures_given given codes X) text places)

pub measure_counts : MeasureCounts
measure_counts = record { of_measure = measure_count; for_C_and_Rust = given-count }

-- ---- 1.3

pub record MeasureAnswered (m : MeasuredOutcome) : Type 0 where
  pub verdict : VerdictAnswered m.verdict
  -- in a refusal s is 0
  pub distance : (verdict_number m.verdict ≡ 0 → ⊥) → m.scaled_squared_distance ≡ 0

-- in numbers, as of a verdict, with s
abbrev pub MeasuredNumbers : MeasuredAnswer → Type 0
MeasuredNumbers a =
    ListedNumber a.number a.line × (with_line a.number ≡ true → a.line ≡ 1)
    × ((a.number ≡ 0 → ⊥) → (a.verdict ≡ 0) × (a.excess ≡ 0) × (a.scaled_squared_distance ≡ 0))

pub record MeasuresListed : Type 0 where
  pub of_measure : (f : Figures) (text : List ℕ) (places : ℕ) → MeasureAnswered (measuring f text places)
  pub for_C_and_Rust : (given : FiguresGiven) (codes : List ℕ) (X : List ℤ) (text : List ℕ) (places : ℕ)
      → MeasuredNumbers (measured_in_numbers (measuring_given given codes X text places))

refusal_answered : (k l : ℕ) → ListedVerdict (refused_verdict k l) → MeasureAnswered (refused_measure k l)
refusal_answered k l listed = record { verdict = verdict_answered (refused_verdict k l) listed; distance = λ _. refl }

measured_answered : (f : Figures) (text : List ℕ) → MeasureAnswered (measured total channel_types f text).answer
measured_answered f text =
    record {
      verdict = subst VerdictAnswered (sym same) (answers_listed.of_reading f text);
      distance = λ refusal. go (judged total channel_types f text) refl (λ zero_number. refusal (ap verdict_number same ∙ zero_number));
    }
  where
    same : (measured total channel_types f text).answer.verdict ≡ judged total channel_types f text
    same = measured-judged total channel_types f text

    go : (v : VerdictOutcome) → judged total channel_types f text ≡ v → (verdict_number (judged total channel_types f text) ≡ 0 → ⊥)
        → (measured total channel_types f text).answer.scaled_squared_distance ≡ 0
    go Quiet is refusal = absurd (refusal (ap verdict_number is))
    go (Alarm excess) is refusal = absurd (refusal (ap verdict_number is))
    go (Refused r) is refusal = ap (λ (m : MeasuredReading). m.answer.scaled_squared_distance) (measured-refused total channel_types f text r is)

measure_answered : (f : Figures) (text : List ℕ) (places : ℕ) → MeasureAnswered (measuring f text places)
measure_answered f text places =
    each_answer MeasureAnswered (leb (length (measured total channel_types f text).values) places)
    (λ _. refusal_answered buffer_short 0 (refl, λ h. clash h refl)) (λ _. measured_answered f text)

given_answered : (given : FiguresGiven) (codes : List ℕ) (X : List ℤ) (text : List ℕ) (places : ℕ)
    → MeasureAnswered (measuring_given given codes X text places)
unfolding measured_given
given_answered given codes X text places =
    each_answer (λ (m : MeasuredReading). MeasureAnswered (measure_answer m places)) (ending_known given)
    (λ _. subst MeasureAnswered (sym (answer_none outside_limits 0 places)) (refusal_answered outside_limits 0 (refl, λ h. clash h refl)))
    (λ _. measure_answered (figures_given given codes X) text places)

pub measures_listed : MeasuresListed
measures_listed =
    record {
      of_measure = measure_answered;
      for_C_and_Rust = λ given codes X text places.
          let m = measuring_given given codes X text places in
          let answered = given_answered given codes X text places in
          let numbers = verdict_numbers m.verdict answered.verdict in
          (numbers.0, numbers.1, λ refusal. ((numbers.2 refusal).0, (numbers.2 refusal).1, answered.distance refusal));
    }

-- ---- 1.4

-- 8, 1, 3, 10, 4, then 13
pub record MeasureRefused (f : Figures) (text : List ℕ) (places : ℕ) : Type 0 where
  -- the verdict is that of the reading judged, and so is each refusal, however short the lent slice is
  pub same_verdict : (measured total channel_types f text).answer.verdict ≡ judged total channel_types f text
  pub refused_first : (r : RefusalNumbers) → judged total channel_types f text ≡ Refused r → measuring f text places ≡ refused_measure r.number r.line
  pub short_13 : verdict_number (judged total channel_types f text) ≡ 0 → places < f.n → measuring f text places ≡ refused_measure buffer_short 0
  pub else_measured : verdict_number (judged total channel_types f text) ≡ 0 → f.n ≤ places
      → measuring f text places ≡ (measured total channel_types f text).answer

pub measures_refused : (f : Figures) (text : List ℕ) (places : ℕ) → MeasureRefused f text places
measures_refused f text places =
    let same = measured-judged total channel_types f text in
    let count : verdict_number (judged total channel_types f text) ≡ 0 → length (measured total channel_types f text).values ≡ f.n =
    λ zero_number. (measured-accepted total channel_types f text (ap verdict_number same ∙ zero_number)).count in
    record {
      same_verdict = same;
      refused_first = refusal_before_room total channel_types f text places;
      short_13 = λ zero_number short. answer_short (measured total channel_types f text) places (omega (arith, count zero_number));
      else_measured = λ zero_number room. answer_fits (measured total channel_types f text) places (omega (arith, count zero_number));
    }

-- 8 for an ending outside 0 and 1, before any test of the call
pub record GivenMeasured (given : FiguresGiven) (codes : List ℕ) (X : List ℤ) (text : List ℕ) (places : ℕ) : Type 0 where
  pub measure_8 : 1 < given.settled → measuring_given given codes X text places ≡ refused_measure outside_limits 0
  pub measure_else : given.settled ≤ 1 → measuring_given given codes X text places ≡ measuring (figures_given given codes X) text places

pub given-measured : (given : FiguresGiven) (codes : List ℕ) (X : List ℤ) (text : List ℕ) (places : ℕ) → GivenMeasured given codes X text places
unfolding measured_given
given-measured given codes X text places =
    let chosen : (b : Bool) → MeasuredOutcome =
    λ b. measure_answer (require b (not_measured outside_limits 0) (λ _. measured total channel_types (figures_given given codes X) text)) places in
    record {
      measure_8 = λ h. ap chosen (lt-leb given.settled 1 h) ∙ answer_none outside_limits 0 places;
      measure_else = λ h. ap chosen (le-leb given.settled 1 h);
    }
