-- Demand 1 and request 2, what a call that tries alert settings answers, for the total and the types of the calls: parts of promises 1.2,
-- 1.3, 1.4 and R2.
--     trying, trying_given               the answer where so many places are lent, against figures, and against those that are given
--     TrialCounts, trial_counts         1.2: an accepted call fills so many places, which are within the text and within what is lent
--     TrialNumber number                8, 14, 1 or 13
--     TrialAnswered                     1.3: an answer is accepted or such a refusal at line 0, in which the length is 0
--     TrialsListed, trials_listed       each call
--     trial_kept                        1.2: a refused call leaves every lent place as at entry
--     trial_room_enough                 13 meets no buffer that holds the text
--     WithinLimits settings             the settings that 14 does not meet
--     TrialRefused, trials_refused      1.4: 8, 14, 1, then 13
--     GivenTried, given_tried           1.4: 8 for the ending that is given first
use Rattle.std.specs.Prelude.{◌%◌, ◌*◌, ◌<◌, ◌≤◌, suc, ℕ, ◌≡◌, refl, Bool, ◌&&◌, false, true, List, [], ◌∷◌, ◌↔◌, ◌⊎◌, leb, ℤ, get_or, length}
use Rattle.std.proofs.Common.{zero-le, ◌∙◌, ap, ap₂, subst, sym, inl, inr, arith, le-leb}
use Rattle.std.proofs.lemmas.Bool.{lt-leb}
use Rattle.integers.specs.Tests.{range_in}
use Rattle.refusal.specs.Number.{alert_settings, buffer_short, outside_limits, text_length}
use Rattle.refusal.specs.Outcome.{line_of, number_of, refused, require, Refused, RefusalNumbers}
use Rattle.refusal.specs.OutcomeLaws.{each_answer}
use Rattle.limits.specs.Limits.{run_limit, total}
use Rattle.lent.specs.ContractLaws.{text_fits, text_most}
use Rattle.lent.specs.Clauses.{not_written, text_written, written, TextWritten}
use Rattle.text.specs.Lines.{print_lines}
use Rattle.text.specs.Parts.{text_within}
use Rattle.channel.specs.Channel.{channel_types}
use Rattle.envelope.specs.Figures.{figures_known}
use Rattle.envelope.specs.declared.Figures.{Figures}
use Rattle.alert_settings.specs.Settings.{runs_within, settings_of, settings_within}
use Rattle.alert_settings.specs.SettingsLaws.{runs_at, settings_runs, settings_within_lem}
use Rattle.alert_trial.specs.Clauses.{trial_text, trial_written}
use Rattle.alert_trial.specs.Trial.{Trial, faulty, sound, trial_lines, trial_of, verdicts_on}
use Rattle.alert_trial.specs.TrialLaws.{each_trial, trial-figures, trial_fits, trial-length, trial-refused, trial_settings, trial_short, trial_sound}
use Rattle.export_answers.specs.Clauses.{written_in_numbers}
use Rattle.export_alerts.specs.Clauses.{trial_given}
use Rattle.export_figures.specs.Clauses.{ending_known, figures_given}
use Rattle.export_figures.specs.declared.FiguresGiven.{FiguresGiven}
use Rattle.promises.specs.Lent.{CountWithin}
use Rattle.promises.specs.Listed.{KeptWhereRefused, apart, is_refusal_at, refused-answer, refused_keeps}
use Rattle.promises.specs.ListedAnswers.{TextAnswered, answers_listed}
use Rattle.promises.specs.ListedNumbers.{WrittenNumbers, written-numbers}

abbrev pub trying : Figures → List ℕ → List ℕ → ℕ → TextWritten
trying f settings readings places = trial_written (trial_of total channel_types f settings readings) places

abbrev pub trying_given : FiguresGiven → List ℕ → List ℤ → List ℕ → List ℕ → ℕ → TextWritten
trying_given given codes X settings readings places = trial_written (trial_given total channel_types given codes X settings readings) places

-- ---- 1.2

pub record TrialCounts : Type 0 where
  pub of_trial : (f : Figures) (settings readings : List ℕ) (places : ℕ)
      → CountWithin (trying f settings readings places).length (trial_text (trial_of total channel_types f settings readings)) places
  -- in numbers the answer has the same length
  pub for_C_and_Rust : (given : FiguresGiven) (codes : List ℕ) (X : List ℤ) (settings readings : List ℕ) (places : ℕ)
      → CountWithin (trying_given given codes X settings readings places).length (trial_text (trial_given total channel_types given codes X settings readings)) places

trial-count : (trial : Trial) (places : ℕ) → CountWithin (trial_written trial places).length (trial_text trial) places
trial-count (faulty number) places = (zero-le, zero-le)
trial-count (sound text) places = let most = text_most text places in (most.1, most.0)

pub trial_counts : TrialCounts
trial_counts =
    record {
      of_trial = λ f settings readings. trial-count (trial_of total channel_types f settings readings);
      for_C_and_Rust = λ given codes X settings readings. trial-count (trial_given total channel_types given codes X settings readings);
    }

-- ---- 1.3

-- refused before 13
abbrev EarlyNumber : ℕ → Type 0
EarlyNumber number = (number ≡ outside_limits) ⊎ ((number ≡ alert_settings) ⊎ (number ≡ text_length))

abbrev pub TrialNumber : ℕ → Type 0
TrialNumber number = EarlyNumber number ⊎ (number ≡ buffer_short)

pub record TrialAnswered (w : TextWritten) : Type 0 where
  pub answered : TextAnswered w
  pub numbers : (r : RefusalNumbers) → w.outcome ≡ Refused r → TrialNumber r.number × (r.line ≡ 0)
  pub for_C_and_Rust : WrittenNumbers (written_in_numbers w)

pub record TrialsListed : Type 0 where
  pub of_trial : (f : Figures) (settings readings : List ℕ) (places : ℕ) → TrialAnswered (trying f settings readings places)
  pub of_given_trial : (given : FiguresGiven) (codes : List ℕ) (X : List ℤ) (settings readings : List ℕ) (places : ℕ)
      → TrialAnswered (trying_given given codes X settings readings places)

-- before 13 a trial is accepted, or refused by 8, 14 or 1
abbrev KnownTrial : Trial → Type 0
KnownTrial (faulty number) = EarlyNumber number
KnownTrial (sound text) = Unit {0}

number_listed : (number : ℕ) → EarlyNumber number → is_refusal_at number 0 ≡ true
number_listed number (inl e) = rw e
number_listed number (inr (inl e)) = rw e
number_listed number (inr (inr e)) = rw e

before_13 : (number : ℕ) → EarlyNumber number → number ≡ buffer_short → ⊥
before_13 number (inl e) short = omega arith
before_13 number (inr (inl e)) short = omega arith
before_13 number (inr (inr e)) short = omega arith

trial_answered : (trial : Trial) → KnownTrial trial → (places : ℕ) → TrialAnswered (trial_written trial places)
trial_answered (faulty number) known places =
    let answered : TextAnswered (not_written (refused number)) =
    refused-answer (λ (w : TextWritten). w.outcome) (λ r. not_written (Refused r)) (record { number = number; line = 0 }) refl (number_listed number known) in
    record {
      answered = answered;
      numbers = λ r e. (inl (subst EarlyNumber (ap number_of e) known), sym (ap line_of e));
      for_C_and_Rust = written-numbers (not_written (refused number)) answered;
    }
trial_answered (sound text) known places =
    let answered = answers_listed.of_output text places in
    record {
      answered = answered;
      numbers = λ r.
          each_answer (λ (w : TextWritten). w.outcome ≡ Refused r → TrialNumber r.number × (r.line ≡ 0)) (leb (length text) places)
          (λ _ e. (inr (sym (ap number_of e)), sym (ap line_of e))) (λ _ e. apart e);
      for_C_and_Rust = written-numbers (text_written text places) answered;
    }

trial-known : (f : Figures) (settings readings : List ℕ) → KnownTrial (trial_of total channel_types f settings readings)
trial-known f settings readings =
    each_trial total channel_types f settings readings KnownTrial (λ _. inl refl) (λ _ _. inr (inl refl)) (λ _ _ _. inr (inr refl)) (λ _ _ _. tt)

given-known : (given : FiguresGiven) (codes : List ℕ) (X : List ℤ) (settings readings : List ℕ)
    → KnownTrial (trial_given total channel_types given codes X settings readings)
unfolding trial_given
given-known given codes X settings readings =
    each_answer KnownTrial (ending_known given) (λ _. inl refl) (λ _. trial-known (figures_given given codes X) settings readings)

pub trials_listed : TrialsListed
trials_listed =
    record {
      of_trial = λ f settings readings. trial_answered (trial_of total channel_types f settings readings) (trial-known f settings readings);
      of_given_trial = λ given codes X settings readings.
          trial_answered (trial_given total channel_types given codes X settings readings) (given-known given codes X settings readings);
    }

pub trial_kept : (f : Figures) (settings readings : List ℕ) (places : ℕ) → KeptWhereRefused (trying f settings readings places).outcome
trial_kept f settings readings places =
    refused_keeps (trying f settings readings places).outcome (trials_listed.of_trial f settings readings places).answered.listed

-- a text that fits is not refused by 13
pub trial_room_enough : (f : Figures) (settings readings : List ℕ) (places : ℕ) → length (trial_text (trial_of total channel_types f settings readings)) ≤ places
    → number_of (trying f settings readings places).outcome ≡ buffer_short → ⊥
trial_room_enough f settings readings places = go (trial_of total channel_types f settings readings) (trial-known f settings readings)
  where
    go : (trial : Trial) → KnownTrial trial → length (trial_text trial) ≤ places → number_of (trial_written trial places).outcome ≡ buffer_short → ⊥
    go (faulty number) known fits e = before_13 number known e
    go (sound text) known fits e = omega (arith, ap (λ (w : TextWritten). number_of w.outcome) (text_fits text places fits), e)

-- ---- 1.4

-- 14 is not met by one list of numbers k, c, k, c of 1 to 20 settings, each number from 1 to 99
pub record WithinLimits (settings : List ℕ) : Type 0 where
  pub even : length settings % 2 ≡ 0
  pub some : 1 ≤ length settings
  pub most : length settings ≤ 2 * 20
  pub each : (i : ℕ) → i < length settings → (1 ≤ get_or settings i 0) × (get_or settings i 0 ≤ 99)

-- 8, 14, 1, then 13, all at line 0
pub record TrialRefused (f : Figures) (settings readings : List ℕ) (places : ℕ) : Type 0 where
  pub figures_8 : figures_known total channel_types f ≡ false → trying f settings readings places ≡ not_written (refused outside_limits)
  pub settings_14 : figures_known total channel_types f ≡ true → settings_within settings ≡ false
      → trying f settings readings places ≡ not_written (refused alert_settings)
  pub settings_limits : (settings_within settings ≡ true) ↔ WithinLimits settings
  pub readings_1 : figures_known total channel_types f ≡ true → settings_within settings ≡ true → text_within readings ≡ false
      → trying f settings readings places ≡ not_written (refused text_length)
  -- and else there is a text
  pub some_text : figures_known total channel_types f ≡ true → settings_within settings ≡ true → text_within readings ≡ true
      → trial_of total channel_types f settings readings ≡ sound (print_lines (trial_lines (settings_of settings) (verdicts_on total channel_types f readings)))
  pub buffer_13 : (text : List ℕ) → trial_of total channel_types f settings readings ≡ sound text → places < length text
      → trying f settings readings places ≡ not_written (refused buffer_short)
  pub else_written : (text : List ℕ) → trial_of total channel_types f settings readings ≡ sound text → length text ≤ places
      → trying f settings readings places ≡ written (length text)

runs-within : (numbers : List ℕ) → ((i : ℕ) → i < length numbers → (1 ≤ get_or numbers i 0) × (get_or numbers i 0 ≤ run_limit)) → runs_within numbers ≡ true
unfolding runs_within
runs-within [] each = refl
runs-within (number ∷ numbers) each =
    ap₂ ◌&&◌ (range_in 1 run_limit number (each 0 (omega arith)).0 (each 0 (omega arith)).1)
    (runs-within numbers (λ i below. each (suc i) (omega arith)))

within_limits : (settings : List ℕ) → (settings_within settings ≡ true) ↔ WithinLimits settings
within_limits settings = (
  λ h.
      let within = settings_within_lem settings h in
      record { even = within.even; some = within.some; most = within.most; each = runs_at settings within.runs },
  λ limits. settings_runs settings limits.even limits.some limits.most ∙ runs-within settings limits.each,
)

pub trials_refused : (f : Figures) (settings readings : List ℕ) (places : ℕ) → TrialRefused f settings readings places
trials_refused f settings readings places =
    let turned = trial-refused total channel_types f settings readings in
    record {
      figures_8 = λ h. turned outside_limits places (trial-figures total channel_types f settings readings h);
      settings_14 = λ within h. turned alert_settings places (trial_settings total channel_types f settings readings within h);
      settings_limits = within_limits settings;
      readings_1 = λ within settings_in h. turned text_length places (trial-length total channel_types f settings readings within settings_in h);
      some_text = trial_sound total channel_types f settings readings;
      buffer_13 = λ text is. trial_short total channel_types f settings readings text is places;
      else_written = λ text is. trial_fits total channel_types f settings readings text is places;
    }

-- 8 for an ending outside 0 and 1, before any test of the call
pub record GivenTried (given : FiguresGiven) (codes : List ℕ) (X : List ℤ) (settings readings : List ℕ) (places : ℕ) : Type 0 where
  pub ending_8 : 1 < given.settled → trying_given given codes X settings readings places ≡ not_written (refused outside_limits)
  pub else_tried : given.settled ≤ 1 → trying_given given codes X settings readings places ≡ trying (figures_given given codes X) settings readings places

pub given_tried : (given : FiguresGiven) (codes : List ℕ) (X : List ℤ) (settings readings : List ℕ) (places : ℕ)
    → GivenTried given codes X settings readings places
unfolding trial_given
given_tried given codes X settings readings places =
    let chosen : (b : Bool) → TextWritten =
    λ b. trial_written (require b (faulty outside_limits) (λ _. trial_of total channel_types (figures_given given codes X) settings readings)) places in
    record { ending_8 = λ h. ap chosen (lt-leb given.settled 1 h); else_tried = λ h. ap chosen (le-leb given.settled 1 h) }
