-- What follows 65,537 bytes of a text changes no program's output, for any total D, row limit and table of types: a text above the limit on
-- texts is refused, whatever it is.
--     within-read                 what refuses a text above the limit gives the same for the bytes read
--     content-read                a reference text
--     against-read                a reference text and a record
--     settings_read               a settings text, which is not longer than the limit on texts where it is accepted
--     trial-read                  readings on which settings are tried
--     draw_long, verify_long, panel_long, judge_long, alerts_long, plain_long     the programs
use Rattle.std.specs.Prelude.{ℕ, ◌<◌, ◌≡◌, Bool, ℤ, length, take}
use Rattle.std.proofs.Math.Path.{refl, sym, ap}
use Rattle.std.proofs.Common.{◌∙◌, arith, take_all}
use Rattle.std.proofs.Math.Bool.{true, false}
use mathlib.Core.List.{List}
use Rattle.std.proofs.Math.Option.{Option, none, some}
use borrow.Author.Tests.{leb-true, leb-false}
use Rattle.std.proofs.Math.Dec.{leb}
use Rattle.std.proofs.Math.Seq.{length-take-le}
use Rattle.integers.specs.Tests.{range_over}
use Rattle.refusal.specs.Number.{text_length, outside_limits, alert_settings}
use Rattle.refusal.specs.Outcome.{refused, require}
use Rattle.text.specs.Parts.{text_within}
use Rattle.limits.specs.Limits.{text_limit}
use Rattle.channel.specs.Channel.{Types}
use Rattle.reference_rows.specs.ReferenceText.{codes_of, channel_count, row_count, table_of}
use Rattle.reference_rows.specs.Rows.{Content, faulty, sound}
use Rattle.reference.specs.Reference.{content}
use Rattle.reference.specs.RefusalLaws.{refuses_long}
use Rattle.envelope.specs.Figures.{figures_known}
use Rattle.envelope.specs.declared.Figures.{Figures}
use Rattle.alert_settings.specs.Settings.{settings_within}
use Rattle.alert_trial.specs.Trial.{faulty as untried, trial_of}
use Rattle.settings_text.specs.SettingsText.{text_of_settings}
use Rattle.settings_text.specs.SettingsTextLaws.{refuses_long as refuses-long-settings}
use Rattle.record_read.specs.Clauses.{not_read, record_read, EnvelopeRead}
use Rattle.typed_rows.specs.Given.{given_within}
use Rattle.record_read.specs.ReadLaws.{read_limits, read_length}
use Rattle.program_lines.specs.Lines.{print_refusal, print_accepted}
use Rattle.program_draw.specs.Output.{content_output, draw_output}
use Rattle.program_judge.specs.Output.{judge_output}
use Rattle.program_verdicts.specs.Output.{readings_output}
use Rattle.program_panel.specs.Output.{shown_output, panel_output}
use Rattle.program_record.specs.Against.{unless_refused, content_against, record_against, of_figures}
use Rattle.program_verify.specs.Output.{verify_output}
use Rattle.program_alerts.specs.Output.{trial_output, settings_output, alerts_output}
use Rattle.program_plain.specs.Output.{plain_output}
use Rattle.program_plain.specs.OutputLaws.{plain_faulty}
use Rattle.program_laws.specs.LongTexts.{read_limit, bytes_read}

-- ---- a text

within_long : (text : List ℕ) → text_limit < length text → text_within text ≡ false
within_long text h = range_over 1 text_limit (length text) h

module _ {A : Type 0} (given : List ℕ → A) (refusal : A) (refuses : (text : List ℕ) → text_limit < length text → given text ≡ refusal) where
  pub within-read : (text : List ℕ) → given (bytes_read text) ≡ given text
  unfolding bytes_read
  within-read text = go (leb (length text) read_limit) refl
    where
      go : (t : Bool) → leb (length text) read_limit ≡ t → given (take read_limit text) ≡ given text
      go true e = ap given (take_all read_limit text (leb-true (length text) read_limit e))
      go false e =
          let long = leb-false (length text) read_limit e in
          refuses (take read_limit text) (omega (arith, length-take-le read_limit text (omega arith)))
          ∙ sym (refuses text (omega arith))

pub settings_read : (settings : List ℕ) → text_of_settings (bytes_read settings) ≡ text_of_settings settings
settings_read = within-read text_of_settings none (λ settings h. refuses-long-settings settings (omega arith))

module _ (D limit : ℕ) (types : Types) where
  pub content-read : (reference : List ℕ) → content limit types (bytes_read reference) ≡ content limit types reference
  content-read = within-read (content limit types) (faulty text_length 0) (refuses_long limit types)

  record_read_lem : (rows : List ℤ) (m n : ℕ) (codes text : List ℕ)
      → record_read D limit types rows m n codes (bytes_read text) ≡ record_read D limit types rows m n codes text
  record_read_lem rows m n codes text = go (given_within limit types rows m n codes) refl
    where
      go : (t : Bool) → given_within limit types rows m n codes ≡ t
          → record_read D limit types rows m n codes (bytes_read text) ≡ record_read D limit types rows m n codes text
      go true given =
          within-read (record_read D limit types rows m n codes) (not_read limit (refused text_length))
          (λ text h. read_length D limit types rows m n codes text given (within_long text h)) text
      go false outside =
          read_limits D limit types rows m n codes (bytes_read text) outside ∙ sym (read_limits D limit types rows m n codes text outside)

  readings_read : (f : Figures) (readings : List ℕ) → readings_output D types f (bytes_read readings) ≡ readings_output D types f readings
  unfolding readings_output
  readings_read f = within-read (readings_output D types f) (print_refusal text_length 0) (λ readings h. rw (within_long readings h))

  -- long readings are refused, unless the figures or the settings are before them
  pub trial-read : (f : Figures) (numbers readings : List ℕ) → trial_of D types f numbers (bytes_read readings) ≡ trial_of D types f numbers readings
  unfolding trial_of
  trial-read f numbers =
      within-read (trial_of D types f numbers)
      (require (figures_known D types f) (untried outside_limits) (λ _. require (settings_within numbers) (untried alert_settings) (λ _. untried text_length)))
      (λ readings h. rw (within_long readings h))

  settings_tried : (f : Figures) (settings readings : List ℕ)
      → settings_output D types f (text_of_settings (bytes_read settings)) (bytes_read readings) ≡ settings_output D types f (text_of_settings settings) readings
  settings_tried f settings readings =
      ap (λ (numbers : Option (List ℕ)). settings_output D types f numbers (bytes_read readings)) (settings_read settings) ∙ go (text_of_settings settings)
    where
      go : (numbers : Option (List ℕ)) → settings_output D types f numbers (bytes_read readings) ≡ settings_output D types f numbers readings
      go none = refl
      go (some numbers) = ap trial_output (trial-read f numbers readings)

  pub against-read : (reference text : List ℕ) → record_against D limit types (bytes_read reference) (bytes_read text) ≡ record_against D limit types reference text
  unfolding record_against
  against-read reference text =
      ap (content_against D limit types (bytes_read text)) (content-read reference) ∙ go (content limit types reference)
    where
      go : (c : Content) → content_against D limit types (bytes_read text) c ≡ content_against D limit types text c
      go (faulty number line) = refl
      go (sound found) = record_read_lem (table_of found) (row_count found) (channel_count found) (codes_of found) text

  -- ---- the programs

  module _ (reference : List ℕ) where
    pub draw_long : draw_output D limit types (bytes_read reference) ≡ draw_output D limit types reference
    unfolding draw_output
    draw_long = ap (content_output D limit types) (content-read reference)

    module _ (text : List ℕ) where
      figures-read : (output : Figures → List ℕ)
          → of_figures (record_against D limit types (bytes_read reference) (bytes_read text)) output
          ≡ of_figures (record_against D limit types reference text) output
      figures-read output = ap (λ (read : EnvelopeRead). of_figures read output) (against-read reference text)

      pub verify_long : verify_output D limit types (bytes_read reference) (bytes_read text) ≡ verify_output D limit types reference text
      unfolding verify_output
      verify_long = figures-read (λ f. print_accepted)

      pub panel_long : panel_output D limit types (bytes_read reference) (bytes_read text) ≡ panel_output D limit types reference text
      unfolding panel_output
      panel_long = figures-read (shown_output D types)

      pub judge_long : (readings : List ℕ)
          → judge_output D limit types (bytes_read reference) (bytes_read text) (bytes_read readings) ≡ judge_output D limit types reference text readings
      unfolding judge_output
      judge_long readings =
          let read = record_against D limit types (bytes_read reference) (bytes_read text) in
          ap (λ (output : List ℕ). unless_refused read.outcome (λ _. output)) (readings_read read.envelope.figures readings)
          ∙ figures-read (λ f. readings_output D types f readings)

      pub alerts_long : (settings readings : List ℕ)
          → alerts_output D limit types (bytes_read reference) (bytes_read text) (bytes_read settings) (bytes_read readings)
          ≡ alerts_output D limit types reference text settings readings
      unfolding alerts_output
      alerts_long settings readings =
          let read = record_against D limit types (bytes_read reference) (bytes_read text) in
          ap (λ (output : List ℕ). unless_refused read.outcome (λ _. output)) (settings_tried read.envelope.figures settings readings)
          ∙ figures-read (λ f. settings_output D types f (text_of_settings settings) readings)

pub plain_long : (limit : ℕ) (types : Types) (reference : List ℕ) → plain_output limit types (bytes_read reference) ≡ plain_output limit types reference
plain_long limit types =
    within-read (plain_output limit types) (print_refusal text_length 0)
    (λ text h. plain_faulty limit types text text_length 0 (refuses_long limit types text h))
