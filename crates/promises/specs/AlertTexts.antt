-- Request 2, the texts of the program alerts, for the total, the row limit and the types of the calls; parts of promises 1.4 and R2.
--     SettingsTexts, settings_texts      which texts are settings texts, and what they say
--     AlertsPrinted, alerts_printed      what is printed: the refusal of the first text that is refused, or the trial
use Rattle.std.specs.Prelude.{◌≤◌, ℕ, ◌≡◌, refl, false, true, List, [], ◌∷◌, map, ◌↔◌, pos, length}
use Rattle.std.proofs.Common.{◌∙◌, ap, sym, arith}
use Rattle.std.proofs.Math.Option.{none, some}
use Rattle.refusal.specs.Number.{alert_settings, text_length}
use Rattle.limits.specs.Limits.{row_limit, total}
use Rattle.text.specs.Lines.{print_lines}
use Rattle.text.specs.Parts.{comma, join, text_within}
use Rattle.number.specs.Number.{print}
use Rattle.channel.specs.Channel.{channel_types}
use Rattle.channel.specs.ChannelLaws.{house_sound}
use Rattle.alert.specs.Alert.{Setting}
use Rattle.alert_settings.specs.Settings.{settings_of, settings_within}
use Rattle.alert_trial.specs.Trial.{trial_lines, verdicts_on}
use Rattle.settings_text.specs.SettingsText.{print_setting, print_settings, text_of_settings}
use Rattle.settings_text.specs.SettingsTextLaws.{printed_most, printed-text, text-printed}
use Rattle.program_lines.specs.Lines.{print_refusal}
use Rattle.program_alerts.specs.Output.{alerts_output}
use Rattle.program_alerts.specs.OutputLaws.{alerts_readings, alerts_refused, alerts_settings, alerts_tried}
use Rattle.promises.specs.House.{against}
use Rattle.refusal.specs.Outcome.{Accepted, Refused, RefusalNumbers}

-- ---- settings

pub record SettingsTexts : Type 0 where
  -- the settings of a text are one list of numbers k, c, k, c; they are printed as lines `k,c`
  pub line : (s : Setting) → print_setting s ≡ join comma (print (pos s.k) ∷ print (pos s.c) ∷ [])
  pub lines : (settings : List Setting) → print_settings settings ≡ print_lines (map print_setting settings)
  -- a text is accepted exactly when it is the printing of settings that 14 does not meet, and then it is read as these
  pub exactly : (text numbers : List ℕ) → (text_of_settings text ≡ some numbers) ↔ ((print_settings (settings_of numbers) ≡ text) × (settings_within numbers ≡ true))
  -- so that no test of its length is needed
  pub most_bytes : (text numbers : List ℕ) → text_of_settings text ≡ some numbers → length text ≤ 120

pub settings_texts : SettingsTexts
unfolding print_setting print_settings
settings_texts =
    record {
      line = λ s. refl;
      lines = λ settings. refl;
      exactly = λ text numbers. (text-printed text numbers, λ printed. ap text_of_settings (sym printed.0) ∙ printed-text numbers printed.1);
      most_bytes = printed_most;
    }

-- ---- what is printed

pub record AlertsPrinted (reference text settings readings : List ℕ) : Type 0 where
  -- the reference text and the record first, as in `judge`
  pub texts_first : (r : RefusalNumbers) → (against reference text).outcome ≡ Refused r
      → alerts_output total row_limit channel_types reference text settings readings ≡ print_refusal r.number r.line
  -- then the settings text by 14, whatever its fault
  pub settings_14 : (against reference text).outcome ≡ Accepted → text_of_settings settings ≡ none
      → alerts_output total row_limit channel_types reference text settings readings ≡ print_refusal alert_settings 0
  -- then the readings together by 1
  pub readings_1 : (against reference text).outcome ≡ Accepted → (numbers : List ℕ) → text_of_settings settings ≡ some numbers → text_within readings ≡ false
      → alerts_output total row_limit channel_types reference text settings readings ≡ print_refusal text_length 0
  -- else the text of the trial is printed
  pub else_tried : (against reference text).outcome ≡ Accepted → (numbers : List ℕ) → text_of_settings settings ≡ some numbers → text_within readings ≡ true
      → alerts_output total row_limit channel_types reference text settings readings
      ≡ print_lines (trial_lines (settings_of numbers) (verdicts_on total channel_types (against reference text).envelope.figures readings))

pub alerts_printed : (reference text settings readings : List ℕ) → AlertsPrinted reference text settings readings
alerts_printed reference text settings readings =
    record {
      texts_first = alerts_refused total row_limit channel_types reference text settings readings;
      settings_14 = alerts_settings total row_limit channel_types reference text settings readings house_sound (omega arith);
      readings_1 = alerts_readings total row_limit channel_types reference text settings readings house_sound (omega arith);
      else_tried = alerts_tried total row_limit channel_types reference text settings readings house_sound (omega arith);
    }
