-- Request 2: alert settings tried on recorded readings, for the total, the row limit and the types of the calls.
--     AlertsCounted, alerts_counted      when an alert stands, and what is counted: by the findings, and by one finding more
--     SettingsTried, settings_tried      what the lines of an accepted trial say
--     LinesAlike, lines_alike            what a setting's line does not depend on
--     promise_R2                         alert settings: their calls, refusals, lines and texts (`AlertTrials`)
use Rattle.std.specs.Prelude.{◌*◌, ◌+◌, ◌-◌, ◌/◌, ◌<◌, ◌≤◌, ℕ, ◌≡◌, refl, ◌&&◌, cond, false, not, true, List, [], ◌++◌, ◌∷◌, map, leb, get_or, length}
use Rattle.std.proofs.Common.{◌∙◌, ap, sym, arith}
use Rattle.refusal.specs.Number.{buffer_short, line_form}
use Rattle.refusal.specs.Outcome.{number_of, Accepted, RefusalNumbers}
use Rattle.limits.specs.Limits.{row_limit, total}
use Rattle.text.specs.EndedLines.{lines_with_ends}
use Rattle.text.specs.LineCountLaws.{LastPiece, bytes_of, last_piece, unended}
use Rattle.text.specs.Lines.{ended, print_lines}
use Rattle.text.specs.Parts.{cut, free, line_end}
use Rattle.channel.specs.Channel.{channel_types}
use Rattle.envelope.specs.declared.Figures.{Figures}
use Rattle.reading.specs.Verdict.{judged, refused_verdict, VerdictOutcome, Refused}
use Rattle.alert.specs.Alert.{Finding, History, Setting, ◌then◌, alarm, counted, ends_in, passed, quiet, raised, stands, start}
use Rattle.alert.specs.AlertLaws.{ends_one, found_all, raised_passed}
use Rattle.alert.specs.Clauses.{Positive, Stepped, Tallied, run_of}
use Rattle.alert.specs.StepLaws.{ends_run, passed_most, stands_alarm, stands_quiet}
use Rattle.alert.proofs.TallyLaws.{tallied_alarm, tallied_quiet}
use Rattle.alert_settings.specs.Settings.{settings_of}
use Rattle.alert_settings.specs.SettingsLaws.{settings_count}
use Rattle.alert_trial.specs.Clauses.{trial_text}
use Rattle.alert_trial.specs.LineLaws.{IsSetting, is_setting, line-alone, raised_alarm, raised_quiet, same_line, trial-cut, trial-line, trial_totals}
use Rattle.alert_trial.specs.SizeLaws.{trial_most_lem}
use Rattle.alert_trial.specs.TotalsLaws.{counts_all, history_alarms, history_quiets, readings_all, verdicts-lines}
use Rattle.alert_trial.specs.Trial.{count, four_numbers, history_of, is_alarm, is_quiet, is_turned_back, sound, trial_lines, trial_of, verdicts_on}
use Rattle.alert_trial.specs.TrialLaws.{Tried, sound_tried}
use Rattle.alert_trial.specs.TurnedBackLaws.{accepted, history_last, last_turned_back, line-accepted, line_turned_back}
use Rattle.program_judge.specs.Output.{judge_output}
use Rattle.program_laws.specs.AlertLaws.{alarm_lines, quiet_lines, totals_judge, turned_back_lines}
use Rattle.trials.specs.Alerts.{AlertCase, alert_cases, alerts_agree}
use Rattle.promises.specs.AlertAnswers.{TrialRefused, TrialsListed, trial_kept, trial_room_enough, trials_listed, trials_refused, trying}
use Rattle.promises.specs.AlertCalls.{AlertCalls, AlertWalk, alert_calls, alert_walk}
use Rattle.promises.specs.AlertTexts.{AlertsPrinted, SettingsTexts, alerts_printed, settings_texts}
use Rattle.promises.specs.House.{against}
use Rattle.promises.specs.Listed.{KeptWhereRefused}
use Rattle.promises.specs.ToldRefusals.{RefusalsTold, refusals_told}
use seplogic.Ra.Ura.{Ura}
use types.Logic.{Logic}
use contract.Running.{Running}
use prog.Model.{Model}

-- ---- alerts

-- the findings are the verdicts Alarm and Quiet, the latest last; `stands`, `raised` and `passed` have no counters
pub record AlertsCounted (s : Setting) : Type 0 where
  pub at_start : (stands s start ≡ false) × (raised s start ≡ 0) × (passed s start ≡ 0)
  -- an alert stands where the findings end in k alarms, does not where they end in c quiets, else as before the last one
  pub stands_after : (h : History) (x : Finding) → stands s (h then x)
      ≡ cond (ends_in s.k alarm (h then x)) true (cond (ends_in s.c quiet (h then x)) false (stands s h))
  -- raised by a finding after which it stands and before which it did not; passed are the findings after which it stands
  pub raised_after : (h : History) (x : Finding) → raised s (h then x) ≡ raised s h + counted (stands s (h then x) && not (stands s h))
  pub passed_after : (h : History) (x : Finding) → passed s (h then x) ≡ passed s h + counted (stands s (h then x))
  pub raised_passed : (h : History) → raised s h ≤ passed s h
  -- no findings end in both
  pub ends_one : 1 ≤ s.k → 1 ≤ s.c → (h : History) → ends_in s.k alarm h ≡ true → ends_in s.c quiet h ≡ true → ⊥
  -- the same by the run at the end, which one finding more adds 1 to or breaks
  pub by_run : (n : ℕ) (x : Finding) (h : History) → ends_in n x h ≡ leb n (run_of x h)
  pub alarm_more : (h : History) → 1 ≤ s.c → stands s (h then alarm) ≡ cond (leb s.k (run_of alarm h + 1)) true (stands s h)
  pub quiet_more : (h : History) → 1 ≤ s.k → stands s (h then quiet) ≡ cond (leb s.c (run_of quiet h + 1)) false (stands s h)

alerts_counted : (s : Setting) → AlertsCounted s
unfolding stands raised passed
alerts_counted s =
    record {
      at_start = (refl, refl, refl);
      stands_after = λ h x. refl;
      raised_after = λ h x. refl;
      passed_after = λ h x. refl;
      raised_passed = raised_passed s;
      ends_one = ends_one s;
      by_run = ends_run;
      alarm_more = stands_alarm s;
      quiet_more = stands_quiet s;
    }

-- ---- the lines of a trial

-- settings count from 0, each two numbers of the list; parts of the text are what stands between its bytes 10
pub record SettingsTried (f : Figures) (settings readings text : List ℕ) (vs : List VerdictOutcome) : Type 0 where
  pub settings_count : length (settings_of settings) ≡ length settings / 2
  pub setting_is : (i : ℕ) → i < length (settings_of settings)
      → IsSetting settings i (record { k = get_or settings (2 * i) 0; c = get_or settings (2 * i + 1) 0 })
  -- a line for each setting in order, a last line, and byte 10 after each
  pub text_is : text ≡ print_lines (trial_lines (settings_of settings) vs)
  pub lines : cut line_end text ≡ ended (trial_lines (settings_of settings) vs)
  -- k, c, alerts raised, readings passed while an alert stood
  pub setting_line : (i : ℕ) (s : Setting) → IsSetting settings i s
      → get_or (cut line_end text) i [] ≡ four_numbers s.k s.c (raised s (history_of vs)) (passed s (history_of vs))
  -- readings, Alarm, Quiet, turned back
  pub last_line : get_or (cut line_end text) (length (settings_of settings)) []
      ≡ four_numbers (length vs) (count is_alarm vs) (count is_quiet vs) (count is_turned_back vs)
  pub readings_all : count is_alarm vs + count is_quiet vs + count is_turned_back vs ≡ length vs
  -- each line is a reading, also what follows the last byte 10, if it has a byte, which is turned back by 3
  pub readings_lines : length vs ≡ length (lines_with_ends readings)
  pub readings_bytes : length vs ≡ bytes_of line_end readings + unended readings
  pub last_piece : unended readings ≡ 1 → LastPiece readings
  pub last_turned_back : (p : LastPiece readings) → vs ≡ verdicts_on total channel_types f p.before ++ (refused_verdict line_form 1 ∷ [])
  -- how much is raised and passed; a reading turned back is not among those passed
  pub raised_alarm : (i : ℕ) (s : Setting) → IsSetting settings i s → raised s (history_of vs) * s.k ≤ count is_alarm vs
  pub raised_quiet : (i : ℕ) (s : Setting) → IsSetting settings i s → (raised s (history_of vs) - 1) * s.c ≤ count is_quiet vs
  pub passed_most : (s : Setting) → passed s (history_of vs) ≤ count is_alarm vs + count is_quiet vs
  pub most_bytes : length text ≤ 384

module _ (f : Figures) (settings readings text : List ℕ) (is : trial_of total channel_types f settings readings ≡ sound text) where
  tried : Tried total channel_types f settings readings text
  tried = sound_tried total channel_types f settings readings text is

  settings_tried : SettingsTried f settings readings text (verdicts_on total channel_types f readings)
  settings_tried =
      let vs = verdicts_on total channel_types f readings in
      record {
        settings_count = settings_count settings;
        setting_is = is_setting settings;
        text_is = tried.text_is;
        lines = trial-cut tried;
        setting_line = λ i s setting. trial-line tried setting;
        last_line = trial_totals tried;
        readings_all = counts_all vs;
        readings_lines = verdicts-lines total channel_types f readings;
        readings_bytes = sym (counts_all vs) ∙ readings_all total channel_types f readings;
        last_piece = last_piece readings;
        last_turned_back = last_turned_back total channel_types f tried.within readings tried.bytes;
        raised_alarm = λ i s setting. raised_alarm tried setting;
        raised_quiet = λ i s setting. raised_quiet tried setting;
        passed_most = λ s. omega (arith, passed_most s (history_of vs), found_all (history_of vs), history_alarms vs, history_quiets vs);
        most_bytes = omega (arith, trial_most_lem total channel_types f settings readings, ap length (ap trial_text is));
      }

-- ---- what a line does not depend on

-- of two accepted trials that have a setting s, the one at place i and the other at place j
pub record LinesAlike (settings text settings' text' : List ℕ) (i j : ℕ) (s : Setting) (f : Figures) : Type 0 where
  -- of the same readings, whatever the other settings are
  pub other_settings : (readings : List ℕ)
      → trial_of total channel_types f settings readings ≡ sound text → trial_of total channel_types f settings' readings ≡ sound text'
      → get_or (cut line_end text) i [] ≡ get_or (cut line_end text') j []
  -- of readings whose verdicts are the same but for those turned back
  pub others_same : (readings readings' : List ℕ)
      → trial_of total channel_types f settings readings ≡ sound text → trial_of total channel_types f settings' readings' ≡ sound text'
      → accepted (verdicts_on total channel_types f readings) ≡ accepted (verdicts_on total channel_types f readings')
      → get_or (cut line_end text) i [] ≡ get_or (cut line_end text') j []
  -- so of readings with and without a line that is turned back
  pub line_turned_back : (before line after : List ℕ) → unended before ≡ 0 → free line_end line ≡ true
      → (r : RefusalNumbers) → judged total channel_types f (line ++ (line_end ∷ [])) ≡ Refused r
      → trial_of total channel_types f settings (before ++ ((line ++ (line_end ∷ [])) ++ after)) ≡ sound text
      → trial_of total channel_types f settings' (before ++ after) ≡ sound text'
      → get_or (cut line_end text) i [] ≡ get_or (cut line_end text') j []
  -- and of readings with and without what follows their last byte 10
  pub last_piece : (readings : List ℕ) (p : LastPiece readings)
      → trial_of total channel_types f settings readings ≡ sound text → trial_of total channel_types f settings' p.before ≡ sound text'
      → get_or (cut line_end text) i [] ≡ get_or (cut line_end text') j []

lines_alike : (settings text settings' text' : List ℕ) (i j : ℕ) (s : Setting) (f : Figures) → IsSetting settings i s → IsSetting settings' j s
    → LinesAlike settings text settings' text' i j s f
lines_alike settings text settings' text' i j s f here there =
    record {
      other_settings = λ readings is is'. line-alone (tried f settings readings text is) (tried f settings' readings text' is') here there;
      others_same = λ readings readings' is is'. line-accepted (tried f settings readings text is) (tried f settings' readings' text' is') here there;
      line_turned_back = λ before line after ended-before one r turned is is'.
          line_turned_back total channel_types f before line after ended-before one r turned
          (tried f settings (before ++ ((line ++ (line_end ∷ [])) ++ after)) text is) (tried f settings' (before ++ after) text' is') here there;
      last_piece = λ readings p is is'.
          let t = tried f settings readings text is in
          same_line t (tried f settings' p.before text' is') here there (history_last total channel_types f t.within readings t.bytes p);
    }

-- ---- R2

module _ {M : Type 1} {𝓤 : Ura M} (𝓛 : Logic 𝓤) (𝓜 : Model 𝓤 𝓛.H) (𝓡 : Running 𝓤 𝓛.H 𝓜) where
  pub record AlertTrials : Type 1 where
    -- what the code answers and leaves, which refusals there are, and in which order: 8, 14, 1, 13, all at line 0
    pub of_calls : AlertCalls 𝓛 𝓜 𝓡
    pub listed : TrialsListed
    pub order : (f : Figures) (settings readings : List ℕ) (places : ℕ) → TrialRefused f settings readings places
    -- a refused call leaves the output as it was
    pub kept : (f : Figures) (settings readings : List ℕ) (places : ℕ) → KeptWhereRefused (trying f settings readings places).outcome
    -- when an alert stands, and what is counted, which a few verdicts show
    pub standing : (s : Setting) → AlertsCounted s
    pub shown : map (λ (t : AlertCase). print_lines (trial_lines t.settings t.verdicts)) alert_cases ≡ map (λ (t : AlertCase). t.printed) alert_cases
    -- the walk counts by one step for each reading, for all settings at once, and has what the definitions give
    pub by_one_walk : AlertWalk 𝓛 𝓜 𝓡
    pub step_alarm : {ks cs : List ℕ} {h : History} {standing₀ raised₀ passed₀ standing raisings passings : List ℕ}
        → Tallied ks cs h standing₀ raised₀ passed₀ → Positive cs
        → Stepped ks (run_of alarm h + 1) 1 standing₀ raised₀ passed₀ standing raisings passings → Tallied ks cs (h then alarm) standing raisings passings
    pub step_quiet : {ks cs : List ℕ} {h : History} {standing₀ raised₀ passed₀ standing raisings passings : List ℕ}
        → Tallied ks cs h standing₀ raised₀ passed₀ → Positive ks
        → Stepped cs (run_of quiet h + 1) 0 standing₀ raised₀ passed₀ standing raisings passings → Tallied ks cs (h then quiet) standing raisings passings
    -- the lines
    pub tried : (f : Figures) (settings readings text : List ℕ) → trial_of total channel_types f settings readings ≡ sound text
        → SettingsTried f settings readings text (verdicts_on total channel_types f readings)
    pub alike : (settings text settings' text' : List ℕ) (i j : ℕ) (s : Setting) (f : Figures) → IsSetting settings i s → IsSetting settings' j s
        → LinesAlike settings text settings' text' i j s f
    -- the last one counts the lines that judge prints of the same readings: all, those that start with `ALARM`, are `QUIET`, start with `NO`
    pub judged_lines : (reference record_text : List ℕ) → (against reference record_text).outcome ≡ Accepted → (settings readings text : List ℕ)
        → trial_of total channel_types (against reference record_text).envelope.figures settings readings ≡ sound text
        → let output = judge_output total row_limit channel_types reference record_text readings in
        get_or (cut line_end text) (length (settings_of settings)) []
        ≡ four_numbers (length (lines_with_ends output)) (alarm_lines output) (quiet_lines output) (turned_back_lines output)
    -- 13 meets no buffer of 384 places
    pub room_enough : (f : Figures) (settings readings : List ℕ) (places : ℕ) → 384 ≤ places
        → number_of (trying f settings readings places).outcome ≡ buffer_short → ⊥
    -- the settings text, what the program prints, and that its first line tells whether a text was refused (`alerts`)
    pub texts : SettingsTexts
    pub printed : (reference record_text settings readings : List ℕ) → AlertsPrinted reference record_text settings readings
    pub told : RefusalsTold

  pub promise_R2 : AlertTrials
  promise_R2 =
      record {
        of_calls = alert_calls 𝓛 𝓜 𝓡;
        listed = trials_listed;
        order = trials_refused;
        kept = trial_kept;
        standing = alerts_counted;
        shown = alerts_agree;
        by_one_walk = alert_walk 𝓛 𝓜 𝓡;
        step_alarm = λ {ks} {cs} before some more. tallied_alarm ks cs before some more;
        step_quiet = λ {ks} {cs} before some more. tallied_quiet ks cs before some more;
        tried = settings_tried;
        alike = lines_alike;
        judged_lines = λ reference record_text against-is settings readings text is.
            totals_judge total row_limit channel_types reference record_text against-is
            (tried (against reference record_text).envelope.figures settings readings text is);
        room_enough = λ f settings readings places room.
            trial_room_enough f settings readings places (omega (arith, trial_most_lem total channel_types f settings readings));
        texts = settings_texts;
        printed = alerts_printed;
        told = refusals_told;
      }
