-- A trial of alert settings counts the lines that judge prints of the same readings. For any total D and table of types:
--     verdict_text verdict                         the line of a verdict, without its byte 10
--     judge_cut                                   what judge prints of readings, cut at its bytes 10: the line of each verdict, and an empty part
--     judge_lines                                 its lines with their bytes 10: the printing of each verdict
--     starts word line                            a line starts with a word
--     lines_that test lines                        how many lines pass a test
--     alarm_lines, quiet_lines, turned_back_lines     how many lines of an output start with `ALARM`, are `QUIET`, start with `NO`
--     all_lines                                   judge prints a line for each verdict
--     alarm_lines_lem, quiet_lines_lem,                   these lines are those of the Alarms, of the Quiets and of the readings that are
--     turned_back_lines_lem                           turned back
--     lines_counted output                         the number of lines of an output, and these
--     totals_readings                             they are the last line of an accepted trial of the readings
-- For any row limit besides, where judge refuses neither of the texts before the readings:
--     judge_readings                              what it prints is what is printed of the readings
--     totals_judge                                and the last line of an accepted trial has the number of lines that it prints, and these
use Rattle.std.specs.Prelude.{ℕ, ◌+◌, ◌≡◌, Bool, true, ◌&&◌, pos, length, get_or, take}
use Rattle.std.proofs.Math.Path.{refl, ap, ap₂}
use Rattle.std.proofs.Common.{sym, ◌∙◌, arith}
use mathlib.Core.List.{List, [], ◌∷◌, ◌++◌, map}
use Rattle.std.proofs.lemmas.List.{length-map}
use Rattle.std.proofs.Math.Seq.{append_snoc}
use Rattle.text.specs.Parts.{line_end, text_within, same, cut, join, free, all_free}
use Rattle.text.specs.Lines.{print_lines, ended}
use Rattle.text.specs.LinesLaws.{printed_ended}
use Rattle.text.specs.EndedLines.{lines_with_ends}
use Rattle.text.specs.LineCountLaws.{lines-printed}
use Rattle.printing.specs.Clauses.{numbers_after}
use Rattle.printing.specs.ContractLaws.{numbers-free}
use Rattle.channel.specs.Channel.{Types}
use Rattle.envelope.specs.declared.Figures.{Figures}
use Rattle.reading.specs.Verdict.{judged, VerdictOutcome, Quiet, Alarm, Refused}
use Rattle.alert.specs.Alert.{counted}
use Rattle.alert_settings.specs.Settings.{settings_of}
use Rattle.alert_trial.specs.Trial.{verdicts_on, is_alarm, is_quiet, is_turned_back, count, four_numbers, totals_line}
use Rattle.alert_trial.specs.TrialLaws.{Tried}
use Rattle.alert_trial.specs.LineLaws.{trial_totals}
use Rattle.program_lines.specs.Lines.{refusal_word, quiet_word, alarm_word, print_verdict, print_verdicts}
use Rattle.program_record.specs.Against.{unless_refused, record_against}
use Rattle.program_verdicts.specs.Output.{readings_output}
use Rattle.program_verdicts.specs.OutputLaws.{readings_judged}
use Rattle.program_judge.specs.Output.{judge_output}
use Rattle.refusal.specs.Outcome.{Outcome, Accepted}

-- ---- what judge prints

abbrev pub verdict_text : VerdictOutcome → List ℕ
verdict_text Quiet = numbers_after quiet_word []
verdict_text (Alarm excess) = numbers_after alarm_word (pos excess ∷ [])
verdict_text (Refused r) = numbers_after refusal_word (pos r.number ∷ pos r.line ∷ [])

text-printed : (v : VerdictOutcome) → verdict_text v ++ (line_end ∷ []) ≡ print_verdict v
text-printed Quiet = refl
text-printed (Alarm excess) = refl
text-printed (Refused r) = refl

texts_printed : (vs : List VerdictOutcome) → map (λ (line : List ℕ). line ++ (line_end ∷ [])) (map verdict_text vs) ≡ map print_verdict vs
texts_printed [] = refl
texts_printed (v ∷ vs) = ap₂ ◌∷◌ (text-printed v) (texts_printed vs)

text-free : (v : VerdictOutcome) → free line_end (verdict_text v) ≡ true
unfolding free
text-free Quiet = numbers-free line_end refl refl (λ e. omega arith) quiet_word [] refl
text-free (Alarm excess) = numbers-free line_end refl refl (λ e. omega arith) alarm_word (pos excess ∷ []) refl
text-free (Refused r) = numbers-free line_end refl refl (λ e. omega arith) refusal_word (pos r.number ∷ pos r.line ∷ []) refl

texts_free : (vs : List VerdictOutcome) → all_free line_end (map verdict_text vs) ≡ true
unfolding all_free
texts_free [] = refl
texts_free (v ∷ vs) = ap₂ ◌&&◌ (text-free v) (texts_free vs)

module _ (D : ℕ) (types : Types) (f : Figures) where
  verdicts-printed : (readings : List (List ℕ)) → print_verdicts D types f readings ≡ print_lines (map verdict_text (map (judged D types f) readings))
  unfolding print_verdicts print_lines
  verdicts-printed [] = refl
  verdicts-printed (reading ∷ readings) =
      let line = verdict_text (judged D types f reading) in
      ap₂ ◌++◌ (sym (text-printed (judged D types f reading))) (verdicts-printed readings)
      ∙ append_snoc line line_end (print_lines (map verdict_text (map (judged D types f) readings)))

  module _ (readings : List ℕ) (bytes : text_within readings ≡ true) where
    output-lines : readings_output D types f readings ≡ print_lines (map verdict_text (verdicts_on D types f readings))
    output-lines = readings_judged D types f readings bytes ∙ verdicts-printed (lines_with_ends readings)

    pub judge_cut : cut line_end (readings_output D types f readings) ≡ ended (map verdict_text (verdicts_on D types f readings))
    judge_cut =
        ap (cut line_end) output-lines
        ∙ printed_ended (map verdict_text (verdicts_on D types f readings)) (texts_free (verdicts_on D types f readings))

    pub judge_lines : lines_with_ends (readings_output D types f readings) ≡ map print_verdict (verdicts_on D types f readings)
    judge_lines =
        ap lines_with_ends output-lines
        ∙ lines-printed (map verdict_text (verdicts_on D types f readings)) (texts_free (verdicts_on D types f readings))
        ∙ texts_printed (verdicts_on D types f readings)

-- ---- lines of a kind

abbrev pub starts : List ℕ → List ℕ → Bool
starts word line = same (take (length word) line) word

unfoldable pub lines_that : (List ℕ → Bool) → List (List ℕ) → ℕ
lines_that test [] = 0
lines_that test (line ∷ lines) = counted (test line) + lines_that test lines

-- a line passes the test where its verdict is so
lines_that_lem : (test : List ℕ → Bool) (kind : VerdictOutcome → Bool) → ((v : VerdictOutcome) → test (print_verdict v) ≡ kind v)
    → (vs : List VerdictOutcome) → lines_that test (map print_verdict vs) ≡ count kind vs
unfolding lines_that count
lines_that_lem test kind same_kind [] = refl
lines_that_lem test kind same_kind (v ∷ vs) = ap₂ (λ t n. counted t + n) (same_kind v) (lines_that_lem test kind same_kind vs)

alarm_line : (v : VerdictOutcome) → starts alarm_word (print_verdict v) ≡ is_alarm v
unfolding numbers_after join same
alarm_line Quiet = refl
alarm_line (Alarm excess) = refl
alarm_line (Refused r) = refl

quiet_line : (v : VerdictOutcome) → same (print_verdict v) (quiet_word ++ (line_end ∷ [])) ≡ is_quiet v
unfolding numbers_after join same
quiet_line Quiet = refl
quiet_line (Alarm excess) = refl
quiet_line (Refused r) = refl

turned_back_line : (v : VerdictOutcome) → starts refusal_word (print_verdict v) ≡ is_turned_back v
unfolding numbers_after join same
turned_back_line Quiet = refl
turned_back_line (Alarm excess) = refl
turned_back_line (Refused r) = refl

abbrev pub alarm_lines : List ℕ → ℕ
alarm_lines output = lines_that (starts alarm_word) (lines_with_ends output)

abbrev pub quiet_lines : List ℕ → ℕ
quiet_lines output = lines_that (λ line. same line (quiet_word ++ (line_end ∷ []))) (lines_with_ends output)

abbrev pub turned_back_lines : List ℕ → ℕ
turned_back_lines output = lines_that (starts refusal_word) (lines_with_ends output)

-- as the last line of a trial has them
abbrev pub lines_counted : List ℕ → List ℕ
lines_counted output = four_numbers (length (lines_with_ends output)) (alarm_lines output) (quiet_lines output) (turned_back_lines output)

module _ (D : ℕ) (types : Types) (f : Figures) (readings : List ℕ) (bytes : text_within readings ≡ true) where
  abbrev verdicts : List VerdictOutcome
  verdicts = verdicts_on D types f readings

  abbrev output : List ℕ
  output = readings_output D types f readings

  -- by a test of lines that tells a kind of verdict
  kind_lines : (test : List ℕ → Bool) (kind : VerdictOutcome → Bool) → ((v : VerdictOutcome) → test (print_verdict v) ≡ kind v)
      → lines_that test (lines_with_ends output) ≡ count kind verdicts
  kind_lines test kind same_kind = ap (lines_that test) (judge_lines D types f readings bytes) ∙ lines_that_lem test kind same_kind verdicts

  pub all_lines : length (lines_with_ends output) ≡ length verdicts
  all_lines = ap length (judge_lines D types f readings bytes) ∙ length-map verdicts print_verdict

  pub alarm_lines_lem : alarm_lines output ≡ count is_alarm verdicts
  alarm_lines_lem = kind_lines (starts alarm_word) is_alarm alarm_line

  pub quiet_lines_lem : quiet_lines output ≡ count is_quiet verdicts
  quiet_lines_lem = kind_lines (λ line. same line (quiet_word ++ (line_end ∷ []))) is_quiet quiet_line

  pub turned_back_lines_lem : turned_back_lines output ≡ count is_turned_back verdicts
  turned_back_lines_lem = kind_lines (starts refusal_word) is_turned_back turned_back_line

  totals_lines : totals_line verdicts ≡ lines_counted output
  totals_lines =
      ap₂ (λ a b. four_numbers a b (count is_quiet verdicts) (count is_turned_back verdicts)) (sym all_lines) (sym alarm_lines_lem)
      ∙ ap₂ (four_numbers (length (lines_with_ends output)) (alarm_lines output)) (sym quiet_lines_lem) (sym turned_back_lines_lem)

-- ---- the last line of a trial

module _ {D : ℕ} {types : Types} {f : Figures} {settings readings text : List ℕ} (t : Tried D types f settings readings text) where
  pub totals_readings : get_or (cut line_end text) (length (settings_of settings)) [] ≡ lines_counted (readings_output D types f readings)
  totals_readings = trial_totals t ∙ totals_lines D types f readings t.bytes

-- against the record of a reference text
module _ (D limit : ℕ) (types : Types) (reference text : List ℕ) (is : (record_against D limit types reference text).outcome ≡ Accepted) where
  abbrev figures : Figures
  figures = (record_against D limit types reference text).envelope.figures

  pub judge_readings : (readings : List ℕ) → judge_output D limit types reference text readings ≡ readings_output D types figures readings
  unfolding judge_output
  judge_readings readings = ap (λ (o : Outcome). unless_refused o (λ _. readings_output D types figures readings)) is

  pub totals_judge : {settings readings trial : List ℕ} → Tried D types figures settings readings trial
      → get_or (cut line_end trial) (length (settings_of settings)) [] ≡ lines_counted (judge_output D limit types reference text readings)
  totals_judge {readings = readings} t = totals_readings t ∙ ap lines_counted (sym (judge_readings readings))
