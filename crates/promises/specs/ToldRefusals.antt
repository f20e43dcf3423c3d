-- Demand 1, what the output of a program tells of a refusal, for the total, the row limit and the types of the calls; part of promise 1.3
-- in Results.
--     RefusalsTold, refusals_told     a refusal of the texts is told from a refused reading by the first line of the output
use Rattle.std.specs.Prelude.{ℕ, ◌≡◌, ◌||◌, false, not, true, List}
use Rattle.std.proofs.Common.{arith}
use Rattle.limits.specs.Limits.{row_limit, total}
use Rattle.text.specs.Parts.{text_within}
use Rattle.channel.specs.Channel.{channel_types}
use Rattle.channel.specs.ChannelLaws.{house_sound}
use Rattle.channel.specs.ContractLaws.{house_apart}
use Rattle.envelope.specs.Figures.{figures_known}
use Rattle.envelope.specs.declared.Figures.{Figures}
use Rattle.reading.specs.Verdict.{judged, refused_verdict}
use Rattle.settings_text.specs.SettingsText.{text_of_settings}
use Rattle.program_lines.specs.Lines.{print_refusal}
use Rattle.program_draw.specs.Output.{draw_output}
use Rattle.program_verify.specs.Output.{verify_output}
use Rattle.program_panel.specs.Output.{panel_output}
use Rattle.program_plain.specs.Output.{plain_output}
use Rattle.program_judge.specs.Output.{judge_output}
use Rattle.program_alerts.specs.Output.{alerts_output}
use Rattle.program_laws.specs.ToldLaws.{alerts_told, draw_told, is_faulty, is_missing, is_refused, judge_told, of_reading, panel_told, plain_told, refusal_injective, refusal_of_reading, refusal_of_texts, refuses_texts, verify_told}
use Rattle.promises.specs.House.{against, text_content}
use Rattle.refusal.specs.Outcome.{Refused, RefusalNumbers}

-- `refuses_texts output`: the first line is a refusal, and none of those that a reading meets
pub record RefusalsTold : Type 0 where
  pub draw : (reference : List ℕ) → refuses_texts (draw_output total row_limit channel_types reference) ≡ is_faulty (text_content reference)
  pub plain : (reference : List ℕ) → refuses_texts (plain_output row_limit channel_types reference) ≡ is_faulty (text_content reference)
  pub verify : (reference text : List ℕ)
      → refuses_texts (verify_output total row_limit channel_types reference text) ≡ is_refused (against reference text).outcome
  pub panel : (reference text : List ℕ)
      → refuses_texts (panel_output total row_limit channel_types reference text) ≡ is_refused (against reference text).outcome
  pub judge : (reference text readings : List ℕ)
      → refuses_texts (judge_output total row_limit channel_types reference text readings) ≡ (is_refused (against reference text).outcome || not (text_within readings))
  -- or the settings text, which is then no such text (`is_missing`)
  pub alerts : (reference text settings readings : List ℕ)
      → refuses_texts (alerts_output total row_limit channel_types reference text settings readings)
      ≡ (is_refused (against reference text).outcome || (is_missing (text_of_settings settings) || not (text_within readings)))
  -- number and line tell which: those that a reading meets are 3, 10 and 4 at line 1, which no refusal of the texts has
  pub of_texts : (reference text : List ℕ) (r : RefusalNumbers) → (against reference text).outcome ≡ Refused r → of_reading r.number r.line ≡ false
  pub of_reading : (f : Figures) → figures_known total channel_types f ≡ true → (text : List ℕ) → text_within text ≡ true
      → (number line : ℕ) → judged total channel_types f text ≡ refused_verdict number line → of_reading number line ≡ true
  -- and different refusals are printed by different bytes
  pub injective : (number line other-number other-line : ℕ) → print_refusal number line ≡ print_refusal other-number other-line
      → (number ≡ other-number) × (line ≡ other-line)

pub refusals_told : RefusalsTold
refusals_told =
    record {
      draw = draw_told channel_types house_sound total row_limit;
      plain = plain_told channel_types house_sound row_limit;
      verify = verify_told total row_limit channel_types;
      panel = λ reference text. panel_told total row_limit channel_types reference text house_sound (omega arith) house_apart;
      judge = λ reference text. judge_told total row_limit channel_types reference text house_sound (omega arith);
      alerts = λ reference text. alerts_told total row_limit channel_types reference text house_sound (omega arith);
      of_texts = refusal_of_texts total row_limit channel_types;
      of_reading = λ f within text some_text number line.
          refusal_of_reading total channel_types f within text some_text (record { number = number; line = line });
      injective = refusal_injective;
    }
