-- Demand 1, what the code of each program's call is proved to answer, and to leave in the slice for its output.
--     ProgramCalls, program_calls         the programs but plain (WriterCalls) and alerts (AlertCalls), from their texts, each its own slice, to the whole output
--     ProgramReaders, program_readers     what the programs' readers ask of a program and give it
-- Before each field stands the signature by which its arguments are counted.
use Rattle.std.specs.Prelude.{◌<◌, ◌≤◌, ◌≡◌, length}
use Rattle.refusal.specs.Outcome.{number_of, outcome_of}
use Rattle.limits.specs.Limits.{row_limit, text_limit, total}
use Rattle.lent.specs.Clauses.{Part, text_written, text_outcome}
use Rattle.lent.specs.Filled.{filled}
use Rattle.channel.specs.Channel.{channel_types}
use Rattle.program_lines.specs.Clauses.{answer_room}
use Rattle.program_draw.specs.Clauses.{draw_room}
use Rattle.program_draw.specs.Output.{draw_output}
use Rattle.program_verify.specs.Output.{verify_output}
use Rattle.program_panel.specs.Clauses.{panel_room}
use Rattle.program_panel.specs.Output.{panel_output}
use Rattle.program_verdicts.specs.Clauses.{readings_room, verdicts_room}
use Rattle.program_judge.specs.Output.{judge_output}
use Rattle.program_io.specs.Clauses.{Read, text_of_option}
use Rattle.promises.specs.Answering.{Answers, AnswersWhere}
use seplogic.Ra.Ura.{Ura}
use contract.Notation
use types.Logic.{Logic}
use contract.Running.{Running}
use prog.Model.{Model}
use Rattle.program_draw.specs.contracts.draw as program-draw
use Rattle.program_draw.proofs.draw.Symbol as program-draw-code
use Rattle.program_draw.proofs.draw.Met as program-draw-proof
use Rattle.program_verify.specs.contracts.verify as program-verify
use Rattle.program_verify.proofs.verify.Symbol as program-verify-code
use Rattle.program_verify.proofs.verify.Met as program-verify-proof
use Rattle.program_judge.specs.contracts.judge as program-judge
use Rattle.program_judge.proofs.judge.Symbol as program-judge-code
use Rattle.program_judge.proofs.judge.Met as program-judge-proof
use Rattle.program_panel.specs.contracts.panel as program-panel
use Rattle.program_panel.proofs.panel.Symbol as program-panel-code
use Rattle.program_panel.proofs.panel.Met as program-panel-proof
use Rattle.program_io.specs.contracts.streams.read_file as read-file
use Rattle.program_io.proofs.streams.read_file.Symbol as read-file-code
use Rattle.program_io.proofs.streams.read_file.Met as read-file-proof
use Rattle.program_io.specs.contracts.streams.read_standard_input as read-input
use Rattle.program_io.proofs.streams.read_standard_input.Symbol as read-input-code
use Rattle.program_io.proofs.streams.read_standard_input.Met as read-input-proof

module _ {M : Type 1} {𝓤 : Ura M} (𝓛 : Logic 𝓤) (𝓜 : Model 𝓤 𝓛.H) (𝓡 : Running 𝓤 𝓛.H 𝓜) where
  open Notation.connectives 𝓤 use {⌜◌⌝, ◌∗◌}

  pub record ProgramCalls : Type 1 where
    -- the programs, from their texts to the whole output, which 13 does not meet with this room: draw(reference, output)
    pub program_draws : Answers 𝓛 𝓜 𝓡 program-draw.ended program-draw-code.code program-draw-code.name
        (λ κs a r e.
        let reference = a.0.now in let output = a.1.0.now in let output-after = e.1.0.now in
        ⌜ text_outcome r ≡ text_written (draw_output total row_limit channel_types reference) (length output) ⌝
        ∗ ⌜ output-after ≡ filled (number_of (outcome_of r)) (text_outcome r).length (draw_output total row_limit channel_types reference) output ⌝
        ∗ ⌜ Part output-after (text_outcome r).length ⌝
        ∗ ⌜ length (draw_output total row_limit channel_types reference) ≤ draw_room ⌝)
    -- verify(reference, record_text, output)
    pub program_verifies : Answers 𝓛 𝓜 𝓡 program-verify.ended program-verify-code.code program-verify-code.name
        (λ κs a r e.
        let reference = a.0.now in let text = a.1.0.now in let output = a.1.1.0.now in
        let output-after = e.1.1.0.now in
        ⌜ text_outcome r ≡ text_written (verify_output total row_limit channel_types reference text) (length output) ⌝
        ∗ ⌜ output-after ≡ filled (number_of (outcome_of r)) (text_outcome r).length (verify_output total row_limit channel_types reference text) output ⌝
        ∗ ⌜ Part output-after (text_outcome r).length ⌝
        ∗ ⌜ length (verify_output total row_limit channel_types reference text) ≤ answer_room ⌝)
    -- judge(reference, record_text, readings, output)
    pub program_judges : Answers 𝓛 𝓜 𝓡 program-judge.ended program-judge-code.code program-judge-code.name
        (λ κs a r e.
        let reference = a.0.now in let text = a.1.0.now in let readings = a.1.1.0.now in
        let output = a.1.1.1.0.now in let output-after = e.1.1.1.0.now in
        ⌜ text_outcome r ≡ text_written (judge_output total row_limit channel_types reference text readings) (length output) ⌝
        ∗ ⌜ output-after ≡ filled (number_of (outcome_of r)) (text_outcome r).length (judge_output total row_limit channel_types reference text readings) output ⌝
        ∗ ⌜ Part output-after (text_outcome r).length ⌝
        ∗ ⌜ length (judge_output total row_limit channel_types reference text readings) ≤ verdicts_room ⌝
        ∗ ⌜ length (judge_output total row_limit channel_types reference text readings) ≤ readings_room readings ⌝)
    -- panel(reference, record_text, output)
    pub program_shows_panel : Answers 𝓛 𝓜 𝓡 program-panel.ended program-panel-code.code program-panel-code.name
        (λ κs a r e.
        let reference = a.0.now in let text = a.1.0.now in let output = a.1.1.0.now in
        let output-after = e.1.1.0.now in
        ⌜ text_outcome r ≡ text_written (panel_output total row_limit channel_types reference text) (length output) ⌝
        ∗ ⌜ output-after ≡ filled (number_of (outcome_of r)) (text_outcome r).length (panel_output total row_limit channel_types reference text) output ⌝
        ∗ ⌜ Part output-after (text_outcome r).length ⌝
        ∗ ⌜ length (panel_output total row_limit channel_types reference text) ≤ panel_room ⌝)

  pub program_calls : ProgramCalls
  program_calls =
      record {
        program_draws = program-draw-proof.met 𝓤 𝓛 𝓜 𝓡;
        program_verifies = program-verify-proof.met 𝓤 𝓛 𝓜 𝓡;
        program_judges = program-judge-proof.met 𝓤 𝓛 𝓜 𝓡;
        program_shows_panel = program-panel-proof.met 𝓤 𝓛 𝓜 𝓡;
      }

  -- No public calls: each asks for a slice of more places than a text may have bytes, and what it gives is no equation, since no argument
  -- says what is there to be read. What was read stands in the first places of the slice, nothing where a read failed (`Read`)
  pub record ProgramReaders : Type 1 where
    -- read_file(rt, program, index, text)
    pub reads_file : AnswersWhere 𝓛 𝓜 𝓡 read-file.ended read-file-code.code read-file-code.name (λ κs a. ⌜ text_limit < length a.1.1.1.0.now ⌝)
        (λ κs a r e.
        let text-after = e.1.1.1.0.now in
        ⌜ Read (text_of_option r) text-after ⌝)
    -- read_standard_input(rt, program, text)
    pub reads_standard_input : AnswersWhere 𝓛 𝓜 𝓡 read-input.ended read-input-code.code read-input-code.name (λ κs a. ⌜ text_limit < length a.1.1.0.now ⌝)
        (λ κs a r e.
        let text-after = e.1.1.0.now in
        ⌜ Read (text_of_option r) text-after ⌝)

  pub program_readers : ProgramReaders
  program_readers = record { reads_file = read-file-proof.met 𝓤 𝓛 𝓜 𝓡; reads_standard_input = read-input-proof.met 𝓤 𝓛 𝓜 𝓡 }
