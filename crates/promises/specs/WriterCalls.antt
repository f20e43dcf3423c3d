-- Demand 1 and request 1, what the code of each call that writes a reference text is proved to answer, and to leave in what it is lent: the
-- writer, and the program that prints a text in plain values.
-- Before each field stands the signature by which its arguments are counted.
--     WriterCalls, writer_calls     the calls, each by the definition that gives its answer
use Rattle.std.specs.Prelude.{◌≤◌, ◌≡◌, length}
use Rattle.refusal.specs.Outcome.{number_of, outcome_of}
use Rattle.limits.specs.Limits.{row_limit}
use Rattle.lent.specs.Clauses.{Part, text_written, text_outcome}
use Rattle.lent.specs.Filled.{filled}
use Rattle.channel.specs.Channel.{channel_types}
use Rattle.reference_write.specs.Clauses.{reference_written, written_text}
use Rattle.reference_write.specs.Writing.{lent_table, lent_text}
use Rattle.program_plain.specs.Clauses.{plain_room}
use Rattle.program_plain.specs.Output.{plain_output}
use Rattle.export_answers.specs.Clauses.{written_in_numbers}
use Rattle.promises.specs.Answering.{Answers}
use seplogic.Ra.Ura.{Ura}
use contract.Notation
use types.Logic.{Logic}
use contract.Running.{Running}
use prog.Model.{Model}
use Rattle.reference_write.specs.contracts.write as writing
use Rattle.reference_write.proofs.write.Symbol as writing-code
use Rattle.reference_write.proofs.write.Met as writing-proof
use Rattle.program_plain.specs.contracts.plain as plain
use Rattle.program_plain.proofs.plain.Symbol as plain-code
use Rattle.program_plain.proofs.plain.Met as plain-proof
use Rattle.cundarivo.specs.contracts.reference_text.cundarivo_write_reference as exported
use Rattle.cundarivo.proofs.reference_text.cundarivo_write_reference.Symbol as exported-code
use Rattle.cundarivo.proofs.reference_text.cundarivo_write_reference.Met as exported-proof
use Rattle.cundarivo.specs.contracts.programs.cundarivo_program_plain as program-plain
use Rattle.cundarivo.proofs.programs.cundarivo_program_plain.Symbol as program-plain-code
use Rattle.cundarivo.proofs.programs.cundarivo_program_plain.Met as program-plain-proof

module _ {M : Type 1} {𝓤 : Ura M} (𝓛 : Logic 𝓤) (𝓜 : Model 𝓤 𝓛.H) (𝓡 : Running 𝓤 𝓛.H 𝓜) where
  open Notation.connectives 𝓤 use {⌜◌⌝, ◌∗◌}

  pub record WriterCalls : Type 1 where
    -- reference text written: write(rows, m, n, codes, labels, ends, buffer)
    pub writes_reference : Answers 𝓛 𝓜 𝓡 writing.ended writing-code.code writing-code.name
        (λ κs a r e.
        let rows = a.0.now in let m = a.1.0 in let n = a.1.1.0 in let codes = a.1.1.1.0.now in
        let labels = a.1.1.1.1.0.now in let ends = a.1.1.1.1.1.0.now in let buffer = a.1.1.1.1.1.1.0.now in
        let buffer-after = e.1.1.1.1.1.1.0.now in
        ⌜ text_outcome r ≡ reference_written row_limit channel_types (lent_table rows m n codes labels ends) (length buffer) ⌝
        ∗ ⌜ buffer-after
        ≡ filled (number_of (outcome_of r)) (text_outcome r).length (written_text channel_types (lent_text row_limit channel_types (lent_table rows m n codes labels ends))) buffer ⌝)
    -- the program, from its text to the whole output, which 13 does not meet with this room: plain(reference, output)
    pub program_prints_plain : Answers 𝓛 𝓜 𝓡 plain.ended plain-code.code plain-code.name
        (λ κs a r e.
        let reference = a.0.now in let output = a.1.0.now in let output-after = e.1.0.now in
        ⌜ text_outcome r ≡ text_written (plain_output row_limit channel_types reference) (length output) ⌝
        ∗ ⌜ output-after ≡ filled (number_of (outcome_of r)) (text_outcome r).length (plain_output row_limit channel_types reference) output ⌝
        ∗ ⌜ Part output-after (text_outcome r).length ⌝
        ∗ ⌜ length (plain_output row_limit channel_types reference) ≤ plain_room ⌝)
    -- for C and Rust: cundarivo_write_reference(rows, m, n, codes, labels, ends, buffer)
    pub cundarivo_write_reference : Answers 𝓛 𝓜 𝓡 exported.ended exported-code.code exported-code.name
        (λ κs a r e.
        let rows = a.0.now in let m = a.1.0 in let n = a.1.1.0 in let codes = a.1.1.1.0.now in
        let labels = a.1.1.1.1.0.now in let ends = a.1.1.1.1.1.0.now in let buffer = a.1.1.1.1.1.1.0.now in
        let buffer-after = e.1.1.1.1.1.1.0.now in
        ⌜ r ≡ written_in_numbers (reference_written row_limit channel_types (lent_table rows m n codes labels ends) (length buffer)) ⌝
        ∗ ⌜ buffer-after
        ≡ filled r.number r.length (written_text channel_types (lent_text row_limit channel_types (lent_table rows m n codes labels ends))) buffer ⌝)
    -- cundarivo_program_plain(reference, output)
    pub cundarivo_program_plain : Answers 𝓛 𝓜 𝓡 program-plain.ended program-plain-code.code program-plain-code.name
        (λ κs a r e.
        let reference = a.0.now in let output = a.1.0.now in let output-after = e.1.0.now in
        ⌜ r ≡ written_in_numbers (text_written (plain_output row_limit channel_types reference) (length output)) ⌝
        ∗ ⌜ output-after ≡ filled r.number r.length (plain_output row_limit channel_types reference) output ⌝)

  pub writer_calls : WriterCalls
  writer_calls =
      record {
        writes_reference = writing-proof.met 𝓤 𝓛 𝓜 𝓡;
        program_prints_plain = plain-proof.met 𝓤 𝓛 𝓜 𝓡;
        cundarivo_write_reference = exported-proof.met 𝓤 𝓛 𝓜 𝓡;
        cundarivo_program_plain = program-plain-proof.met 𝓤 𝓛 𝓜 𝓡;
      }
