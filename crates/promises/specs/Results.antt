-- Demand 1: every call ends with a result or a listed refusal. Refused values are in RefusalValues, the order of refusals is in Refusals.
--     promise_1_1     the public calls, each by the definition that gives its answer (`PublicCalls`)
--     promise_1_2     what a call leaves in the memory that it is lent (`LentMemory`)
use Rattle.std.specs.Prelude.{ℕ, ◌≡◌, refl, List, ◌++◌, ℤ, drop, length, take}
use Rattle.std.proofs.Math.Path.{sym}
use Rattle.limits.specs.Limits.{row_limit, total}
use Rattle.lent.specs.Clauses.{text_written}
use Rattle.lent.specs.Filled.{filled, filled-refused}
use Rattle.channel.specs.Channel.{channel_types}
use Rattle.reference.specs.Clauses.{reference_read}
use Rattle.reference_write.specs.Clauses.{reference_written, written_text}
use Rattle.reference_write.specs.Writing.{Lent, lent_text}
use Rattle.envelope.specs.declared.Envelope.{Envelope}
use Rattle.envelope.specs.declared.Figures.{Figures}
use Rattle.record_write.specs.Clauses.{record_written}
use Rattle.promises.specs.AlertAnswers.{TrialCounts, trial_counts, trial_kept, trying}
use Rattle.promises.specs.AlertCalls.{AlertCalls, alert_calls}
use Rattle.promises.specs.Calls.{Calls, calls}
use Rattle.promises.specs.Exports.{Exports, exports}
use Rattle.promises.specs.Lent.{CountWithin, CountsWithin, FilledPlaces, counts_within, filled_places}
use Rattle.promises.specs.LentExports.{ExportCounts, export_counts}
use Rattle.promises.specs.Listed.{KeptWhereRefused, refused_keeps}
use Rattle.promises.specs.ListedAnswers.{answers_listed}
use Rattle.promises.specs.MeasureAnswers.{MeasureCounts, measure_counts}
use Rattle.promises.specs.MeasureCalls.{MeasureCalls, measure_calls}
use Rattle.promises.specs.ProgramCalls.{ProgramCalls, ProgramReaders, program_calls, program_readers}
use Rattle.promises.specs.Programs.{ProgramTexts, program_texts}
use Rattle.promises.specs.WriterAnswers.{writer_count, writer_listed}
use Rattle.promises.specs.WriterCalls.{WriterCalls, writer_calls}
use seplogic.Ra.Ura.{Ura}
use types.Logic.{Logic}
use contract.Running.{Running}
use prog.Model.{Model}

module _ {M : Type 1} {𝓤 : Ura M} (𝓛 : Logic 𝓤) (𝓜 : Model 𝓤 𝓛.H) (𝓡 : Running 𝓤 𝓛.H 𝓜) where
  -- ---- 1.1

  -- no call asks anything of its caller, and its result is what a definition gives of its arguments, accepted or refused
  pub record PublicCalls : Type 1 where
    pub of_library : Calls 𝓛 𝓜 𝓡
    pub of_programs : ProgramCalls 𝓛 𝓜 𝓡
    pub for_C_and_Rust : Exports 𝓛 𝓜 𝓡
    pub of_measure : MeasureCalls 𝓛 𝓜 𝓡
    pub of_writer : WriterCalls 𝓛 𝓜 𝓡
    pub of_alerts : AlertCalls 𝓛 𝓜 𝓡
    pub texts_of_programs : ProgramTexts
    -- no public calls: what the two by which the programs read ask of a program, and what they give it
    pub readers : ProgramReaders 𝓛 𝓜 𝓡

  pub promise_1_1 : PublicCalls
  promise_1_1 =
      record {
        of_library = calls 𝓛 𝓜 𝓡;
        of_programs = program_calls 𝓛 𝓜 𝓡;
        for_C_and_Rust = exports 𝓛 𝓜 𝓡;
        of_measure = measure_calls 𝓛 𝓜 𝓡;
        of_writer = writer_calls 𝓛 𝓜 𝓡;
        of_alerts = alert_calls 𝓛 𝓜 𝓡;
        texts_of_programs = program_texts;
        readers = program_readers 𝓛 𝓜 𝓡;
      }

  -- ---- 1.2

  pub record LentMemory : Type 1 where
    -- what each slice that is lent to be written holds at exit is said by `filled` in the calls of 1.1
    pub said_by_calls : PublicCalls
    -- accepted, the first places are what the definition gives and every other place is as at entry, the count being within both lists
    pub accepted : {A : Type 0} (count : ℕ) (source lent : List A) → filled 0 count source lent ≡ take count source ++ drop count lent
    pub place_by_place : {A : Type 0} (count : ℕ) (source lent : List A) → CountWithin count source (length lent) → FilledPlaces count source lent
    -- as the counts of the calls are
    pub counts : CountsWithin
    pub counts_for_C_and_Rust : ExportCounts
    pub counts_of_measure : MeasureCounts
    -- of a reference text that is written, for C and Rust too, where the answer has the same length
    pub count_of_writer : (lent : Lent) (places : ℕ)
        → CountWithin (reference_written row_limit channel_types lent places).length (written_text channel_types (lent_text row_limit channel_types lent)) places
    pub counts_of_trial : TrialCounts
    -- refused, every place is as at entry: by the number, as the calls for C and Rust and those that measure say it, and by the outcome, as the
    -- others do
    pub refused_kept : {A : Type 0} (number count : ℕ) (source lent : List A) → (number ≡ 0 → ⊥) → filled number count source lent ≡ lent
    pub reference_kept : (text : List ℕ) (places : ℕ) → KeptWhereRefused (reference_read row_limit channel_types text places).outcome
    pub writing_kept : (rows : List ℤ) (m : ℕ) (e : Envelope) (places : ℕ)
        → KeptWhereRefused (record_written total row_limit channel_types rows m e places).outcome
    pub reference_writing_kept : (lent : Lent) (places : ℕ) → KeptWhereRefused (reference_written row_limit channel_types lent places).outcome
    pub trial_kept : (f : Figures) (settings readings : List ℕ) (places : ℕ) → KeptWhereRefused (trying f settings readings places).outcome
    pub output_kept : (output : List ℕ) (places : ℕ) → KeptWhereRefused (text_written output places).outcome

  pub promise_1_2 : LentMemory
  unfolding filled
  promise_1_2 =
      record {
        said_by_calls = promise_1_1;
        accepted = λ count source lent. refl;
        place_by_place = filled_places;
        counts = counts_within;
        counts_for_C_and_Rust = export_counts;
        counts_of_measure = measure_counts;
        count_of_writer = writer_count;
        counts_of_trial = trial_counts;
        refused_kept = λ number count source lent refusal. sym (filled-refused number count source lent refusal);
        reference_kept = λ text places.
            refused_keeps (reference_read row_limit channel_types text places).outcome (answers_listed.of_reference text places).listed;
        writing_kept = λ rows m e places.
            refused_keeps (record_written total row_limit channel_types rows m e places).outcome (answers_listed.of_writing rows m e places).listed;
        reference_writing_kept = λ lent places.
            refused_keeps (reference_written row_limit channel_types lent places).outcome (writer_listed lent places).answered.listed;
        trial_kept = trial_kept;
        output_kept = λ output places. refused_keeps (text_written output places).outcome (answers_listed.of_output output places).listed;
      }
