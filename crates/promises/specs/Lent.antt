-- Demand 1, what a lent slice holds after a call, place by place; part of promise 1.2 in Results.
--     CountWithin count source places     so many places are within the source and within the lent places
--     FilledPlaces, filled_places         a slice that is filled by so many: its length, its first places and the others
--     CountsWithin, counts_within         each call that fills a lent slice fills it by such a count
use Rattle.std.specs.Prelude.{◌*◌, ◌<◌, ◌≤◌, suc, zero, ℕ, ◌≡◌, refl, List, [], ◌++◌, ◌∷◌, leb, ℤ, drop, get_or, length, take}
use Rattle.std.proofs.Common.{zero-le, le_of_suc-le-suc, not-suc-le-zero, arith, leb-true}
use Rattle.refusal.specs.OutcomeLaws.{each_answer}
use Rattle.limits.specs.Limits.{row_limit, total}
use Rattle.lent.specs.ContractLaws.{text_most}
use Rattle.lent.specs.Clauses.{text_written, TextWritten}
use Rattle.lent.specs.Filled.{filled, filled-length}
use Rattle.channel.specs.Channel.{channel_types}
use Rattle.reference_rows.specs.ReferenceText.{channel_count, row_count}
use Rattle.reference_rows.specs.Rows.{Content, faulty, sound}
use Rattle.reference.specs.Clauses.{answer_of, reference_read, values_in, with_table, ReferenceOutcome}
use Rattle.reference.specs.TableLaws.{table_length}
use Rattle.envelope.specs.declared.Envelope.{Envelope}
use Rattle.record_print.specs.Printed.{record_text}
use Rattle.record_write.specs.Clauses.{record_written}
use Rattle.record_write.specs.WriteLaws.{each_written}
use Rattle.promises.specs.House.{text_content}

abbrev pub CountWithin : {A : Type 0} → ℕ → List A → ℕ → Type 0
CountWithin count source places = (count ≤ length source) × (count ≤ places)

-- ---- place by place

pub record FilledPlaces {A : Type 0} (count : ℕ) (source lent : List A) : Type 0 where
  -- accepted or refused, the slice has as many places as at entry
  pub same_length : (number : ℕ) → length (filled number count source lent) ≡ length lent
  -- accepted, the first places are those of the source, and every other place is as at entry; the default d is what stands past the end
  pub first_places : (k : ℕ) (d : A) → k < count → get_or (filled 0 count source lent) k d ≡ get_or source k d
  pub other_places : (k : ℕ) (d : A) → count ≤ k → get_or (filled 0 count source lent) k d ≡ get_or lent k d

first : {A : Type 0} (count : ℕ) (source rest : List A) → count ≤ length source → (k : ℕ) (d : A) → k < count
    → get_or (take count source ++ rest) k d ≡ get_or source k d
first zero source rest within k d before = absurd (not-suc-le-zero before)
first (suc count) [] rest within k d before = absurd (not-suc-le-zero within)
first (suc count) (x ∷ source) rest within zero d before = refl
first (suc count) (x ∷ source) rest within (suc k) d before = first count source rest (le_of_suc-le-suc within) k d (le_of_suc-le-suc before)

other : {A : Type 0} (count : ℕ) (source lent : List A) → CountWithin count source (length lent) → (k : ℕ) (d : A) → count ≤ k
    → get_or (take count source ++ drop count lent) k d ≡ get_or lent k d
other zero source lent within k d past = refl
other (suc count) [] lent within k d past = absurd (not-suc-le-zero within.0)
other (suc count) (x ∷ source) [] within k d past = absurd (not-suc-le-zero within.1)
other (suc count) (x ∷ source) (y ∷ lent) within zero d past = absurd (not-suc-le-zero past)
other (suc count) (x ∷ source) (y ∷ lent) within (suc k) d past =
    other count source lent (le_of_suc-le-suc within.0, le_of_suc-le-suc within.1) k d (le_of_suc-le-suc past)

pub filled_places : {A : Type 0} (count : ℕ) (source lent : List A) → CountWithin count source (length lent) → FilledPlaces count source lent
unfolding filled
filled_places count source lent within =
    record {
      same_length = λ number. filled-length number count source lent within.0 within.1;
      first_places = first count source (drop count lent) within.0;
      other_places = other count source lent within;
    }

-- ---- the calls

pub record CountsWithin : Type 0 where
  pub of_reference : (text : List ℕ) (places : ℕ) → let r = reference_read row_limit channel_types text places in
      CountWithin (r.m * r.n) (values_in (text_content text)) places
  pub of_writing : (rows : List ℤ) (m : ℕ) (e : Envelope) (places : ℕ)
      → CountWithin (record_written total row_limit channel_types rows m e places).length (record_text channel_types e) places
  -- the programs, those for C and Rust too, whose answers in numbers have the same length
  pub of_output : (output : List ℕ) (places : ℕ) → CountWithin (text_written output places).length output places

reference_count : (text : List ℕ) (places : ℕ) → let r = reference_read row_limit channel_types text places in
    CountWithin (r.m * r.n) (values_in (text_content text)) places
unfolding reference_read
reference_count text places = go (text_content text) refl
  where
    go : (c : Content) → text_content text ≡ c → let r = with_table places (answer_of c) in CountWithin (r.m * r.n) (values_in c) places
    go (faulty number line) is =
        each_answer (λ (r : ReferenceOutcome). CountWithin (r.m * r.n) (values_in (faulty number line)) places) (leb 0 places)
        (λ _. (zero-le, zero-le)) (λ _. (zero-le, zero-le))
    go (sound found) is =
        let count = row_count found * channel_count found in
        each_answer (λ (r : ReferenceOutcome). CountWithin (r.m * r.n) (values_in (sound found)) places) (leb count places) (λ _. (zero-le, zero-le))
        (λ room. (omega (arith, table_length row_limit channel_types text found is), leb-true count places room))

writing-count : (rows : List ℤ) (m : ℕ) (e : Envelope) (places : ℕ)
    → CountWithin (record_written total row_limit channel_types rows m e places).length (record_text channel_types e) places
writing-count rows m e places =
    each_written total row_limit channel_types rows m e places (λ (w : TextWritten). CountWithin w.length (record_text channel_types e) places)
    (zero-le, zero-le) (λ _ _ _. (zero-le, zero-le)) (λ _ _. (zero-le, zero-le)) (λ _ room. (omega arith, room))

pub counts_within : CountsWithin
counts_within =
    record {
      of_reference = reference_count;
      of_writing = writing-count;
      of_output = λ output places. let most = text_most output places in (most.1, most.0);
    }
