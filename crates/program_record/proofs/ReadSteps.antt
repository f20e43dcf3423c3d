-- A reference text that is read into a table with room for every text.
--     TableRead text r table        the answer to the text and the table after it
--     table-read                    as the call promises it
--     RowsRead text r table         an accepted text, and where its rows and codes stand
--     rows-read                     an accepted text has them
--     refused-read                  a refused text
--     record_read_lem                   a record that is read against them
use Prim.Native.Nat.{ℕ, ◌*◌, ◌≤◌}
use mathlib.Core.Path.{◌≡◌, refl, sym, ap, ap₂, ◌∙◌}
use mathlib.Core.List.{List}
use native.Mathlib.Nat.{mul-le-mul}
use native.Mathlib.Omega.{arith}
use lib.IntN.{ℤ}
use lib.ListN.{length, take, drop}
use lib.Seq.{take_at, take-length, length-take-le}
use Rattle.lent.specs.Filled.{filled}
use Rattle.refusal.specs.Outcome.{number_of, line_of, refused_at, RefusalNumbers, Accepted, Refused}
use Rattle.limits.specs.Limits.{total, row_limit, channel_limit, place_limit}
use Rattle.channel.specs.Channel.{channel_types}
use Rattle.reference_rows.specs.ReferenceText.{ReferenceText, codes_of, table_of}
use Rattle.reference_rows.specs.Rows.{Content, faulty, sound}
use Rattle.reference.specs.Reference.{content}
use Rattle.reference.specs.TableLaws.{table_length}
use Rattle.reference.specs.Clauses.{answer_of, reference_read, values_in, ReferenceOutcome}
use Rattle.reference.specs.ContractLaws.{answer_places, answer-codes, answer-rows, answer_channels, read_room}
use Rattle.record_read.specs.Clauses.{record_read}
use Rattle.program_record.specs.Against.{record_against}
use Rattle.program_record.specs.AgainstLaws.{against_sound}

abbrev content_is : List ℕ → Content
content_is = content row_limit channel_types

pub record TableRead (text : List ℕ) (r : ReferenceOutcome) (table : List ℤ) : Type 0 where
  pub is : r ≡ answer_of (content_is text)
  pub places : r.m * r.n ≤ place_limit
  pub within : r.m * r.n ≤ length table
  pub channels : r.n ≤ channel_limit
  pub typed : r.n ≤ length r.codes
  pub values : List ℤ
  pub table_is : table ≡ filled (number_of r.outcome) (r.m * r.n) (values_in (content_is text)) values

pub table-read : {text : List ℕ} {r : ReferenceOutcome} {table : List ℤ} (values : List ℤ) → r ≡ reference_read row_limit channel_types text place_limit
    → table ≡ filled (number_of r.outcome) (r.m * r.n) (values_in (content_is text)) values → place_limit ≤ length table → TableRead text r table
table-read {text} {r} {table} values e f long =
    let is = e ∙ read_room row_limit channel_types text place_limit (omega arith) in
    let rows = ap (λ (x : ReferenceOutcome). x.m) is in
    let channels : r.n ≤ channel_limit = omega (arith, ap (λ (x : ReferenceOutcome). x.n) is, answer_channels row_limit channel_types text) in
    let places : r.m * r.n ≤ place_limit = mul-le-mul {n₂ = row_limit} {m₂ = channel_limit} (omega (arith, rows, answer-rows row_limit channel_types text)) channels in
    record {
      is = is;
      places = places;
      within = omega arith;
      channels = channels;
      typed = omega (arith, ap (λ (x : ReferenceOutcome). length x.codes) is, answer_places (content_is text));
      values = values;
      table_is = f;
    }

-- the first places of a table that is filled are the source's
filled_first : (number count : ℕ) (source lent table : List ℤ) → number ≡ 0 → length source ≡ count → table ≡ filled number count source lent
    → take count table ≡ source
unfolding filled
filled_first number count source lent table accepted long e =
    ap (take count) (e ∙ ap (λ (k : ℕ). filled k count source lent) accepted)
    ∙ take_at (take count source) (drop count lent) count (length-take-le count source (omega arith))
    ∙ ap (λ (k : ℕ). take k source) (sym long) ∙ take-length source

pub record RowsRead (text : List ℕ) (r : ReferenceOutcome) (table : List ℤ) : Type 0 where
  pub found : ReferenceText
  pub is : content_is text ≡ sound found
  pub answer : r ≡ answer_of (sound found)
  pub first : take (r.m * r.n) table ≡ table_of found
  pub typed : take r.n r.codes ≡ codes_of found

module _ {text : List ℕ} {r : ReferenceOutcome} {table : List ℤ} (t : TableRead text r table) where
  pub rows-read : r.outcome ≡ Accepted → RowsRead text r table
  rows-read accepted = go (content_is text) refl
    where
      go : (c : Content) → content_is text ≡ c → RowsRead text r table
      go (faulty number line) is =
          let refused : refused_at number line ≡ Accepted = ap (λ (x : ReferenceOutcome). x.outcome) (sym (t.is ∙ ap answer_of is)) ∙ accepted in
          let z : ◌≡◌ {A = ℕ} 0 1 = cc in
          absurd (omega arith)
      go (sound found) is =
          let answer = t.is ∙ ap answer_of is in
          record {
            found = found;
            is = is;
            answer = answer;
            first =
                filled_first (number_of r.outcome) (r.m * r.n) (table_of found) t.values table (ap number_of accepted)
                (table_length row_limit channel_types text found is ∙ ap (λ (x : ReferenceOutcome). x.m * x.n) (sym answer))
                (t.table_is ∙ ap (λ (c : Content). filled (number_of r.outcome) (r.m * r.n) (values_in c) t.values) is);
            typed = ap (λ (x : ReferenceOutcome). take x.n x.codes) answer ∙ answer-codes row_limit channel_types text found is;
          }

  pub refused-read : (refusal : RefusalNumbers) → r.outcome ≡ Refused refusal → content_is text ≡ faulty refusal.number refusal.line
  refused-read refusal refused = go (content_is text) refl
    where
      go : (c : Content) → content_is text ≡ c → c ≡ faulty refusal.number refusal.line
      go (faulty number line) is =
          let same : refused_at number line ≡ Refused refusal = ap (λ (x : ReferenceOutcome). x.outcome) (sym (t.is ∙ ap answer_of is)) ∙ refused in
          ap₂ faulty (ap number_of same) (ap line_of same)
      go (sound found) is =
          let same : Accepted ≡ Refused refusal = ap (λ (x : ReferenceOutcome). x.outcome) (sym (t.is ∙ ap answer_of is)) ∙ refused in
          let z : ◌≡◌ {A = ℕ} 0 1 = cc in
          absurd (omega arith)

pub record_read_lem : {text : List ℕ} {r : ReferenceOutcome} {table : List ℤ} → RowsRead text r table → (record_text : List ℕ)
    → record_read total row_limit channel_types (take (r.m * r.n) table) r.m r.n (take r.n r.codes) record_text
    ≡ record_against total row_limit channel_types text record_text
record_read_lem {text} {r} {table} read record_text =
    ap₂ (λ (rows : List ℤ) (codes : List ℕ). record_read total row_limit channel_types rows r.m r.n codes record_text) read.first read.typed
    ∙ ap (λ (x : ReferenceOutcome). record_read total row_limit channel_types (table_of read.found) x.m x.n (codes_of read.found) record_text) read.answer
    ∙ sym (against_sound total row_limit channel_types text read.found read.is record_text)
