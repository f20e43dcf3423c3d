-- What the proof of the exported reading of a reference text needs. r is the answer to the text where the table has room for
-- every text; tablePlaces and codesPlaces are those that the caller lends.
--     short_table, short_codes       the answers where a lent slice is too short
--     answered                       the answer where both fit
--     unwritten                      a lent slice that a refusal leaves
--     told                           a refusal of the code without a line, in numbers
--     table_filled, codes-filled     what the lent slices hold where both fit
use Prim.Native.Nat.{ℕ, zero, suc, ◌*◌, ◌≤◌, ◌<◌}
use mathlib.Core.Path.{◌≡◌, refl, sym, ap, ap₂, ◌∙◌, subst}
use mathlib.Core.Bool.{Bool}
use mathlib.Core.List.{List, ◌++◌}
use native.Mathlib.Omega.{arith}
use borrow.Author.Tests.{le-leb, lt-leb}
use lib.Dec.{leb, leb-zero}
use lib.IntN.{ℤ}
use lib.ListN.{length, take, drop}
use lib.Seq.{take_at, length-take-le}
use Rattle.refusal.specs.Number.{table_short, buffer_short}
use Rattle.refusal.specs.Outcome.{number_of, line_of, refused, require, kind_number}
use Rattle.refusal.specs.OutcomeLaws.{kind_nonzero}
use Rattle.refusal.specs.declared.Kind.{Kind}
use Rattle.refusal.specs.declared.Refusal.{Refusal}
use Rattle.std.specs.Prelude.{Err}
use Rattle.limits.specs.Limits.{row_limit}
use Rattle.lent.specs.Filled.{filled, filled-refused}
use Rattle.channel.specs.Channel.{channel_types}
use Rattle.reference.specs.Reference.{content}
use Rattle.reference_rows.specs.ReferenceText.{channel_count, row_count, table_of}
use Rattle.reference_rows.specs.Rows.{Content, faulty, sound}
use Rattle.reference.specs.Clauses.{refused_reference, reference_outcome, answer_of, with_table, reference_read, values_in, ReferenceOutcome}
use Rattle.reference.specs.ContractLaws.{table_fits, table_too_short}
use Rattle.export_reference.specs.declared.ReferenceAnswer.{ReferenceAnswer}
use Rattle.export_reference.specs.Clauses.{reference_in_numbers, reference_answer, refused_answer}

-- the first places of a list that was itself filled are the source's
filled_again : (count : ℕ) (source first lent : List ℤ) → length source ≡ count
    → filled 0 count (filled 0 count source first) lent ≡ filled 0 count source lent
unfolding filled
filled_again count source first lent e =
    ap (λ (l : List ℤ). l ++ drop count lent)
    (take_at (take count source) (drop count first) count (length-take-le count source (omega arith)))

-- a refused text has no row, so that nothing is filled
table_of_lem : (c : Content) (first values lent : List ℤ) → length (values_in c) ≡ (answer_of c).m * (answer_of c).n
    → values ≡ filled (number_of (answer_of c).outcome) ((answer_of c).m * (answer_of c).n) (values_in c) first
    → filled 0 ((answer_of c).m * (answer_of c).n) values lent
    ≡ filled (number_of (answer_of c).outcome) ((answer_of c).m * (answer_of c).n) (values_in c) lent
unfolding filled
table_of_lem (faulty zero line) first values lent l e = refl
table_of_lem (faulty (suc number) line) first values lent l e = refl
table_of_lem (sound found) first values lent l e =
    let places = row_count found * channel_count found in
    ap (λ (vs : List ℤ). filled 0 places vs lent) e ∙ filled_again places (table_of found) first lent l

codes_of_lem : (c : Content) (lent : List ℕ)
    → filled 0 (answer_of c).n (answer_of c).codes lent ≡ filled (number_of (answer_of c).outcome) (answer_of c).n (answer_of c).codes lent
unfolding filled
codes_of_lem (faulty zero line) lent = refl
codes_of_lem (faulty (suc number) line) lent = refl
codes_of_lem (sound found) lent = refl

pub unwritten : {A : Type 0} (r : Refusal) (a : ReferenceAnswer) (count : ℕ) (source lent : List A)
    → a ≡ reference_in_numbers (reference_outcome (Err r)) → lent ≡ filled a.number count source lent
unwritten r a count source lent e =
    filled-refused a.number count source lent (λ z. kind_nonzero r.kind (sym (ap (λ (x : ReferenceAnswer). x.number) e) ∙ z))

-- a refusal of the code without a line, in numbers
pub told : {r : Refusal} {a : ReferenceAnswer} (kind : Kind) → r ≡ record { kind = kind; line = 0 }
    → a ≡ reference_in_numbers (reference_outcome (Err r)) → a ≡ refused_answer (kind_number kind)
told kind e f = f ∙ ap (λ (r : Refusal). reference_in_numbers (reference_outcome (Err r))) e

module _ (text : List ℕ) (r : ReferenceOutcome) (is : r ≡ answer_of (content row_limit channel_types text)) (tablePlaces codesPlaces : ℕ) where
  defined : with_table tablePlaces r ≡ reference_read row_limit channel_types text tablePlaces
  unfolding reference_read
  defined = ap (with_table tablePlaces) is

  pub short_table : tablePlaces < r.m * r.n
      → refused_answer table_short ≡ reference_answer (reference_read row_limit channel_types text tablePlaces) codesPlaces
  short_table h =
      ap (λ (b : Bool). reference_in_numbers (require b (refused_reference (refused buffer_short)) (λ _. refused_reference (refused table_short))))
      (sym (leb-zero codesPlaces))
      ∙ ap (λ (a : ReferenceOutcome). reference_answer a codesPlaces) (sym (table_too_short tablePlaces r h) ∙ defined)

  module _ (h : r.m * r.n ≤ tablePlaces) where
    fits : r ≡ reference_read row_limit channel_types text tablePlaces
    fits = sym (table_fits tablePlaces r h) ∙ defined

    chosen : {b : Bool} → leb r.n codesPlaces ≡ b
        → reference_in_numbers (require b (refused_reference (refused buffer_short)) (λ _. r))
        ≡ reference_answer (reference_read row_limit channel_types text tablePlaces) codesPlaces
    chosen e =
        ap (λ (b : Bool). reference_in_numbers (require b (refused_reference (refused buffer_short)) (λ _. r))) (sym e)
        ∙ ap (λ (a : ReferenceOutcome). reference_answer a codesPlaces) fits

    pub short_codes : codesPlaces < r.n
        → refused_answer buffer_short ≡ reference_answer (reference_read row_limit channel_types text tablePlaces) codesPlaces
    short_codes k = chosen (lt-leb r.n codesPlaces k)

    module _ (k : r.n ≤ codesPlaces) (number line : ℕ) (e : number ≡ number_of r.outcome) (f : line ≡ line_of r.outcome) where
      pub answered : record { number = number; line = line; m = r.m; n = r.n }
          ≡ reference_answer (reference_read row_limit channel_types text tablePlaces) codesPlaces
      answered =
          ap₂ (λ (x y : ℕ). record { number = x; line = y; m = r.m; n = r.n }) e f ∙ chosen (le-leb r.n codesPlaces k)

      pub table_filled : (first values lent : List ℤ) → length (values_in (content row_limit channel_types text)) ≡ r.m * r.n
          → values ≡ filled (number_of r.outcome) (r.m * r.n) (values_in (content row_limit channel_types text)) first
          → filled 0 (r.m * r.n) values lent
          ≡ filled number (r.m * r.n) (values_in (content row_limit channel_types text)) lent
      table_filled first values lent l v =
          subst (λ (a : ReferenceOutcome). length (values_in (content row_limit channel_types text)) ≡ a.m * a.n
          → values ≡ filled (number_of a.outcome) (a.m * a.n) (values_in (content row_limit channel_types text)) first
          → filled 0 (a.m * a.n) values lent ≡ filled (number_of a.outcome) (a.m * a.n) (values_in (content row_limit channel_types text)) lent)
          (sym is)
          (table_of_lem (content row_limit channel_types text) first values lent) l v
          ∙ ap (λ (x : ℕ). filled x (r.m * r.n) (values_in (content row_limit channel_types text)) lent) (sym e)

      pub codes-filled : (lent : List ℕ)
          → filled 0 r.n r.codes lent ≡ filled number r.n (reference_read row_limit channel_types text tablePlaces).codes lent
      codes-filled lent =
          subst (λ (a : ReferenceOutcome). filled 0 a.n a.codes lent ≡ filled (number_of a.outcome) a.n a.codes lent) (sym is)
          (codes_of_lem (content row_limit channel_types text) lent)
          ∙ ap₂ (λ (x : ℕ) (y : List ℕ). filled x r.n y lent) (sym e) (ap (λ (a : ReferenceOutcome). a.codes) fits)
