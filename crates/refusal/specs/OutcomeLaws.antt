-- Laws of outcomes.
--     each_answer       what holds of the refusal where its test fails, and of the rest where it holds, holds of the answer
--     each_found        the same for a test that finds something
--     never_accepted    no refusal is an acceptance
--     never_zero        no refusal has the number 0
--     kind_nonzero      the number of no kind is 0
--     kind_told, refusal_told       a kind is told by its number, and a refusal by its number and line
use Rattle.std.specs.Prelude.{ℕ, suc, ◌≡◌, refl, Bool, true, false, List, [], ◌∷◌, get_or}
use Rattle.std.proofs.Math.Option.{Option, none, some}
use Rattle.std.proofs.Common.{arith, sym, ap, ap₂, ◌∙◌}
use Rattle.refusal.specs.Outcome.{refused, require, require_some, Accepted, RefusalNumbers, kind_number, refusal_numbers}
use Rattle.refusal.specs.declared.Kind.{Kind}
use Rattle.refusal.specs.declared.Kind.TheVariants.{TextLength, Heading, LineForm, ValueRange, LabelRepeated, RowCount, TableShort, OutsideLimits, BudgetTooLarge, TagDiffers, RecordForm, Disagreement, BufferShort, AlertSettings}
use Rattle.refusal.specs.declared.Refusal.{Refusal}

pub each_answer : {A : Type 0} (P : A → Type 0) (t : Bool) {refusal rest : A} → (t ≡ false → P refusal) → (t ≡ true → P rest)
    → P (require t refusal (λ _. rest))
each_answer P true hr hs = hs refl
each_answer P false hr hs = hr refl

pub each_found : {A B : Type 0} (P : B → Type 0) (o : Option A) {refusal : B} {rest : A → B} → (o ≡ none → P refusal)
    → ((x : A) → o ≡ some x → P (rest x)) → P (require_some o refusal rest)
each_found P (some x) hr hs = hs x refl
each_found P none hr hs = hr refl

pub never_accepted : {A : Type 0} {k : ℕ} → refused k ≡ Accepted → A
never_accepted h = let z : ◌≡◌ {A = ℕ} 0 1 = cc in absurd (omega arith)

pub never_zero : {A : Type 0} {k : ℕ} → suc k ≡ 0 → A
never_zero h = absurd (omega arith)

-- the kinds in the order of their numbers, the first of which is 1
abbrev kinds : List Kind
kinds =
    TextLength ∷ TextLength ∷ Heading ∷ LineForm ∷ ValueRange ∷ LabelRepeated ∷ RowCount ∷ TableShort ∷ OutsideLimits ∷ BudgetTooLarge ∷ TagDiffers ∷ RecordForm
    ∷ Disagreement ∷ BufferShort ∷ AlertSettings ∷ []

kind_at : (k : Kind) → get_or kinds (kind_number k) TextLength ≡ k
kind_at TextLength = refl
kind_at Heading = refl
kind_at LineForm = refl
kind_at ValueRange = refl
kind_at LabelRepeated = refl
kind_at RowCount = refl
kind_at TableShort = refl
kind_at OutsideLimits = refl
kind_at BudgetTooLarge = refl
kind_at TagDiffers = refl
kind_at RecordForm = refl
kind_at Disagreement = refl
kind_at BufferShort = refl
kind_at AlertSettings = refl

pub kind_told : (k j : Kind) → kind_number k ≡ kind_number j → k ≡ j
kind_told k j e = sym (kind_at k) ∙ ap (λ (n : ℕ). get_or kinds n TextLength) e ∙ kind_at j

pub refusal_told : (r s : Refusal) → refusal_numbers r ≡ refusal_numbers s → r ≡ s
refusal_told r s e =
    let same : Kind → ℕ → Refusal = λ (k : Kind) (l : ℕ). record { kind = k; line = l } in
    ap₂ same (kind_told r.kind s.kind (ap (λ (x : RefusalNumbers). x.number) e)) (ap (λ (x : RefusalNumbers). x.line) e)

pub kind_nonzero : (k : Kind) → kind_number k ≡ 0 → ⊥
kind_nonzero TextLength h = never_zero h
kind_nonzero Heading h = never_zero h
kind_nonzero LineForm h = never_zero h
kind_nonzero ValueRange h = never_zero h
kind_nonzero LabelRepeated h = never_zero h
kind_nonzero RowCount h = never_zero h
kind_nonzero TableShort h = never_zero h
kind_nonzero OutsideLimits h = never_zero h
kind_nonzero BudgetTooLarge h = never_zero h
kind_nonzero TagDiffers h = never_zero h
kind_nonzero RecordForm h = never_zero h
kind_nonzero Disagreement h = never_zero h
kind_nonzero BufferShort h = never_zero h
kind_nonzero AlertSettings h = never_zero h
