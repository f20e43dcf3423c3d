-- Demand 1 and request 1, what a call that writes a reference text answers, for the row limit and the types of the calls: parts of promises 1.2,
-- 1.3 and R1; the order of refusals is in WriterRefusals.
--     writing lent places                   the answer where a buffer of so many places is lent
--     writer_count                          1.2: an accepted call fills so many places, which are within the text and within what is lent
--     RowNumber number                      3, 4 or 5
--     WriterRefusal m number line           8 or 13 at line 0; 3, 4 or 5 at the line that one of m rows would have
--     before_13                             what refuses what is lent is not 13
--     WriterListed, writer_listed           1.3: an answer is accepted or such a refusal, in which the length is 0
use Rattle.std.specs.Prelude.{◌+◌, ◌≤◌, ℕ, ◌≡◌, Bool, false, true, List, ◌⊎◌, leb, length, take}
use Rattle.std.proofs.Common.{zero-le, ap, sym, inl, inr, arith}
use Rattle.std.proofs.Math.Path.{refl}
use Rattle.refusal.specs.Number.{buffer_short, label_repeated, line_form, outside_limits, value_range}
use Rattle.refusal.specs.Outcome.{line_of, number_of, Refused, RefusalNumbers}
use Rattle.refusal.specs.OutcomeLaws.{each_answer}
use Rattle.limits.specs.Limits.{row_limit}
use Rattle.lent.specs.ContractLaws.{text_most}
use Rattle.lent.specs.Clauses.{not_written, TextWritten}
use Rattle.label.specs.RowLabel.{is_row_label, label_used}
use Rattle.channel.specs.Channel.{Types, channel_types}
use Rattle.value.specs.Values.{values_in_range}
use Rattle.reference_row.specs.Row.{Row}
use Rattle.reference_rows.specs.ReferenceText.{ReferenceText}
use Rattle.reference_rows.specs.Rows.{Content, faulty, sound}
use Rattle.reference.specs.Printing.{print_text}
use Rattle.reference_write.specs.Clauses.{content_written, fault_by, reference_written, written_text}
use Rattle.reference_write.specs.FaultLaws.{each_text, lent_fault, lent_row, row_fault}
use Rattle.reference_write.specs.Writing.{Lent, labels_lent}
use Rattle.export_answers.specs.Clauses.{written_in_numbers}
use Rattle.promises.specs.House.{lent_content}
use Rattle.promises.specs.Lent.{CountWithin}
use Rattle.promises.specs.Listed.{apart, is_refusal_at, refused-answer, row_listed}
use Rattle.promises.specs.ListedAnswers.{TextAnswered, answers_listed}
use Rattle.promises.specs.ListedNumbers.{WrittenNumbers, written-numbers}

abbrev pub writing : Lent → ℕ → TextWritten
writing = reference_written row_limit channel_types

-- ---- 1.2

pub writer_count : (lent : Lent) (places : ℕ) → CountWithin (writing lent places).length (written_text channel_types (lent_content lent)) places
unfolding reference_written
writer_count lent places = go (lent_content lent)
  where
    go : (c : Content) → CountWithin (content_written channel_types c places).length (written_text channel_types c) places
    go (faulty number line) = (zero-le, zero-le)
    go (sound found) = let most = text_most (print_text channel_types found) places in (most.1, most.0)

-- ---- 1.3

abbrev pub RowNumber : ℕ → Type 0
RowNumber number = (number ≡ line_form) ⊎ ((number ≡ value_range) ⊎ (number ≡ label_repeated))

-- refused before 13
abbrev ContentRefusal : ℕ → ℕ → ℕ → Type 0
ContentRefusal m number line = ((number ≡ outside_limits) × (line ≡ 0)) ⊎ (RowNumber number × (2 ≤ line) × (line ≤ m + 1))

abbrev pub WriterRefusal : ℕ → ℕ → ℕ → Type 0
WriterRefusal m number line = ContentRefusal m number line ⊎ ((number ≡ buffer_short) × (line ≡ 0))

pub record WriterListed (lent : Lent) (places : ℕ) : Type 0 where
  pub answered : TextAnswered (writing lent places)
  pub numbers : (r : RefusalNumbers) → (writing lent places).outcome ≡ Refused r → WriterRefusal lent.m r.number r.line
  pub for_C_and_Rust : WrittenNumbers (written_in_numbers (writing lent places))

row_number : (types : Types) (codes : List ℕ) (earlier : List (List ℕ)) (row : Row) → 1 ≤ row_fault types codes earlier row
    → RowNumber (row_fault types codes earlier row)
unfolding row_fault
row_number types codes earlier row = go (is_row_label row.label) (values_in_range types codes row.values) (label_used row.label earlier)
  where
    go : (labelled within used : Bool) → 1 ≤ fault_by labelled within used → RowNumber (fault_by labelled within used)
    go false within used h = inl refl
    go true false used h = inr (inl refl)
    go true true true h = inr (inr refl)
    go true true false h = absurd (omega arith)

-- what refuses what is lent
refusal_is : (lent : Lent) (number line : ℕ) → lent_content lent ≡ faulty number line → ContentRefusal lent.m number line
refusal_is lent number line =
    each_text row_limit channel_types lent (λ c. c ≡ faulty number line → ContentRefusal lent.m number line)
    (λ _ e. same outside_limits 0 e (inl (refl, refl)))
    (λ _ i below _ some e.
    let fault = lent_fault channel_types lent i in
    same fault (i + 2) e (inr (row_number channel_types (take lent.n lent.codes) (take i (labels_lent lent)) (lent_row lent i) some, omega arith, omega arith)))
    (λ _ _ found _ e. sound_not e)
  where
    same : (k l : ℕ) → faulty k l ≡ faulty number line → ContentRefusal lent.m k l → ContentRefusal lent.m number line
    same k l e is = let number_is : k ≡ number = cc in let line_is : l ≡ line = cc in rw (← number_is, ← line_is) is

    sound_not : {Q : Type 0} {found : ReferenceText} → sound found ≡ faulty number line → Q
    sound_not e = let z : ◌≡◌ {A = ℕ} 0 1 = cc in absurd (omega arith)

pub before_13 : (lent : Lent) (number line : ℕ) → lent_content lent ≡ faulty number line → number ≡ buffer_short → ⊥
before_13 lent number line is e = go (refusal_is lent number line is)
  where
    go : ContentRefusal lent.m number line → ⊥
    go (inl (eight, none)) = omega arith
    go (inr (inl three, past, last)) = omega arith
    go (inr (inr (inl four), past, last)) = omega arith
    go (inr (inr (inr five), past, last)) = omega arith

refusal_listed : (m number line : ℕ) → ContentRefusal m number line → is_refusal_at number line ≡ true
refusal_listed m number line (inl (number_is, line_is)) = rw (number_is, line_is)
refusal_listed m number line (inr (of_row, past, last)) = row_listed number line (low of_row) (high of_row) (omega arith)
  where
    low : RowNumber number → line_form ≤ number
    low (inl e) = omega arith
    low (inr (inl e)) = omega arith
    low (inr (inr e)) = omega arith

    high : RowNumber number → number ≤ 6
    high (inl e) = omega arith
    high (inr (inl e)) = omega arith
    high (inr (inr e)) = omega arith

module _ (lent : Lent) (places : ℕ) where
  content_answered : (c : Content) → lent_content lent ≡ c → TextAnswered (content_written channel_types c places)
  content_answered (faulty number line) is =
      refused-answer (λ (w : TextWritten). w.outcome) (λ r. not_written (Refused r)) (record { number = number; line = line }) refl
      (refusal_listed lent.m number line (refusal_is lent number line is))
  content_answered (sound found) is = answers_listed.of_output (print_text channel_types found) places

  content-numbers : (r : RefusalNumbers) (c : Content) → lent_content lent ≡ c → (content_written channel_types c places).outcome ≡ Refused r
      → WriterRefusal lent.m r.number r.line
  content-numbers r (faulty number line) is e =
      let number_is : number ≡ r.number = ap number_of e in
      let line_is : line ≡ r.line = ap line_of e in
      rw (← number_is, ← line_is) (inl (refusal_is lent number line is))
  content-numbers r (sound found) is e =
      each_answer (λ (w : TextWritten). w.outcome ≡ Refused r → WriterRefusal lent.m r.number r.line) (leb (length (print_text channel_types found)) places)
      (λ _ short. inr (sym (ap number_of short), sym (ap line_of short))) (λ _ fits. apart fits) e

  pub writer_listed : WriterListed lent places
  unfolding reference_written
  writer_listed =
      let answered = content_answered (lent_content lent) refl in
      record {
        answered = answered;
        numbers = λ r. content-numbers r (lent_content lent) refl;
        for_C_and_Rust = written-numbers (writing lent places) answered;
      }
