-- Demand 1 and request 1, which refusal the writer of reference texts returns where several apply, for the row limit and the types of the calls;
-- part of promises 1.4 and R1.
--     WriterRefused, writer_refused     8, then row by row 3, 4, 5, then 13
use Rattle.std.specs.Prelude.{◌+◌, ◌<◌, ◌≤◌, ℕ, ◌≡◌, refl, ◌&&◌, false, true, ◌↔◌, eqb, length, take}
use Rattle.std.proofs.Common.{◌∙◌, arith}
use Rattle.std.proofs.Math.Path.{ap}
use Rattle.refusal.specs.Number.{buffer_short, label_repeated, line_form, outside_limits, value_range}
use Rattle.refusal.specs.Outcome.{refused, refused_at}
use Rattle.limits.specs.Limits.{row_limit}
use Rattle.lent.specs.ContractLaws.{text_fits, text_short}
use Rattle.lent.specs.Clauses.{not_written, written}
use Rattle.label.specs.RowLabel.{is_row_label, label_used}
use Rattle.channel.specs.Channel.{channel_types}
use Rattle.value.specs.Values.{values_in_range}
use Rattle.reference_rows.specs.ReferenceText.{ReferenceText}
use Rattle.reference_rows.specs.Rows.{Content, faulty, sound}
use Rattle.reference.specs.Printing.{print_text}
use Rattle.typed_rows.specs.Given.{given_within}
use Rattle.reference_write.specs.Clauses.{content_written, reference_written}
use Rattle.reference_write.specs.FaultLaws.{NoFault, fault-form, fault-label, fault_none, fault_range, first_fault, lent_fault, lent_row, no_fault, none_fault, outside}
use Rattle.reference_write.specs.Labels.{ends_reach}
use Rattle.reference_write.specs.Writing.{Lent, labels_lent, lent_within}
use Rattle.promises.specs.House.{lent_content}
use Rattle.promises.specs.WriterAnswers.{writing}

-- rows count from 0; row i has its label and n of the places of the table (`lent_row`), and it would stand on line i + 2
pub record WriterRefused (lent : Lent) (places : ℕ) : Type 0 where
  -- 8 for rows and codes outside their limits, and for ends that are not m, that fall, or of which the last is not the number of bytes
  pub within_is : lent_within row_limit channel_types lent
      ≡ (given_within row_limit channel_types lent.rows lent.m lent.n lent.codes
      && (eqb (length lent.ends) lent.m && ends_reach 0 lent.ends (length lent.labels)))
  pub outside_8 : lent_within row_limit channel_types lent ≡ false → writing lent places ≡ not_written (refused outside_limits)
  -- the first row that meets one of 3, 4 and 5 gives it, and of these the first
  pub form_3 : lent_within row_limit channel_types lent ≡ true → (i : ℕ) → i < lent.m → NoFault channel_types lent i
      → is_row_label (lent_row lent i).label ≡ false → writing lent places ≡ not_written (refused_at line_form (i + 2))
  pub range_4 : lent_within row_limit channel_types lent ≡ true → (i : ℕ) → i < lent.m → NoFault channel_types lent i
      → is_row_label (lent_row lent i).label ≡ true → values_in_range channel_types (take lent.n lent.codes) (lent_row lent i).values ≡ false
      → writing lent places ≡ not_written (refused_at value_range (i + 2))
  pub label_5 : lent_within row_limit channel_types lent ≡ true → (i : ℕ) → i < lent.m → NoFault channel_types lent i
      → is_row_label (lent_row lent i).label ≡ true → values_in_range channel_types (take lent.n lent.codes) (lent_row lent i).values ≡ true
      → label_used (lent_row lent i).label (take i (labels_lent lent)) ≡ true → writing lent places ≡ not_written (refused_at label_repeated (i + 2))
  -- a row meets none exactly where its label is in form, its values are within their ranges and no earlier row has the label
  pub none_exactly : (i : ℕ)
      → (lent_fault channel_types lent i ≡ 0)
      ↔ ((is_row_label (lent_row lent i).label ≡ true)
      × (values_in_range channel_types (take lent.n lent.codes) (lent_row lent i).values ≡ true)
      × (label_used (lent_row lent i).label (take i (labels_lent lent)) ≡ false))
  -- and where no row meets one, what is lent has a text
  pub some_text : lent_within row_limit channel_types lent ≡ true → NoFault channel_types lent lent.m
      → (found : ReferenceText) × (lent_content lent ≡ sound found)
  -- 13 last
  pub buffer_13 : (found : ReferenceText) → lent_content lent ≡ sound found → places < length (print_text channel_types found)
      → writing lent places ≡ not_written (refused buffer_short)
  pub else_written : (found : ReferenceText) → lent_content lent ≡ sound found → length (print_text channel_types found) ≤ places
      → writing lent places ≡ written (length (print_text channel_types found))

module _ (lent : Lent) (places : ℕ) where
  answer-of : (c : Content) → lent_content lent ≡ c → writing lent places ≡ content_written channel_types c places
  unfolding reference_written
  answer-of c is = ap (λ (x : Content). content_written channel_types x places) is

  module _ (within : lent_within row_limit channel_types lent ≡ true) (i : ℕ) (below : i < lent.m) (passed : NoFault channel_types lent i) where
    row-fault : (number : ℕ) → 1 ≤ number → lent_fault channel_types lent i ≡ number → writing lent places ≡ not_written (refused_at number (i + 2))
    row-fault number some is =
        answer-of (faulty number (i + 2))
        (first_fault row_limit channel_types lent within i below passed (omega arith) ∙ ap (λ k. faulty k (i + 2)) is)

  pub writer_refused : WriterRefused lent places
  writer_refused =
      let codes = take lent.n lent.codes in
      record {
        within_is = refl;
        outside_8 = λ h. answer-of (faulty outside_limits 0) (outside row_limit channel_types lent h);
        form_3 = λ within i below passed formless.
            row-fault within i below passed line_form (omega arith) (fault-form channel_types codes (take i (labels_lent lent)) (lent_row lent i) formless);
        range_4 = λ within i below passed labelled outside-range.
            row-fault within i below passed value_range (omega arith)
            (fault_range channel_types codes (take i (labels_lent lent)) (lent_row lent i) labelled outside-range);
        label_5 = λ within i below passed labelled in_range used.
            row-fault within i below passed label_repeated (omega arith)
            (fault-label channel_types codes (take i (labels_lent lent)) (lent_row lent i) labelled in_range used);
        none_exactly = λ i. (
          fault_none channel_types codes (take i (labels_lent lent)) (lent_row lent i),
          λ tests. none_fault channel_types codes (take i (labels_lent lent)) (lent_row lent i) tests.0 tests.1 tests.2,
        );
        some_text = λ within none. let text = no_fault row_limit channel_types lent within none in (text.0, text.1);
        buffer_13 = λ found is short. answer-of (sound found) is ∙ text_short (print_text channel_types found) places short;
        else_written = λ found is fits. answer-of (sound found) is ∙ text_fits (print_text channel_types found) places fits;
      }
