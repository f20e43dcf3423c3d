-- What writing a record answers, for any total D, row limit and table of types.
--     within_printing                    figures within their limits can be printed
--     Writing                            what a written envelope keeps: its limits, those of the rows, and agreement with them
--     outside_figures, outside_rows      8
--     refused-writing                    12
--     writing_agreed                     past 8 and 12, the record's text is written as any text is
--     short_writing                      13
--     each_written                       what holds of each answer holds of the call
--     writing-written                    such an envelope is written, to a buffer that holds its text
use Rattle.std.specs.Prelude.{ℕ, ◌≤◌, ◌<◌, ◌≡◌, true, false, ◌&&◌, List, leb, ℤ}
use Rattle.std.proofs.Common.{◌∙◌, arith, leb-true, leb-false}
use Rattle.std.proofs.Math.ListN.{length}
use Rattle.integers.specs.Tests.{both}
use Rattle.refusal.specs.Number.{outside_limits, disagreement, buffer_short}
use Rattle.refusal.specs.Outcome.{refused}
use Rattle.refusal.specs.OutcomeLaws.{each_answer}
use Rattle.geometry.specs.Table.{rows_within}
use Rattle.limits.specs.Limits.{total, row_limit}
use Rattle.channel.specs.Channel.{Types}
use Rattle.envelope.specs.Figures.{figures_known}
use Rattle.envelope.specs.FigureLaws.{known-within, known_coded}
use Rattle.agreement.specs.Agreement.{agrees}
use Rattle.envelope.specs.declared.Figures.{Figures}
use Rattle.envelope.specs.declared.Envelope.{Envelope}
use Rattle.record_print.specs.Printed.{record_text}
use Rattle.record_print.specs.Clauses.{Printing}
use Rattle.lent.specs.ContractLaws.{text_short, text_fits}
use Rattle.record_write.specs.Clauses.{record_written}
use Rattle.lent.specs.Clauses.{not_written, written, text_written, TextWritten}

pub within_printing : (types : Types) (f : Figures) (weights : List ℕ) → figures_known total types f ≡ true → length weights ≡ row_limit
    → Printing f weights
within_printing types f weights h count =
    let within = known-within total types f h in
    record {
      channels = within.channels;
      typed = (known_coded total types f h).typed;
      places = within.places;
      centre_small = λ k l. omega (arith, within.centre_limit k l);
      radius_small = omega (arith, within.radius_limit);
      floor_small = omega (arith, within.floor_limit);
      rows = omega arith;
    }

pub record Writing (D limit : ℕ) (types : Types) (rows : List ℤ) (m : ℕ) (e : Envelope) : Type 0 where
  pub figures_kept_lem : figures_known D types e.figures ≡ true
  pub rows_kept : rows_within limit rows m e.figures.n ≡ true
  pub agreeing : agrees D limit rows m e.figures.n e.figures.ball e.weights ≡ true

module _ (D limit : ℕ) (types : Types) (rows : List ℤ) (m : ℕ) (e : Envelope) where
  module _ (places : ℕ) where
    pub outside_figures : figures_known D types e.figures ≡ false → record_written D limit types rows m e places ≡ not_written (refused outside_limits)
    unfolding record_written
    outside_figures h = rw (h, record_written)

    module _ (figures : figures_known D types e.figures ≡ true) where
      pub outside_rows : rows_within limit rows m e.figures.n ≡ false
          → record_written D limit types rows m e places ≡ not_written (refused outside_limits)
      unfolding record_written
      outside_rows h = rw (figures, h, record_written)

      module _ (within : rows_within limit rows m e.figures.n ≡ true) where
        pub refused-writing : agrees D limit rows m e.figures.n e.figures.ball e.weights ≡ false
            → record_written D limit types rows m e places ≡ not_written (refused disagreement)
        unfolding record_written
        refused-writing h = rw (figures, within, h, record_written)

    module _ (w : Writing D limit types rows m e) where
      pub writing_agreed : record_written D limit types rows m e places ≡ text_written (record_text types e) places
      unfolding record_written
      writing_agreed = rw (w.figures_kept_lem, w.rows_kept, w.agreeing, record_written)

      pub short_writing : places < length (record_text types e) → record_written D limit types rows m e places ≡ not_written (refused buffer_short)
      short_writing h = writing_agreed ∙ text_short (record_text types e) places h

      pub writing-written : length (record_text types e) ≤ places
          → record_written D limit types rows m e places ≡ written (length (record_text types e))
      writing-written h = writing_agreed ∙ text_fits (record_text types e) places h

    -- what holds of each answer holds of the call
    module _ (P : TextWritten → Type 0) (outside : P (not_written (refused outside_limits)))
        (disagreed : figures_known D types e.figures ≡ true → rows_within limit rows m e.figures.n ≡ true
        → agrees D limit rows m e.figures.n e.figures.ball e.weights ≡ false → P (not_written (refused disagreement)))
        (short : Writing D limit types rows m e → places < length (record_text types e) → P (not_written (refused buffer_short)))
        (whole : Writing D limit types rows m e → length (record_text types e) ≤ places → P (written (length (record_text types e)))) where
      pub each_written : P (record_written D limit types rows m e places)
      unfolding record_written
      each_written =
          let figures = figures_known D types e.figures in
          let rows_kept = rows_within limit rows m e.figures.n in
          let long = length (record_text types e) in
          each_answer P (figures && rows_kept) (λ _. outside) (λ kept.
          let f = (both figures rows_kept kept).0 in
          let r = (both figures rows_kept kept).1 in
          each_answer P (agrees D limit rows m e.figures.n e.figures.ball e.weights) (disagreed f r) (λ a.
          let w : Writing D limit types rows m e = record { figures_kept_lem = f; rows_kept = r; agreeing = a } in
          each_answer P (leb long places) (λ h. short w (leb-false long places h)) (λ h. whole w (leb-true long places h))))
