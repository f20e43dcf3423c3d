-- The tests are those of the definition, in its order. Figures within their limits can be printed, into an array with room for every
-- record; the record's text stands in its first places, and these are handed out.
use mathlib.Core.Path.{◌≡◌, sym, ap, ◌∙◌}
use mathlib.Core.List.{List}
use Prim.Native.Nat.{ℕ}
use native.Mathlib.Omega.{arith}
use borrow.Author.Rules.{rules}
use lib.ListN.{length}
use lib.Seq.{length-take-le}
use Rattle.lent.specs.Filled.{filled, filled-refused}
use Rattle.refusal.specs.Outcome.{number_of, outcome_of, refusal_outcome}
use Rattle.refusal.specs.OutcomeLaws.{kind_nonzero}
use Rattle.refusal.specs.declared.Refusal.{Refusal}
use Rattle.limits.specs.Limits.{total, row_limit}
use Rattle.channel.specs.Channel.{channel_types}
use Rattle.record_print.specs.Printed.{record_text}
use Rattle.lent.specs.Clauses.{not_written, text_outcome, text_written}
use Rattle.record_write.specs.WriteLaws.{within_printing, outside_figures, outside_rows, refused-writing, writing_agreed}
use Rattle.record_write.proofs.WriteSteps.{printed-text, printed_fits}
use Rattle.record_write.proofs.write.Goals as goal
use Rattle.record_write.proofs.write.Goals.{
  then-not-figures_known-via-then-not-figures_known,
  then-not-figures_known-via-else-not-figures_known+then-not-rows_within,
}

pub returns-then-not-figures_known : goal.returns-then-not-figures_known
returns-then-not-figures_known c =
    let args = c.args in
    record {
      answer =
          ap (λ (r : Refusal). not_written (refusal_outcome r)) c.into.ensures
          ∙ elim c.then-not-figures_known.branch [
            | then-not-figures_known-via-then-not-figures_known w ↦
                sym (outside_figures total row_limit channel_types args.rows.now args.m args.envelope (length args.buffer.now)
                (sym c.figures_known.ensures ∙ w.if-not-figures_known.true))
            | then-not-figures_known-via-else-not-figures_known+then-not-rows_within w ↦
                sym (outside_rows total row_limit channel_types args.rows.now args.m args.envelope (length args.buffer.now)
                (sym c.figures_known.ensures ∙ w.if-not-figures_known.false) (sym w.rows_within.ensures ∙ w.if-not-rows_within.true))
          ];
      buffer_filled = filled-refused _ 0 (record_text channel_types args.envelope) args.buffer.now (kind_nonzero c.into.result.kind);
    }

pub agrees-requires : goal.agrees-requires
agrees-requires c = sym c.rows_within.ensures ∙ c.if-not-rows_within.false

pub returns-then-not-agrees : goal.returns-then-not-agrees
returns-then-not-agrees c =
    let args = c.args in
    record {
      answer =
          ap (λ (r : Refusal). not_written (refusal_outcome r)) c.into-then-not-agrees.ensures
          ∙ sym (refused-writing total row_limit channel_types args.rows.now args.m args.envelope (length args.buffer.now)
          (sym c.figures_known.ensures ∙ c.if-not-figures_known.false) (sym c.rows_within.ensures ∙ c.if-not-rows_within.false)
          (sym c.agrees.ensures ∙ c.if-not-agrees.true));
      buffer_filled = filled-refused _ 0 (record_text channel_types args.envelope) args.buffer.now (kind_nonzero c.into-then-not-agrees.result.kind);
    }

-- there is a weight for each row
pub print_record-length-requires : goal.print_record-length-requires
print_record-length-requires c =
    let e = c.args.envelope in
    let count : length e.weights ≡ row_limit = search rules in
    (within_printing channel_types e.figures e.weights (sym c.figures_known.ensures ∙ c.if-not-figures_known.false) count, omega (arith, count))

pub slice_bounds-text-end : goal.slice_bounds-text-end
slice_bounds-text-end c = printed_fits channel_types c.args.envelope _ _ _ c.print_record-length.ensures

pub slice_bounds-hand_out-end : goal.slice_bounds-hand_out-end
slice_bounds-hand_out-end c = sym (length-take-le _ _ (printed_fits channel_types c.args.envelope _ _ _ c.print_record-length.ensures))

pub returns : goal.returns
returns c =
    let args = c.args in
    let text = printed-text channel_types args.envelope _ _ _ c.print_record-length.ensures in
    let handed = c.hand_out.ensures in
    let answer = c.hand_out.result in
    let places = length args.buffer.now in
    record {
      answer =
          handed.answer ∙ ap (λ (l : List ℕ). text_written l places) text
          ∙ sym (writing_agreed total row_limit channel_types args.rows.now args.m args.envelope places
          (record {
            figures_kept_lem = sym c.figures_known.ensures ∙ c.if-not-figures_known.false;
            rows_kept = sym c.rows_within.ensures ∙ c.if-not-rows_within.false;
            agreeing = sym c.agrees.ensures ∙ c.if-not-agrees.false;
          }));
      buffer_filled =
          handed.buffer_filled
          ∙ ap (λ (l : List ℕ). filled (number_of (outcome_of answer)) (text_outcome answer).length l args.buffer.now) text;
    }
