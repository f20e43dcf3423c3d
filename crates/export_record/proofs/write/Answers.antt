-- What is given is an envelope or refused by 8, as the definition chooses. An envelope is written by the call below, whose answer is
-- given in numbers; where the number is not 0 the buffer is as it was.
use mathlib.Core.Path.{◌≡◌, refl, sym, ap, ap₂, ◌∙◌}
use Prim.Native.Nat.{ℕ}
use lib.ListN.{length}
use Rattle.std.specs.Prelude.{Result, Ok, Err}
use Rattle.refusal.specs.Number.{outside_limits}
use Rattle.refusal.specs.Outcome.{refused, number_of, outcome_of, refusal_outcome, Outcome}
use Rattle.refusal.specs.declared.Refusal.{Refusal}
use Rattle.limits.specs.Limits.{total, row_limit}
use Rattle.lent.specs.Filled.{filled, filled-refused}
use Rattle.channel.specs.Channel.{channel_types}
use Rattle.envelope.specs.declared.Envelope.{Envelope}
use Rattle.record_print.specs.Printed.{record_text}
use Rattle.record_write.specs.Clauses.{record_written}
use Rattle.lent.specs.Clauses.{not_written, text_outcome}
use Rattle.export_answers.specs.Clauses.{written_in_numbers}
use Rattle.export_answers.specs.declared.WrittenAnswer.{WrittenAnswer}
use Rattle.integers.specs.Tests.{nonzero}
use Rattle.export_record.specs.ContractLaws.{whole_places, write_chosen}
use Rattle.export_record.proofs.write.Goals as goal

same_outcome : (w : Result ℕ Refusal) → outcome_of w ≡ (text_outcome w).outcome
same_outcome (Ok length) = refl
same_outcome (Err r) = refl

pub returns-then-not-envelope_whole : goal.returns-then-not-envelope_whole
returns-then-not-envelope_whole c =
    let args = c.args in
    let r = c.into.result in
    let is : r ≡ written_in_numbers (not_written (refused outside_limits)) =
    c.into.ensures ∙ ap (λ (x : Refusal). written_in_numbers (not_written (refusal_outcome x))) c.new.ensures in record {
      answer = is ∙ sym
          (write_chosen row_limit args.figures args.codes.now args.scaled_centre.now args.weights.now args.m total channel_types
          args.rows.now (length args.buffer.now) (sym c.envelope_whole.ensures ∙ c.if-not-envelope_whole.true));
      buffer_filled = filled-refused r.number r.length _ args.buffer.now (λ z. nonzero (sym (ap (λ (a : WrittenAnswer). a.number) is) ∙ z));
    }

pub envelope_given-envelope-requires : goal.envelope_given-envelope-requires
envelope_given-envelope-requires c =
    let args = c.args in
    whole_places row_limit args.figures args.codes.now args.scaled_centre.now args.weights.now args.m
    (sym c.envelope_whole.ensures ∙ c.if-not-envelope_whole.false)

pub returns : goal.returns
returns c =
    let args = c.args in
    let envelope_is = c.envelope_given-envelope.ensures in
    let written = c.write-written.result in
    let text = record_text channel_types c.envelope_given-envelope.result in
    let is = c.into-2.ensures in record {
      answer = is
          ∙ ap written_in_numbers
          (c.write-written.ensures.answer
          ∙ ap (λ (e : Envelope). record_written total row_limit channel_types args.rows.now args.m e (length args.buffer.now)) envelope_is)
          ∙ sym
          (write_chosen row_limit args.figures args.codes.now args.scaled_centre.now args.weights.now args.m total channel_types
          args.rows.now (length args.buffer.now) (sym c.envelope_whole.ensures ∙ c.if-not-envelope_whole.false));
      buffer_filled = c.write-written.ensures.buffer_filled
          ∙ ap (λ (o : Outcome). filled (number_of o) (text_outcome written).length text args.buffer.now) (same_outcome written)
          ∙ ap₂ (λ (a : WrittenAnswer) (e : Envelope). filled a.number a.length (record_text channel_types e) args.buffer.now) (sym is) envelope_is;
    }
