-- The answer in numbers is that of what is measured against the figures that are given, and so is what is left in the lent places.
use Rattle.std.specs.Prelude.{ℕ}
use Rattle.std.proofs.Common.{sym, ap, ◌∙◌}
use Rattle.limits.specs.Limits.{total}
use Rattle.lent.specs.Filled.{filled}
use Rattle.channel.specs.Channel.{channel_types}
use Rattle.export_reading.specs.Clauses.{measured_in_numbers, measured_given}
use Rattle.export_reading.specs.declared.MeasuredAnswer.{MeasuredAnswer}
use Rattle.export_reading.proofs.measure.Goals as goal

pub returns : goal.returns
returns c =
    let args = c.args in
    let given = measured_given total channel_types args.figures args.codes.now args.scaled_centre.now args.text.now in
    record {
      answer = c.into.ensures ∙ ap measured_in_numbers c.measure_given.ensures.answer;
      values_filled = c.measure_given.ensures.values_filled
          ∙ ap (λ (k : ℕ). filled k args.figures.n given.values args.values.now) (sym (ap (λ (a : MeasuredAnswer). a.number) c.into.ensures));
    }
