-- The figures' own codes and X are lent; their number of places is the figures' own.
use lib.ListN.{length}
use Rattle.limits.specs.Limits.{total}
use Rattle.lent.specs.Filled.{filled}
use Rattle.channel.specs.Channel.{channel_types}
use Rattle.envelope.specs.FigureLaws.{own_lent}
use Rattle.envelope.specs.declared.Figures.{Figures}
use Rattle.reading.specs.Verdict.{verdict_number}
use Rattle.measured_reading.specs.Measured.{measured_outcome, measured, measure_answer}
use Rattle.measured_reading.proofs.measure.Goals as goal

pub returns : goal.returns
returns c =
    let args = c.args in
    let text = args.text.now in
    let values = args.values.now in
    let own = c.scalars.ensures in
    let number = verdict_number (measured_outcome c.measure_lent.result).verdict in record {
      answer = own_lent (λ (f : Figures). measure_answer (measured total channel_types f text) (length values)) args.figures own c.measure_lent.ensures.answer;
      values_filled = own_lent (λ (f : Figures). filled number f.n (measured total channel_types f text).values values) args.figures own
          c.measure_lent.ensures.values_filled;
    }
