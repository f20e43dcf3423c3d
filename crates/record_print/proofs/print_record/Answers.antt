-- Each line is printed where the one before it ended, and its most bytes leave room for the next. The four parts in order are the record.
use Prim.Native.Nat.{◌≤◌, ◌<◌}
use mathlib.Core.Path.{◌∙◌}
use native.Mathlib.Omega.{arith}
use Rattle.channel.specs.Channel.{channel_types}
use Rattle.channel.specs.ContractLaws.{house_short}
use Rattle.record_lines.specs.Lines.{print_centre, print_result}
use Rattle.record_print.specs.Printed.{record_of}
use Rattle.record_print.specs.Clauses.{centre_start, result_start, weights_start}
use Rattle.record_print.specs.PrintedLaws.{heading_most_lem, centre_most_lem, result_most_lem}
use Rattle.record_print.proofs.PrintSteps.{heading_put, line-end, record_put}
use Rattle.record_print.proofs.print_record.Goals as goal

pub bounds-out-heading_end : goal.bounds-out-heading_end
bounds-out-heading_end c = (heading_put c.args.figures c.args.weights.now c.requires.0 c.requires.1 c.put_heading-heading_end.ensures).within

pub put_centre-centre_end-requires : goal.put_centre-centre_end-requires
put_centre-centre_end-requires c =
    let first = heading_put c.args.figures c.args.weights.now c.requires.0 c.requires.1 c.put_heading-heading_end.ensures in
    let heading_end : c.put_heading-heading_end.result < centre_start =
    omega (arith, c.put_heading-heading_end.ensures.next, heading_most_lem c.args.figures c.args.weights.now c.requires.0 channel_types house_short) in
    (c.requires.0.places, (c.requires.0.centre_small, omega (arith, first.ended.same_length)))

pub put_result-result_end-requires : goal.put_result-result_end-requires
put_result-result_end-requires c =
    let figures = c.args.figures in
    let weights = c.args.weights.now in
    let first = heading_put figures weights c.requires.0 c.requires.1 c.put_heading-heading_end.ensures in
    let centre_end : c.put_centre-centre_end.result ≤ result_start =
    omega (
      arith,
      c.put_heading-heading_end.ensures.next,
      heading_most_lem figures weights c.requires.0 channel_types house_short,
      line-end (print_centre (record_of figures weights).scaled_centre) c.put_centre-centre_end.ensures,
      centre_most_lem figures weights c.requires.0,
    ) in
    (c.requires.0.radius_small, (c.requires.0.floor_small, omega (arith, c.put_centre-centre_end.ensures.same_length, first.ended.same_length)))

pub put_weights-requires : goal.put_weights-requires
put_weights-requires c =
    let figures = c.args.figures in
    let weights = c.args.weights.now in
    let first = heading_put figures weights c.requires.0 c.requires.1 c.put_heading-heading_end.ensures in
    let centre_end : c.put_centre-centre_end.result ≤ result_start =
    omega (
      arith,
      c.put_heading-heading_end.ensures.next,
      heading_most_lem figures weights c.requires.0 channel_types house_short,
      line-end (print_centre (record_of figures weights).scaled_centre) c.put_centre-centre_end.ensures,
      centre_most_lem figures weights c.requires.0,
    ) in
    let result_end : c.put_result-result_end.result ≤ weights_start =
    omega (
      arith,
      line-end (print_result (record_of figures weights).result) c.put_result-result_end.ensures,
      result_most_lem figures weights c.requires.0 (omega arith),
    ) in
    let same = c.put_result-result_end.ensures.same_length ∙ c.put_centre-centre_end.ensures.same_length ∙ first.ended.same_length in
    (c.requires.0.rows, omega (arith, result_end, same, c.requires.1))

pub returns : goal.returns
returns c =
    let figures = c.args.figures in
    let weights = c.args.weights.now in
    let first = heading_put figures weights c.requires.0 c.requires.1 c.put_heading-heading_end.ensures in
    record_put figures weights first c.put_centre-centre_end.ensures c.put_result-result_end.ensures c.put_weights.ensures
