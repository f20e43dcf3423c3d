-- The table has room for every reference text, and the places for its labels too. What an accepted text lends is always written.
use mathlib.Core.Path.{refl, sym}
use native.Mathlib.Omega.{arith}
use lib.Seq.{length-take-le}
use Rattle.std.proofs.lemmas.Result.{err_from_is_err_and}
use Rattle.refusal.specs.Outcome.{refusal_numbers}
use Rattle.limits.specs.Limits.{row_limit}
use Rattle.channel.specs.Channel.{channel_types}
use Rattle.channel.specs.ChannelLaws.{house_sound}
use Rattle.reference.proofs.ReadSteps.{parsed_within}
use Rattle.program_plain.specs.OutputLaws.{plain_faulty, plain-accepted}
use Rattle.program_record.proofs.ReadSteps.{rows-read, refused-read}
use Rattle.program_plain.proofs.PlainSteps.{parsed_table, parsed_start, plain_written}
use Rattle.program_plain.proofs.write_plain.Goals as goal

pub returns-in_err-m : goal.returns-in_err-m
returns-in_err-m c =
    let t = parsed_table c.in_err-m.ensures (omega arith) in
    let p = err_from_is_err_and c.from_residual.result c.from_residual.ensures.1 in
    rw (p.1, p.2)
    (refl, plain_faulty row_limit channel_types c.args.reference.now _ _ (refused-read t (refusal_numbers c.in_err-m.field-0.0) refl))

pub gather_labels-length-requires : goal.gather_labels-length-requires
gather_labels-length-requires c =
    let parsed = c.in_ok-m.ensures in
    let t = parsed_table parsed (omega arith) in
    let most = (parsed_within parsed).0 in
    (parsed_start parsed (rows-read t refl), (omega (arith, most), (omega (arith, most), omega arith)))

pub overflow_mul-table : goal.overflow_mul-table
overflow_mul-table c =
    let parsed = c.in_ok-m.ensures in
    let t = parsed_table parsed (omega arith) in
    omega (arith, t.places)

pub slice_bounds-table-end : goal.slice_bounds-table-end
slice_bounds-table-end c =
    let parsed = c.in_ok-m.ensures in
    let t = parsed_table parsed (omega arith) in
    t.within

pub slice_bounds-rows-end : goal.slice_bounds-rows-end
slice_bounds-rows-end c =
    let parsed = c.in_ok-m.ensures in
    let t = parsed_table parsed (omega arith) in
    sym (length-take-le _ _ t.within)

pub slice_bounds-codes-end : goal.slice_bounds-codes-end
slice_bounds-codes-end c =
    let parsed = c.in_ok-m.ensures in
    let t = parsed_table parsed (omega arith) in
    t.typed

pub slice_bounds-write-end : goal.slice_bounds-write-end
slice_bounds-write-end c =
    let parsed = c.in_ok-m.ensures in
    let t = parsed_table parsed (omega arith) in
    sym (length-take-le _ _ t.typed)

pub slice_bounds-write-end-2 : goal.slice_bounds-write-end-2
slice_bounds-write-end-2 c = sym (length-take-le _ _ c.gather_labels-length.ensures.within)

pub slice_bounds-ends-end : goal.slice_bounds-ends-end
slice_bounds-ends-end c = omega (arith, (parsed_within c.in_ok-m.ensures).0)

pub slice_bounds-write-end-3 : goal.slice_bounds-write-end-3
slice_bounds-write-end-3 c = sym (length-take-le _ _ (omega (arith, (parsed_within c.in_ok-m.ensures).0)))

pub returns : goal.returns
returns c =
    let parsed = c.in_ok-m.ensures in
    let t = parsed_table parsed (omega arith) in
    let rows = rows-read t refl in
    let plain = plain-accepted row_limit channel_types _ rows.found rows.is house_sound in
    plain_written parsed rows c.gather_labels-length.ensures plain.0 plain.1 plain.2 c.args.out.now c.requires c.write.ensures.answer c.write.result
    refl c.write.ensures.buffer_filled
