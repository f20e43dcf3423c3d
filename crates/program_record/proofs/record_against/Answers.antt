-- The table has room for every reference text, so that 7 is not met and the first m·n places of an accepted one are its rows.
use mathlib.Core.Path.{refl, sym, ◌∙◌}
use native.Mathlib.Omega.{arith}
use lib.Seq.{length-take-le}
use Rattle.std.proofs.lemmas.Result.{err_from_is_err_and}
use Rattle.refusal.specs.Outcome.{refusal_numbers}
use Rattle.limits.specs.Limits.{total, row_limit}
use Rattle.channel.specs.Channel.{channel_types}
use Rattle.program_record.specs.AgainstLaws.{against_faulty}
use Rattle.program_record.proofs.ReadSteps.{table-read, rows-read, refused-read, record_read_lem}
use Rattle.program_record.proofs.record_against.Goals as goal

pub returns-in_err-read : goal.returns-in_err-read
returns-in_err-read c =
    let t = table-read _ c.in_err-read.ensures.answer c.in_err-read.ensures.table_filled (omega arith) in
    let p = err_from_is_err_and c.from_residual.result c.from_residual.ensures.1 in
    rw (p.1, p.2)
    (sym (against_faulty total row_limit channel_types c.args.reference.now _ _
    (refused-read t (refusal_numbers c.in_err-read.field-0.0) refl) c.args.record_text.now))

pub overflow_mul-places : goal.overflow_mul-places
overflow_mul-places c =
    let t = table-read _ c.in_ok-read.ensures.answer c.in_ok-read.ensures.table_filled (omega arith) in
    omega (arith, t.places)

pub slice_bounds-table-end : goal.slice_bounds-table-end
slice_bounds-table-end c =
    let t = table-read _ c.in_ok-read.ensures.answer c.in_ok-read.ensures.table_filled (omega arith) in
    t.within

pub slice_bounds-read-end-2 : goal.slice_bounds-read-end-2
slice_bounds-read-end-2 c =
    let t = table-read _ c.in_ok-read.ensures.answer c.in_ok-read.ensures.table_filled (omega arith) in
    sym (length-take-le _ _ t.within)

pub slice_bounds-codes-end : goal.slice_bounds-codes-end
slice_bounds-codes-end c =
    let t = table-read _ c.in_ok-read.ensures.answer c.in_ok-read.ensures.table_filled (omega arith) in
    t.typed

pub slice_bounds-read-end-3 : goal.slice_bounds-read-end-3
slice_bounds-read-end-3 c =
    let t = table-read _ c.in_ok-read.ensures.answer c.in_ok-read.ensures.table_filled (omega arith) in
    sym (length-take-le _ _ t.typed)

pub returns : goal.returns
returns c =
    let t = table-read _ c.in_ok-read.ensures.answer c.in_ok-read.ensures.table_filled (omega arith) in
    c.read-2.ensures ∙ record_read_lem (rows-read t refl) c.args.record_text.now
