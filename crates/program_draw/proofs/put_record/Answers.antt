-- The table has room for every reference text. The rows of an accepted one are drawn, and the record of the drawing is always written.
use Prim.Native.Nat.{ℕ}
use mathlib.Core.Path.{◌≡◌, refl, sym, ap}
use native.Mathlib.Omega.{arith}
use lib.Seq.{length-take-le}
use Rattle.std.proofs.lemmas.Result.{err_from_is_err_and}
use Rattle.refusal.specs.Outcome.{refusal_numbers}
use Rattle.limits.specs.Limits.{total, row_limit}
use Rattle.channel.specs.Channel.{channel_types}
use Rattle.envelope.specs.Figures.{envelope_of}
use Rattle.envelope.specs.declared.Figures.{Figures}
use Rattle.program_draw.specs.OutputLaws.{draw_faulty}
use Rattle.program_record.proofs.ReadSteps.{table-read, rows-read, refused-read}
use Rattle.program_draw.proofs.DrawSteps.{drawn-accepted, record_put}
use Rattle.program_draw.proofs.put_record.Goals as goal

pub returns-in_err-read : goal.returns-in_err-read
returns-in_err-read c =
    let t = table-read _ c.in_err-read.ensures.answer c.in_err-read.ensures.table_filled (omega arith) in
    let p = err_from_is_err_and c.from_residual.result c.from_residual.ensures.1 in
    rw (p.1, p.2) (refl, draw_faulty total row_limit channel_types c.args.reference.now _ _ (refused-read t (refusal_numbers c.in_err-read.field-0.0) refl))

pub overflow_mul-places : goal.overflow_mul-places
overflow_mul-places c =
    let t = table-read _ c.in_ok-read.ensures.answer c.in_ok-read.ensures.table_filled (omega arith) in
    omega (arith, t.places)

pub slice_bounds-table-end : goal.slice_bounds-table-end
slice_bounds-table-end c =
    let t = table-read _ c.in_ok-read.ensures.answer c.in_ok-read.ensures.table_filled (omega arith) in
    t.within

pub slice_bounds-rows-end : goal.slice_bounds-rows-end
slice_bounds-rows-end c =
    let t = table-read _ c.in_ok-read.ensures.answer c.in_ok-read.ensures.table_filled (omega arith) in
    sym (length-take-le _ _ t.within)

pub returns-in_err-drawing : goal.returns-in_err-drawing
returns-in_err-drawing c =
    let t = table-read _ c.in_ok-read.ensures.answer c.in_ok-read.ensures.table_filled (omega arith) in
    let z : ◌≡◌ {A = ℕ} 0 1 = cc (drawn-accepted (rows-read t refl) c.in_err-drawing.ensures) in
    absurd (omega arith)

pub returns : goal.returns
returns c =
    let t = table-read _ c.in_ok-read.ensures.answer c.in_ok-read.ensures.table_filled (omega arith) in
    record_put (rows-read t refl) c.in_ok-drawing.ensures c.args.out.now (omega arith)
    (ap (λ (f : Figures). envelope_of f c.in_ok-drawing.drawing.weights) c.new-figures.ensures)
    c.write.result c.write.ensures.answer c.write.ensures.buffer_filled
