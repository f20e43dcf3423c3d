-- The tests for 8 are those of the definition. What is within its limits is printed into an array with room for every text, and handed
-- out from there, or its refusal is answered.
use Prim.Native.Nat.{ℕ}
use mathlib.Core.Path.{◌≡◌, sym, ap, ap₂, subst, ◌∙◌}
use mathlib.Core.Bool.{Bool, true, false, ◌&&◌}
use mathlib.Core.List.{List}
use lib.Dec.{eqb}
use lib.ListN.{length}
use Rattle.limits.specs.Limits.{row_limit}
use Rattle.channel.specs.Channel.{channel_types}
use Rattle.reference_write.specs.Labels.{ends_reach}
use Rattle.reference_write.specs.Writing.{Lent, lent_table, lent_within, lent_text}
use Rattle.reference_write.specs.Clauses.{TextPut}
use Rattle.reference_write.specs.FaultLaws.{lent_within_lem}
use Rattle.reference_write.proofs.WriteSteps.{outside_written, refused-written, handed-written}
use Rattle.std.proofs.lemmas.Result.{err_from_is_err_and}
use Rattle.reference_write.proofs.write.Goals as goal
use Rattle.reference_write.proofs.write.Goals.{then-not-given_within-via-then-not-given_within, then-not-given_within-via-else-not-given_within+then-not-ends_within}
use Rattle.lent.specs.Clauses.{TextWritten}

-- the text as it is printed, there being as many ends as rows
printed : (l : Lent) {out : List ℕ} {r : TextWritten} → lent_within row_limit channel_types l ≡ true
    → TextPut (lent_text row_limit channel_types (lent_table l.rows (length l.ends) l.n l.codes l.labels l.ends)) out r
    → TextPut (lent_text row_limit channel_types l) out r
printed l {out} {r} within put =
    subst (λ (m : ℕ). TextPut (lent_text row_limit channel_types (lent_table l.rows m l.n l.codes l.labels l.ends)) out r)
    (lent_within_lem row_limit channel_types l within).1 put

pub returns-then-not-given_within : goal.returns-then-not-given_within
returns-then-not-given_within c =
    let args = c.args in
    let l = lent_table args.rows.now args.m args.n args.codes.now args.labels.now args.ends.now in
    let outside : lent_within row_limit channel_types l ≡ false =
    elim c.then-not-given_within.branch [
      | then-not-given_within-via-then-not-given_within w ↦
          ap (λ (t : Bool). t && (eqb (length args.ends.now) args.m && ends_reach 0 args.ends.now (length args.labels.now)))
          (sym c.given_within.ensures ∙ w.if-not-given_within.true)
      | then-not-given_within-via-else-not-given_within+then-not-ends_within w ↦
          ap₂ ◌&&◌ (sym c.given_within.ensures ∙ w.if-not-given_within.false) (sym w.ends_within.ensures ∙ w.if-not-ends_within.true)
    ] in
    let w = outside_written l args.buffer.now outside c.into.ensures in
    record { answer = w.0; buffer_filled = w.1 }

pub returns-in_err-length : goal.returns-in_err-length
returns-in_err-length c =
    let args = c.args in
    let l = lent_table args.rows.now args.m args.n args.codes.now args.labels.now args.ends.now in
    let within : lent_within row_limit channel_types l ≡ true =
    ap₂ ◌&&◌ (sym c.given_within.ensures ∙ c.if-not-given_within.false) (sym c.ends_within.ensures ∙ c.if-not-ends_within.false) in
    let p = err_from_is_err_and c.from_residual.result c.from_residual.ensures.1 in
    let w = refused-written l args.buffer.now c.in_err-length.field-0.0 (printed l within c.in_err-length.ensures) in
    rw (p.1, p.2) record { answer = w.0; buffer_filled = w.1 }

pub returns : goal.returns
returns c =
    let args = c.args in
    let l = lent_table args.rows.now args.m args.n args.codes.now args.labels.now args.ends.now in
    let within : lent_within row_limit channel_types l ≡ true =
    ap₂ ◌&&◌ (sym c.given_within.ensures ∙ c.if-not-given_within.false) (sym c.ends_within.ensures ∙ c.if-not-ends_within.false) in
    let w = handed-written l args.buffer.now (printed l within c.in_ok-length.ensures) c.hand_out.result c.hand_out.ensures.answer c.hand_out.ensures.buffer_filled in
    record { answer = w.0; buffer_filled = w.1 }
