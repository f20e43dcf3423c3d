-- What writing answers and leaves in the buffer.
--     Written lent buffer a after        the answer, and the buffer after it
--     outside_written                    where something is outside its limits
--     refused-written, handed-written    where a row meets a refusal, and where the text is handed out
use Prim.Native.Nat.{ℕ}
use mathlib.Core.Path.{◌≡◌, refl, sym, ap, ◌∙◌}
use mathlib.Core.Bool.{false}
use mathlib.Core.List.{List}
use lib.ListN.{length, take}
use Rattle.integers.specs.Tests.{impossible}
use Rattle.refusal.specs.Outcome.{number_of, outcome_of, refusal_outcome, kind_number, Accepted}
use Rattle.refusal.specs.OutcomeLaws.{kind_nonzero}
use Rattle.refusal.specs.declared.Kind.TheVariants.{OutsideLimits}
use Rattle.refusal.specs.declared.Refusal.{Refusal}
use Rattle.std.specs.Prelude.{Result, Err}
use Rattle.limits.specs.Limits.{row_limit}
use Rattle.lent.specs.Filled.{filled, filled-refused}
use Rattle.lent.specs.Clauses.{written, text_written, text_outcome, TextWritten}
use Rattle.channel.specs.Channel.{channel_types}
use Rattle.reference_rows.specs.Rows.{Content, faulty, sound}
use Rattle.reference_write.specs.Writing.{Lent, lent_within, lent_text}
use Rattle.reference_write.specs.Clauses.{written_text, content_written, reference_written, put_answer, TextPut}
use Rattle.reference_write.specs.FaultLaws.{outside}

abbrev Written : Lent → List ℕ → Result ℕ Refusal → List ℕ → Type 0
Written lent buffer a after =
    (text_outcome a ≡ reference_written row_limit channel_types lent (length buffer))
    × (after ≡ filled (number_of (outcome_of a)) (text_outcome a).length (written_text channel_types (lent_text row_limit channel_types lent)) buffer)

module _ (lent : Lent) (buffer : List ℕ) where
  abbrev content : Content
  content = lent_text row_limit channel_types lent

  -- a refusal leaves the buffer as it was
  unwritten : (r : Refusal) (text : List ℕ) → buffer ≡ filled (kind_number r.kind) 0 text buffer
  unwritten r text = filled-refused (kind_number r.kind) 0 text buffer (kind_nonzero r.kind)

  pub outside_written : lent_within row_limit channel_types lent ≡ false → {r : Refusal} → r ≡ record { kind = OutsideLimits; line = 0 } → Written lent buffer (Err r) buffer
  unfolding reference_written
  outside_written h {r} e = (
    ap (λ (r : Refusal). text_outcome (Err r)) e
        ∙ ap (λ (c : Content). content_written channel_types c (length buffer)) (sym (outside row_limit channel_types lent h)),
    unwritten r (written_text channel_types content),
  )

  module _ {out : List ℕ} where
    pub refused-written : (r : Refusal) → TextPut content out (text_outcome (Err r)) → Written lent buffer (Err r) buffer
    unfolding reference_written
    refused-written r put = go content refl put.is
      where
        go : (c : Content) → content ≡ c → text_outcome (Err r) ≡ put_answer channel_types c → Written lent buffer (Err r) buffer
        go (faulty number line) is e = (
          e ∙ ap (λ (c : Content). content_written channel_types c (length buffer)) (sym is),
          unwritten r (written_text channel_types content),
        )
        go (sound found) is e =
            let accepted : refusal_outcome r ≡ Accepted = ap (λ (x : TextWritten). x.outcome) e in
            impossible cc

    pub handed-written : {count : ℕ} → TextPut content out (written count) → (a : Result ℕ Refusal) {after : List ℕ}
        → text_outcome a ≡ text_written (take count out) (length buffer)
        → after ≡ filled (number_of (outcome_of a)) (text_outcome a).length (take count out) buffer → Written lent buffer a after
    unfolding reference_written
    handed-written {count} put a {after} answer filling = go content refl put.is put.text
      where
        go : (c : Content) → content ≡ c → written count ≡ put_answer channel_types c → take count out ≡ written_text channel_types c → Written lent buffer a after
        go (faulty number line) is e text =
            let refusal : (put_answer channel_types (faulty number line)).outcome ≡ Accepted = ap (λ (x : TextWritten). x.outcome) (sym e) in
            impossible cc
        go (sound found) is e text = (
          answer ∙ ap (λ (l : List ℕ). text_written l (length buffer)) text ∙ ap (λ (c : Content). content_written channel_types c (length buffer)) (sym is),
          filling ∙ ap (λ (l : List ℕ). filled (number_of (outcome_of a)) (text_outcome a).length l buffer) (text ∙ ap (written_text channel_types) (sym is)),
        )
