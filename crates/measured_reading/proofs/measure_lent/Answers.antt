-- s of the text or its refusal are those of what the text is. A refusal stays, and the values are as they were lent; of a reading the values stand in the
-- first n places of the array, from where they go to the lent ones if these are n or more.
use Prim.Native.Nat.{ℕ}
use mathlib.Core.Path.{◌≡◌, refl, sym, ap, ◌∙◌}
use mathlib.Core.List.{List}
use native.Mathlib.Omega.{arith}
use lib.ListN.{length}
use Rattle.std.specs.Prelude.{Err}
use Rattle.refusal.specs.declared.Refusal.{Refusal}
use Rattle.limits.specs.Limits.{total}
use Rattle.lent.specs.ContractLaws.{unwritten, rewritten}
use Rattle.channel.specs.Channel.{channel_types}
use Rattle.value.specs.Value.{Written}
use Rattle.envelope.specs.Clauses.{lent_figures}
use Rattle.envelope.specs.declared.Figures.{Figures}
use Rattle.reading.specs.Content.{reading_content, sound, distance_of}
use Rattle.reading.specs.ContentLaws.{faulty_number}
use Rattle.reading.specs.Clauses.{distance_as, distance_is, distance-refused, Is}
use Rattle.reading.specs.Verdict.{verdict_number}
use Rattle.reading.specs.VerdictLaws.{accepted_number}
use Rattle.measured_reading.proofs.MeasureSteps.{few_places, answered_short, answered, answered_refused, values_filled}
use Rattle.measured_reading.proofs.measure_lent.Goals as goal
use Rattle.measured_reading.specs.Measured.{MeasuredOutcome, measured_outcome}

-- the reading that the text is, and its s
reading : (f : Figures) (text : List ℕ) {s : ℕ} → Is s ≡ distance_as total f (reading_content total channel_types f text)
    → (values : List Written) × (reading_content total channel_types f text ≡ sound values) × (s ≡ distance_of total f values)
reading f text told = distance_is total f (reading_content total channel_types f text) (sym told)

pub returns-in-Err : goal.returns-in-Err
returns-in-Err c =
    let f = lent_figures c.args.scalars c.args.codes.now c.args.scaled_centre.now in
    let text = c.args.text.now in
    let lent = c.args.values.now in
    let is = distance-refused total f (reading_content total channel_types f text) (sym c.in-Err.ensures.is) in
    record {
      answer = sym (answered_refused total channel_types f text (length lent) is);
      values_filled = unwritten refl c.args.scalars.n _ lent (faulty_number total channel_types f text is);
    }

pub returns-then-values-n : goal.returns-then-values-n
returns-then-values-n c =
    let f = lent_figures c.args.scalars c.args.codes.now c.args.scaled_centre.now in
    let text = c.args.text.now in
    let lent = c.args.values.now in
    let answer = ap (λ (r : Refusal). measured_outcome (Err r)) c.into.ensures in
    let is = reading f text c.in-Ok.ensures.is in
    record {
      answer = answer ∙ sym (answered_short total channel_types f text (length lent) is.1 (omega arith));
      values_filled = unwritten (ap (λ (r : MeasuredOutcome). verdict_number r.verdict) answer) c.args.scalars.n _ lent (λ h. omega arith);
    }

pub fill-requires : goal.fill-requires
fill-requires c =
    let f = lent_figures c.args.scalars c.args.codes.now c.args.scaled_centre.now in
    let text = c.args.text.now in
    let is = reading f text c.in-Ok.ensures.is in
    let most = few_places total channel_types f text 0 is.1 in
    (omega arith, omega (arith, most, c.in-Ok.ensures.same_length))

pub returns-else-values-n : goal.returns-else-values-n
returns-else-values-n c =
    let f = lent_figures c.args.scalars c.args.codes.now c.args.scaled_centre.now in
    let text = c.args.text.now in
    let lent = c.args.values.now in
    let is = reading f text c.in-Ok.ensures.is in
    record {
      answer = answered total channel_types f text (length lent) is.1 (omega arith) c.verdict_of.ensures is.2;
      values_filled =
          rewritten (ap verdict_number c.verdict_of.ensures ∙ accepted_number c.in-Ok.distance c.args.scalars.scaled_squared_radius)
          c.args.scalars.n _ lent refl
          (values_filled total channel_types f text 0 is.1 lent c.in-Ok.ensures c.fill.ensures);
    }
