-- The part of a label is within the text, and what is handed back is that part of it.
use Prim.Native.Nat.{◌+◌, ◌-◌, ◌≤◌}
use mathlib.Core.Path.{◌≡◌, refl, ap, ◌∙◌}
use native.Mathlib.Nat.{add_comm}
use native.Mathlib.Omega.{arith}
use lib.ListN.{length, take, drop}
use Rattle.limits.specs.Limits.{row_limit}
use Rattle.channel.specs.Channel.{channel_types}
use Rattle.reference_label.proofs.LabelSteps.{label_inside}
use Rattle.std.proofs.Common.{ℕ, List}
use Rattle.reference_label.specs.Clauses.{label_part}
use Rattle.reference_label.specs.declared.Part.{Part}
use Rattle.reference_label.proofs.label.Goals as goal

inside : (text : List ℕ) (row : ℕ) (p : Part) → p ≡ label_part row_limit channel_types text row → p.start + p.length ≤ length text
inside text row p is = rw is (label_inside row_limit channel_types text row)

pub overflow_add-result : goal.overflow_add-result
overflow_add-result c = omega (arith, inside _ _ _ c.in-Some.ensures.part)

pub slice_bounds-result-end : goal.slice_bounds-result-end
slice_bounds-result-end c = omega (arith, inside _ _ _ c.in-Some.ensures.part)

pub returns-in-Some : goal.returns-in-Some
returns-in-Some c =
    let part = c.in-Some.field-0 in
    let text = c.args.text.now in
    let long : part.start + part.length - part.start ≡ part.length = omega arith in
    let at = c.args.text.ref_ptr.1 in
    record {
      place = (refl, add_comm part.start at ∙ ap (λ p. at + p.start) c.in-Some.ensures.part);
      bytes =
          ap (λ k. take k (drop part.start text)) long
          ∙ ap (λ p. take p.length (drop p.start text)) c.in-Some.ensures.part;
    }

pub returns-in-None : goal.returns-in-None
returns-in-None c = record {
  place = (refl, omega (arith, ap (λ p. p.start) c.in-None.ensures.part));
  bytes = ap (λ p. take p.length (drop p.start c.args.text.now)) c.in-None.ensures.part;
}
