use mathlib.Core.Path.{◌≡◌, sym, ap, ◌∙◌}
use mathlib.Core.Bool.{Bool, true, false, cond}
use mathlib.Core.List.{List}
use Prim.Native.Nat.{ℕ, ◌+◌, ◌<◌}
use native.Mathlib.Omega.{arith}
use lib.ListN.{get_or, drop, get_or-map}
use lib.Pointwise.{pointwise}
use lib.Dec.{eqb}
use Rattle.text.specs.Parts.{same}
use Rattle.text.specs.PartsLaws.{same_pointwise}
use Rattle.std.specs.Prelude.{Some}
use Rattle.number.specs.Clauses.{above_zero}
use Rattle.number.specs.ContractLaws.{above_zero_some}
use Rattle.channel.specs.Channel.{ChannelType, house_types, house_count, code_in, no_type}
use Rattle.channel.specs.ChannelLaws.{types_of_code}
use Rattle.channel.proofs.Laws.{code_step, some_place}
use Rattle.channel.proofs.find_tag.Goals as goal

-- what the code of the field is, by what the test gives
decided : (field tag : List ℕ) (at : ℕ) (b : Bool) {is : Bool} → at < house_count → code_in house_types field ≡ code_in (drop at house_types) field
    → tag ≡ (get_or house_types at no_type).tag → is ≡ pointwise eqb tag field → is ≡ b
    → code_in house_types field ≡ cond b (get_or house_types at no_type).code (code_in (drop (at + 1) house_types) field)
unfolding house_types
decided field tag at b l so_far here test e =
    so_far ∙ code_step house_types field at l
    ∙ ap (λ t. cond t (get_or house_types at no_type).code (code_in (drop (at + 1) house_types) field))
    (ap (λ t. same t field) (sym here) ∙ sym (same_pointwise tag field) ∙ sym test ∙ e)

pub returns-then-eq : goal.returns-then-eq
unfolding house_types
returns-then-eq c =
    let at = c.loop-at.at in
    let code = (get_or house_types at no_type).code in
    ap Some (get_or-map (λ (t : ChannelType). t.code) house_types at no_type)
    ∙ sym (above_zero_some code (some_place at (omega arith)))
    ∙ ap above_zero
    (sym (decided _ c.tag_at.result.now at true (omega arith) c.loop-at.invariant c.tag_at.ensures c.eq.ensures c.if-eq.true)
    ∙ sym (types_of_code house_types _))

pub loop-at-preserved : goal.loop-at-preserved
loop-at-preserved c =
    decided _ c.tag_at.result.now c.loop-at.at false (omega arith) c.loop-at.invariant c.tag_at.ensures c.eq.ensures c.if-eq.false

pub returns : goal.returns
unfolding house_types code_in
returns c =
    let e : c.loop-at.at ≡ house_count = omega arith in
    sym (ap above_zero (types_of_code house_types c.args.field.now ∙ c.loop-at.invariant
    ∙ ap (λ k. code_in (drop k house_types) c.args.field.now) e))
