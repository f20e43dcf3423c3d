use mathlib.Core.Path.{refl, sym, ap, ◌∙◌}
use native.Mathlib.Omega.{arith}
use lib.Seq.{get_or-take, length-take-le}
use Rattle.channel.specs.Channel.{channel_types, known, codes_known}
use Rattle.channel.specs.CodesLaws.{codes_next, codes_fail}
use Rattle.channel.proofs.codes_known.Goals as goal

pub loop-code-init : goal.loop-code-init
unfolding codes_known
loop-code-init c = refl

pub returns-then-not-is_known : goal.returns-then-not-is_known
returns-then-not-is_known c =
    let s = c.args in
    let many = length-take-le s.n s.codes.now c.requires in
    let here = get_or-take s.n s.codes.now c.loop-code.code-index 0 (omega (arith, many)) in
    codes_fail channel_types s.codes.now s.n c.loop-code.code-index c.requires (omega (arith, many))
    (ap (known channel_types) (sym here) ∙ sym c.is_known.ensures ∙ c.if-not-is_known.true)

pub loop-code-preserved : goal.loop-code-preserved
loop-code-preserved c =
    let s = c.args in
    let many = length-take-le s.n s.codes.now c.requires in
    let here = get_or-take s.n s.codes.now c.loop-code.code-index 0 (omega (arith, many)) in
    codes_next channel_types s.codes.now c.loop-code.code-index (omega (arith, many)) c.loop-code.invariant
    (ap (known channel_types) (sym here) ∙ sym c.is_known.ensures ∙ c.if-not-is_known.false)
