use Rattle.std.proofs.Common.{◌≡◌, subst, arith, rules}
use lib.ListN.{get_or}
use Rattle.label.specs.LabelLaws.{digit_most, digit_fits}
use Rattle.label.specs.ContractLaws.{Labelling, label-start, label_next, label_ended, label_long, label-stop}
use Rattle.label.proofs.label_field.Goals as goal

pub loop-i-init : goal.loop-i-init
loop-i-init c = label-start c.args.line.now

pub overflow_mul-key : goal.overflow_mul-key
overflow_mul-key c = omega (arith, c.label_room-room.ensures, digit_fits c.loop-i.key c.loop-i.i c.loop-i.invariant.below (omega (arith, c.label_room-room.ensures)))

pub overflow_add-key : goal.overflow_add-key
overflow_add-key c =
    let byte = get_or c.args.line.now c.loop-i.i 0 in
    omega (arith, c.label_digit-digit.ensures, digit_most byte, digit_fits c.loop-i.key c.loop-i.i c.loop-i.invariant.below (omega (arith, c.label_room-room.ensures)))

pub loop-i-preserved : goal.loop-i-preserved
loop-i-preserved c =
    label_next _ c.loop-i.i c.loop-i.key c.loop-i.invariant _ (omega (arith, c.label_room-room.ensures)) c.label_digit-digit.ensures (search rules)

pub returns-then-digit-eq0 : goal.returns-then-digit-eq0
returns-then-digit-eq0 c =
    let end = c.label_ending.ensures.ends in
    label_ended _ _ _ c.loop-i.invariant _ end _ (omega (arith, c.label_room-room.ensures))
    (label-stop _ _ _ c.loop-i.invariant _ end _ (omega (arith, c.label_room-room.ensures)) c.label_digit-digit.ensures (search rules))
    c.label_ending.ensures.is

pub returns : goal.returns
returns c =
    let room = c.label_room-room.result in
    let passed : c.loop-i.i ≡ room = omega arith in
    let s = subst (λ i. Labelling c.args.line.now i c.loop-i.key) passed c.loop-i.invariant in
    let end = c.label_ending-2.ensures.ends in
    label_ended _ room _ s _ end _ (omega (arith, c.label_room-room.ensures))
    (λ h. label_long _ room _ s _ end (omega (arith, c.label_room-room.ensures, end.low, end.high, h)) h) c.label_ending-2.ensures.is
