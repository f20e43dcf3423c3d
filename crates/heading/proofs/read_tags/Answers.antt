use mathlib.Core.Path.{◌∙◌}
use Rattle.text.specs.Parts.{comma, parts_from}
use Rattle.text.specs.PartsLaws.{parts_none, parts_some, parts_from_lem}
use Rattle.channel.specs.Channel.{channel_types}
use Rattle.heading.proofs.HeadingSteps.{tags_none, tags_next, tags_unknown, tags_few, tags_many, tags_done}
use Rattle.lists.specs.Padded.{padded}
use Rattle.heading.proofs.read_tags.Goals as goal

pub loop-i-init : goal.loop-i-init
unfolding padded
loop-i-init c = tags_none channel_types c.args.n (parts_from comma c.args.line.now c.args.at)

pub returns-then-line-from : goal.returns-then-line-from
returns-then-line-from c = tags_few c.loop-i.invariant c.loop-i-test.true (parts_none comma _ _ c.if-line-from.true)

pub returns-in_err-code : goal.returns-in_err-code
returns-in_err-code c =
    c.from_residual.ensures
    ∙ tags_unknown c.loop-i.invariant (parts_from_lem comma _ _ _ c.if-line-from.false c.field_end-end.ensures) c.in_err-code.ensures

pub loop-i-preserved : goal.loop-i-preserved
loop-i-preserved c =
    tags_next c.loop-i.invariant c.requires c.loop-i-test.true
    (parts_from_lem comma _ _ _ c.if-line-from.false c.field_end-end.ensures) c.in_ok-code.ensures

pub returns-then-from-line : goal.returns-then-from-line
returns-then-from-line c = tags_many c.loop-i.invariant c.loop-i-test.false (parts_some comma _ _ c.if-from-line.true).2

pub returns : goal.returns
returns c = tags_done c.loop-i.invariant c.loop-i-test.false (parts_none comma _ _ c.if-from-line.false)
