-- `channel::tag_of` meets its contract: the type of a code stands at the place before its number, and past the table there is none.
use mathlib.Core.Path.{sym, ap, ◌∙◌}
use native.Mathlib.Omega.{arith}
use Rattle.channel.specs.Channel.{ChannelType, type_of}
use Rattle.channel.specs.Clauses.{tag_places}
use Rattle.channel.proofs.Laws.{type_place, type_past}
use Rattle.channel.proofs.tag_of.Goals as goal

pub returns-in-1-to-8 : goal.returns-in-1-to-8
unfolding type_of
returns-in-1-to-8 c =
    let is = c.tag_at.ensures ∙ sym (ap (λ (t : ChannelType). t.tag) (type_place c.args.code (omega arith))) in
    record { tag = is; places = ap tag_places is }

pub returns-in_default : goal.returns-in_default
unfolding type_of
returns-in_default c =
    let is = sym (ap (λ (t : ChannelType). t.tag) (type_past c.args.code (omega arith))) in
    record { tag = is; places = ap tag_places is }
