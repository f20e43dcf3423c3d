use mathlib.Core.Path.{◌≡◌, sym, ap₂, ◌∙◌}
use native.Mathlib.Omega.{arith}
use borrow.Author.Rules.{rules}
use lib.IntN.{pos}
use lib.ListN.{get_or}
use mir.Syntax.{w32}
use mir.Val.{to_z, of_z}
use Rattle.value.specs.Value.{in_range}
use Rattle.reference_write.proofs.RangeSteps.{ranges_fail, ranges_done}
use Rattle.reference_write.proofs.row_in_range.Goals as goal

pub returns-then-not-in_range : goal.returns-then-not-in_range
returns-then-not-in_range c =
    let number = get_or c.args.numbers.now c.loop-i.i (pos 0) in
    let read : to_z w32 (of_z w32 number) ≡ number = search rules in
    ranges_fail c.loop-i.invariant (omega arith) (omega arith) (omega arith)
    (sym (c.in_range.ensures ∙ ap₂ in_range c.range_of.ensures read) ∙ c.if-not-in_range.true)

pub returns : goal.returns
returns c = ranges_done c.loop-i.invariant (omega arith) (omega arith) (omega arith)
