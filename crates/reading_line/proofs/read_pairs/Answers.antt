use Prim.Native.Nat.{◌<◌}
use mathlib.Core.Path.{refl, sym, ap, ◌∙◌}
use mathlib.Core.Bool.{true, false, ◌&&◌}
use native.Mathlib.Omega.{arith}
use borrow.Author.Rules.{rules}
use lib.IntN.{pos}
use lib.ListN.{length, take}
use lib.Seq.{length-take-le, get_or-take}
use mir.Syntax.{w32}
use mir.Val.{SFits}
use mir.Facts.{to_z-of_z}
use Rattle.text.specs.Parts.{comma, parts_from}
use Rattle.text.specs.PartsLaws.{parts_none, parts_some, last_part_lem}
use Rattle.channel.specs.Channel.{channel_types}
use Rattle.value.specs.ContractLaws.{range_found, value-at}
use Rattle.value.proofs.ValuesSteps.{read_under, read_malformed, read_told, values_outside, values_within}
use Rattle.reading_line.proofs.LineSteps.{two_fields, pairs_none, pairs_next, value-here, pairs_malformed, pairs_few, pairs_many, pairs_done}
use Rattle.reading_line.proofs.read_pairs.Goals as goal
use Rattle.reading_line.proofs.read_pairs.Goals.{in-Err-OutOfRange, in-Ok}

pub loop-i-init : goal.loop-i-init
loop-i-init c =
    let args = c.args in
    pairs_none channel_types (take args.n args.codes.now) (parts_from comma args.line.now args.at) args.places.now

pub returns-then-line-from : goal.returns-then-line-from
returns-then-line-from c = pairs_few c.loop-i.invariant (omega (arith, length-take-le c.args.n c.args.codes.now c.requires.0)) (parts_none comma _ _ c.if-line-from.true) (omega arith)

pub returns-then-line-tag : goal.returns-then-line-tag
returns-then-line-tag c =
    pairs_few c.loop-i.invariant (omega (arith, length-take-le c.args.n c.args.codes.now c.requires.0))
    (last_part_lem comma _ _ _ c.if-line-from.false c.read_tag-tag.ensures.ends (sym c.if-line-tag.true)) (omega arith)

pub read_written_at-field-requires : goal.read_written_at-field-requires
read_written_at-field-requires c = omega (arith, c.if-line-tag.false, c.read_tag-tag.ensures.ends.high)

pub returns-in-Err-Malformed : goal.returns-in-Err-Malformed
returns-in-Err-Malformed c =
    let is = rw c.in-Err-Malformed.field-0-is at c.in-Err-Malformed.ensures in
    let read = value-at _ (range_found _ _ c.range_of-range.ensures) c.read_written_at-field.ensures is in
    pairs_malformed c.loop-i.invariant
    (two_fields _ _ c.if-line-from.false c.read_tag-tag.ensures.ends c.if-line-tag.false read.ends)
    (read_malformed _ _ (read_under _ read.is c.range_of-range.ensures))

pub loop-i-preserved : goal.loop-i-preserved
loop-i-preserved c =
    let args = c.args in
    let range = range_found _ _ c.range_of-range.ensures in
    let read = value-at _ range c.read_written_at-field.ensures c.written_value.ensures in
    let tag = c.read_tag-tag.ensures in
    let within : c.loop-i.i < length (take args.n args.codes.now) = omega (arith, length-take-le c.args.n c.args.codes.now c.requires.0) in
    let fields = two_fields _ _ c.if-line-from.false tag.ends c.if-line-tag.false read.ends in
    let code = get_or-take args.n args.codes.now c.loop-i.i 0 c.loop-i-test.true in
    pairs_next c.loop-i.invariant within fields code (ap (λ b. b && c.loop-i.tags_agree) tag.is)
    (elim c.match-written_value.branch [
      | in-Err-OutOfRange w ↦
          let is = rw w.in-Err-OutOfRange.field-0-is at w.in-Err-OutOfRange.ensures in
          let here = value-at _ range c.read_written_at-field.ensures is in
          let t = read_told _ _ false (pos 0) (read_under _ here.is c.range_of-range.ensures) in
          values_outside c.loop-i.invariant.values within (value-here c.loop-i.invariant fields) code t.0 w.places-is w.out_of_range-is
      | in-Ok w ↦
          let here = value-at _ range c.read_written_at-field.ensures w.in-Ok.ensures in
          let t = read_told _ _ true w.in-Ok.whole (read_under _ here.is c.range_of-range.ensures) in
          let fits : SFits w32 w.in-Ok.whole = search rules in
          values_within c.loop-i.invariant.values within (value-here c.loop-i.invariant fields) code t.0 (to_z-of_z fits ∙ t.1 refl) (omega arith)
          w.places-is w.out_of_range-is
    ])

pub returns-then-from-line : goal.returns-then-from-line
returns-then-from-line c =
    let more = parts_some comma _ _ c.if-from-line.true in
    pairs_many c.loop-i.invariant (omega (arith, length-take-le c.args.n c.args.codes.now c.requires.0)) more.2

pub returns-then-not-tags_agree : goal.returns-then-not-tags_agree
returns-then-not-tags_agree c =
    pairs_done c.loop-i.invariant false _ c.if-not-tags_agree.true refl (omega (arith, length-take-le c.args.n c.args.codes.now c.requires.0))
    (parts_none comma _ _ c.if-from-line.false)

pub returns-then-out_of_range : goal.returns-then-out_of_range
returns-then-out_of_range c =
    pairs_done c.loop-i.invariant true true c.if-not-tags_agree.false c.if-out_of_range.true (omega (arith, length-take-le c.args.n c.args.codes.now c.requires.0))
    (parts_none comma _ _ c.if-from-line.false)

pub returns : goal.returns
returns c =
    pairs_done c.loop-i.invariant true false c.if-not-tags_agree.false c.if-out_of_range.false (omega (arith, length-take-le c.args.n c.args.codes.now c.requires.0))
    (parts_none comma _ _ c.if-from-line.false)

pub written_value-requires : goal.written_value-requires
written_value-requires c = range_found _ _ c.range_of-range.ensures
