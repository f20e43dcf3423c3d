-- After a tag there is room for a comma, a number and byte 10.
use native.Mathlib.Omega.{arith}
use mir.Syntax.{w32, w64}
use mir.Val.{SFits}
use mathlib.Core.Path.{refl, ap}
use lib.IntN.{ℤ, nat_abs}
use lib.ListN.{length-set}
use Rattle.integers.specs.Absolute.{fits_abs}
use Rattle.integers.specs.Reading.{Reads, back, held, kept}
use Rattle.text.specs.Parts.{comma}
use Rattle.number.specs.Number.{print}
use Rattle.printing.specs.ContractLaws.{put_as}
use Rattle.program_panel.proofs.PanelSteps.{tag_end, step_put}
use Rattle.program_panel.proofs.put_step.Goals as goal

-- the step as the machine reads it
read : (step : ℤ) → SFits w32 step → Reads (back w64 (back w32 step)) step 2147483648
read step f = kept (held {w = w32} {B = 2147483648} f (fits_abs w32 step f)) tt

pub bounds-out-end : goal.bounds-out-end
bounds-out-end c = omega (arith, (tag_end c.args.code c.requires c.put_tag-end.ensures).1)

pub put_number-next-requires : goal.put_number-next-requires
put_number-next-requires c =
    let step = read c.args.step c.ranges.step in
    let ends = tag_end c.args.code c.requires c.put_tag-end.ensures in
    (omega (arith, ap nat_abs step.is, step.most), omega (arith, ends.1, length-set c.put_tag-end.new.out c.put_tag-end.result comma))

pub bounds-out-next : goal.bounds-out-next
bounds-out-next c =
    let step = read c.args.step c.ranges.step in
    let put = put_as c.put_number-next.ensures (ap print step.is) refl in
    (step_put c.args.code c.args.step c.requires (omega (arith, step.most)) c.put_tag-end.ensures put).within

pub returns : goal.returns
returns c =
    let step = read c.args.step c.ranges.step in
    let put = put_as c.put_number-next.ensures (ap print step.is) refl in
    let line = step_put c.args.code c.args.step c.requires (omega (arith, step.most)) c.put_tag-end.ensures put in
    record { room = line.end; line = line.line }
