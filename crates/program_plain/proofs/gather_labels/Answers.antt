use mathlib.Core.Path.{refl, ap}
use native.Mathlib.Omega.{arith}
use Rattle.printing.specs.ContractLaws.{put_as}
use Rattle.program_plain.specs.ContractLaws.{label-part}
use Rattle.program_plain.proofs.GatherSteps.{gathering_none, gathering_next, gathering_done}
use lib.ListN.{length}
use Rattle.program_plain.proofs.gather_labels.Goals as goal

pub loop-row-init : goal.loop-row-init
loop-row-init c = gathering_none

pub field_end-end-requires : goal.field_end-end-requires
field_end-end-requires c = c.requires.0.each_start c.loop-row.row c.loop-row-test.true

pub put_bytes-length-requires : goal.put_bytes-length-requires
put_bytes-length-requires c =
    omega (
      arith,
      ap length (label-part _ _ _ c.field_end-end.ensures),
      c.requires.0.each_short c.loop-row.row c.loop-row-test.true,
      c.loop-row.invariant.most,
      c.loop-row.invariant.same_labels,
      c.requires.0.most,
    )

pub loop-row-preserved : goal.loop-row-preserved
loop-row-preserved c =
    let room = c.requires.1.1.0 in
    gathering_next c.loop-row.invariant (omega (arith, c.loop-row-test.true, room))
    (c.requires.0.each_short c.loop-row.row c.loop-row-test.true)
    (put_as c.put_bytes-length.ensures (label-part _ _ _ c.field_end-end.ensures) refl)

pub returns : goal.returns
returns c = gathering_done c.loop-row.invariant (omega arith) c.requires.0.most (omega arith)
