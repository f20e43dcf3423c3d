use Prim.Native.Nat.{zero-le}
use mathlib.Core.Path.{refl}
use native.Mathlib.Omega.{arith}
use Rattle.lists.specs.Placed.{placed_none, placed_next}
use Rattle.alert_settings.proofs.SplitSteps.{split_done}
use Rattle.alert_settings.proofs.split.Goals as goal

pub loop-j-init : goal.loop-j-init
loop-j-init c = (placed_none, placed_none)

pub loop-j-preserved : goal.loop-j-preserved
loop-j-preserved c =
    let asked = c.requires in
    let inv = c.loop-j.invariant in (
      placed_next inv.0 _ zero-le (omega (arith, asked.ks_places)) refl,
      placed_next inv.1 _ zero-le (omega (arith, asked.cs_places)) refl,
    )

pub returns : goal.returns
returns c =
    let inv = c.loop-j.invariant in
    let numbers = c.args.settings.now in
    split_done numbers c.args.ks.now c.args.cs.now c.requires c.loop-j.j (omega arith) inv.0 inv.1
