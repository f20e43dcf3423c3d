use Prim.Native.Nat.{◌+◌, ◌*◌}
use mathlib.Core.Path.{◌≡◌, ◌∙◌, ap}
use native.Mathlib.Omega.{arith}
use lib.ListN.{get_or}
use Rattle.lists.specs.Placed.{placed_none, placed_next, placed_here, placed_done}
use Rattle.scores.proofs.column.add_column.Goals as goal

pub loop-i-init : goal.loop-i-init
loop-i-init c = (placed_none, omega arith)

pub raised-requires : goal.raised-requires
raised-requires c =
    let asked = c.requires in
    (omega (arith, placed_here c.loop-i.invariant.0, asked.within.most c.loop-i.i c.loop-i-test.true), asked.factor)

pub loop-i-preserved : goal.loop-i-preserved
loop-i-preserved c =
    let i = c.loop-i.i in
    let here = c.loop-i.invariant.0 in (
      placed_next here c.raised.result (omega arith) (omega arith)
          (c.raised.ensures ∙ ap (λ x. x + c.args.t * get_or c.args.columns.now (c.args.base + i) 0) (placed_here here)),
      omega arith,
    )

pub returns : goal.returns
returns c =
    let all : c.args.m ≡ c.loop-i.i = omega arith in
    placed_done c.loop-i.invariant.0 all
