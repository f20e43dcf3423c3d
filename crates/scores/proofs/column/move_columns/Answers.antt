use Prim.Native.Nat.{◌+◌, ◌-◌, ◌*◌}
use mathlib.Core.Path.{◌≡◌, sym, ◌∙◌, ap, subst}
use native.Mathlib.Omega.{arith}
use lib.ListN.{get_or}
use Rattle.lists.specs.Placed.{placed_none, placed_next, placed_here, placed_done}
use Rattle.scores.specs.Clauses.{Shifting}
use Rattle.scores.proofs.column.move_columns.Goals as goal

pub loop-row-init : goal.loop-row-init
loop-row-init c = (placed_none, omega arith)

pub moved_score-requires : goal.moved_score-requires
moved_score-requires c =
    let i = c.loop-row.row in
    subst (λ s. Shifting s c.args.t (get_or c.args.columns.now (c.args.gained + i) 0) (get_or c.args.columns.now (c.args.lost + i) 0))
    (sym (placed_here c.loop-row.invariant.0)) (c.requires.each i c.loop-row-test.true)

pub loop-row-preserved : goal.loop-row-preserved
loop-row-preserved c =
    let a = c.args in
    let i = c.loop-row.row in
    let here = c.loop-row.invariant.0 in (
      placed_next here c.moved_score.result (omega arith) (omega arith)
          (c.moved_score.ensures ∙ ap (λ x. x + a.t * get_or a.columns.now (a.gained + i) 0 - a.t * get_or a.columns.now (a.lost + i) 0) (placed_here here)),
      omega arith,
    )

pub returns : goal.returns
returns c =
    let all : c.args.m ≡ c.loop-row.row = omega arith in
    placed_done c.loop-row.invariant.0 all
