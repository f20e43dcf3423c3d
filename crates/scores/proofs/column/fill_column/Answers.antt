use Prim.Native.Nat.{◌+◌, ◌-◌}
use mathlib.Core.Path.{◌≡◌, ◌∙◌, ap}
use native.Mathlib.Omega.{arith}
use Rattle.lists.specs.Placed.{placed_none, placed_next, placed_done}
use Rattle.geometry.specs.TableLaws.{table-row}
use Rattle.scores.specs.Clauses.{column_of}
use Rattle.scores.proofs.column.fill_column.Goals as goal

pub loop-i-init : goal.loop-i-init
loop-i-init c =
    let here : c.args.base + 0 ≡ c.args.base = omega arith in
    (omega arith, placed_done placed_none here)

pub squared_distance-requires : goal.squared_distance-requires
squared_distance-requires c =
    let table = c.requires.0 in
    (table-row table c.loop-i.i c.loop-i-test.true, table-row table c.args.j c.requires.1.0)

pub overflow_cast-columns : goal.overflow_cast-columns
overflow_cast-columns c = record { fits = omega (arith, c.squared_distance.ensures.most) }

pub loop-i-preserved : goal.loop-i-preserved
loop-i-preserved c =
    let a = c.args in
    let i = c.loop-i.i in
    let row : i ≡ a.base + i - a.base = omega arith in
    let next : a.base + (i + 1) ≡ a.base + i + 1 = omega arith in (
      omega arith,
      placed_done
          (placed_next c.loop-i.invariant.1 c.squared_distance.result (omega arith) (omega (arith, c.requires.1.1))
          (c.squared_distance.ensures.is ∙ ap (column_of a.rows.now a.n a.j) row)) next,
    )

pub returns : goal.returns
returns c =
    let a = c.args in
    let all : a.base + a.m ≡ a.base + c.loop-i.i = omega arith in
    record { placed = placed_done c.loop-i.invariant.1 all }
