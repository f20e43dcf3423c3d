-- `moves::step::pair_of_scores` meets its contract: the scores are e of the weights, by which the far and the near row are found as by s,
-- and whose difference is g.
use Prim.Native.Nat.{◌-◌}
use mathlib.Core.Path.{sym, ◌∙◌, ap₂}
use native.Mathlib.Nat.{le_refl}
use lib.Dec.{lit<}
use Rattle.geometry.specs.Move.{weight_of}
use Rattle.geometry.specs.Places.{weights_total}
use Rattle.geometry.proofs.ScoreLaws.{score_far, score_near, score_difference}
use Rattle.geometry.specs.Table.{coordinate}
use Rattle.geometry.specs.TableLaws.{table-row}
use Rattle.limits.specs.Limits.{total}
use Rattle.moves.specs.ContractLaws.{scored_within}
use Rattle.moves.proofs.Laws.{near_most, far_score, near_score, paired}
use Rattle.moves.proofs.step.pair_of_scores.Goals as goal

pub farthest_row-far-requires : goal.farthest_row-far-requires
farthest_row-far-requires c =
    let asked = c.requires in
    (asked.0.some_row, scored_within (lit< tt) (le_refl total) asked.0 asked.1.0 asked.1.1)

pub nearest_row-near-requires : goal.nearest_row-near-requires
nearest_row-near-requires c =
    let asked = c.requires in
    (scored_within (lit< tt) (le_refl total) asked.0 asked.1.0 asked.1.1, asked.1.0)

pub overflow_sub-difference : goal.overflow_sub-difference
overflow_sub-difference c = near_most c.farthest_row-far.ensures c.nearest_row-near.ensures

pub pair_with-requires : goal.pair_with-requires
pair_with-requires c =
    let table = c.requires.0 in
    (table-row table _ c.farthest_row-far.ensures.within, table-row table _ c.nearest_row-near.ensures.within)

pub returns : goal.returns
unfolding weights_total
returns c =
    let a = c.args in
    let table = c.requires.0 in
    let good = c.requires.1.0 in
    let scored = c.requires.1.1 in
    let rows = coordinate a.rows.now a.n in
    let w = weight_of a.weights.now in
    let far-by = score_far total a.m a.n rows w (lit< tt) good.sum in
    let Near-by = score_near total a.m a.n rows w (lit< tt) good.sum in
    let far = c.farthest_row-far.ensures in
    let near = c.nearest_row-near.ensures in
    let gap = ap₂ ◌-◌ (far_score (le_refl total) table good scored.are far-by Near-by far near)
    (near_score (le_refl total) table good scored.are far-by Near-by far near)
    ∙ sym (score_difference total a.m a.n rows w (lit< tt) good.sum table.some_row) in
    paired (le_refl total) table good scored.are far-by Near-by far near gap c.pair_with.ensures
