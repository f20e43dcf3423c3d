-- `moves::step::pair_of` meets its contract: x is X of the weights, so that s of a row by x is the definition's s, and the rows that
-- the two passes find are the definition's. All this holds for any total D that the machine's numbers hold.
use Prim.Native.Nat.{ℕ, ◌-◌, ◌/◌, ◌≤◌, ◌<◌, zero-le}
use mathlib.Core.Path.{◌≡◌, refl, sym, ◌∙◌, ap, ap₂, subst}
use mathlib.Core.List.{List}
use native.Mathlib.Nat.{le_refl}
use native.Mathlib.Omega.{arith}
use lib.Dec.{ltb}
use lib.IntN.{ℤ}
use lib.ListN.{length}
use Rattle.lists.specs.Placed.{Placed}
use Rattle.geometry.specs.Figures.{scaled_centre, scaled_squared_distance}
use Rattle.geometry.specs.Select.{farthest, nearest}
use Rattle.geometry.specs.Move.{scaled_squared_distance_of, far_row, near_row, difference, weight_of}
use Rattle.geometry.specs.Table.{coordinate}
use Rattle.limits.specs.Limits.{total, distance_limit}
use Rattle.geometry.specs.Places.{centre_list, centre_of}
use Rattle.geometry.specs.Clauses.{CentreWithin, Table, WeightsOf}
use Rattle.geometry.proofs.FigureLaws.{centre_within, distance_centre_list}
use Rattle.geometry.proofs.LimitLaws.{distance-within}
use Rattle.geometry.specs.TableLaws.{table-row, weights-within}
use Rattle.scores.specs.Clauses.{ScoresWithin, score_of}
use Rattle.moves.specs.Clauses.{FoundRow}
use Rattle.moves.specs.declared.Selected.{Selected}
use Rattle.moves.proofs.Laws.{near_most, far_score, near_score, paired}
use Rattle.moves.proofs.step.pair_of.Goals as goal

module _ {D : ℕ} (most : D ≤ total) {rows x : List ℤ} {m n : ℕ} {ws : List ℕ} (t : Table rows m n) (g : WeightsOf D m ws)
    (e : x ≡ centre_list n (scaled_centre (coordinate rows n) (weight_of ws) m)) where
  centre : CentreWithin n x
  centre = subst (CentreWithin n) (sym e) (centre_within t (weights-within most g))

  distance_is : (i : ℕ) → scaled_squared_distance D n (centre_of x) (coordinate rows n i) ≡ scaled_squared_distance_of D m n (coordinate rows n) (weight_of ws) i
  unfolding scaled_squared_distance_of
  distance_is i =
      ap (λ y. scaled_squared_distance D n (centre_of y) (coordinate rows n i)) e ∙
      distance_centre_list D n (scaled_centre (coordinate rows n) (weight_of ws) m) (coordinate rows n i) t.channels

  -- the list of s
  module _ {before scores : List ℕ} (placed : Placed (λ i. scaled_squared_distance D n (centre_of x) (coordinate rows n i)) 0 before scores m) where
    within : m ≤ length before → ScoresWithin m scores
    within places = record { places = omega (arith, placed.same_length); most = each }
      where
        each : (i : ℕ) → i < m → score_of scores i ≤ distance_limit total
        each i l =
            let here = table-row t i l in
            subst (λ s. s ≤ distance_limit total) (sym (placed.given i zero-le l))
            (distance-within D total n (centre_of x) (coordinate rows n i) most here.channels here.bound centre.bound)

    are : (i : ℕ) → i < m → score_of scores i ≡ scaled_squared_distance_of D m n (coordinate rows n) (weight_of ws) i
    are i l = placed.given i zero-le l ∙ distance_is i

    far-by : far_row D m n (coordinate rows n) (weight_of ws) ≡ farthest ltb (scaled_squared_distance_of D m n (coordinate rows n) (weight_of ws)) m
    unfolding far_row
    far-by = refl

    near_by : near_row D m n (coordinate rows n) (weight_of ws) ≡ nearest ltb (weight_of ws) (scaled_squared_distance_of D m n (coordinate rows n) (weight_of ws)) m
    unfolding near_row
    near_by = refl

    gap : {far near : Selected} → FoundRow scores m (farthest ltb (score_of scores) m) far
        → FoundRow scores m (nearest ltb (weight_of ws) (score_of scores) m) near
        → (far.score - near.score) / D ≡ difference D m n (coordinate rows n) (weight_of ws)
    unfolding difference
    gap f k = ap₂ (λ d e. (d - e) / D) (far_score most t g are far-by near_by f k) (near_score most t g are far-by near_by f k)

pub fill_distances-requires : goal.fill_distances-requires
fill_distances-requires c =
    let p = c.requires in
    (p.0, (centre (le_refl total) p.0 p.1.0 p.1.1, p.0.rows_most))

pub farthest_row-far-requires : goal.farthest_row-far-requires
farthest_row-far-requires c =
    let p = c.requires in
    (p.0.some_row, within (le_refl total) p.0 p.1.0 p.1.1 c.fill_distances.ensures p.0.rows_most)

pub nearest_row-near-requires : goal.nearest_row-near-requires
nearest_row-near-requires c =
    let p = c.requires in
    (within (le_refl total) p.0 p.1.0 p.1.1 c.fill_distances.ensures p.0.rows_most, p.1.0)

pub overflow_sub-gap : goal.overflow_sub-gap
overflow_sub-gap c = near_most c.farthest_row-far.ensures c.nearest_row-near.ensures

pub pair_with-requires : goal.pair_with-requires
pair_with-requires c =
    let table = c.requires.0 in
    (table-row table _ c.farthest_row-far.ensures.within, table-row table _ c.nearest_row-near.ensures.within)

pub returns : goal.returns
returns c =
    let p = c.requires in
    let filled = c.fill_distances.ensures in
    let far = c.farthest_row-far.ensures in
    let near = c.nearest_row-near.ensures in
    paired (le_refl total) p.0 p.1.0 (are (le_refl total) p.0 p.1.0 p.1.1 filled)
    (far-by (le_refl total) p.0 p.1.0 p.1.1 filled) (near_by (le_refl total) p.0 p.1.0 p.1.1 filled) far near
    (gap (le_refl total) p.0 p.1.0 p.1.1 filled far near) c.pair_with.ensures
