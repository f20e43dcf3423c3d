-- `figures::bound::scaled_lower_bound` meets its contract: X is within its limit, and its squared length is at most D times the weighted
-- squared length, so that the difference does not wrap.
use mathlib.Core.Path.{◌≡◌, ap₂, ◌∙◌}
use mathlib.Core.List.{List}
use Prim.Native.Nat.{ℕ, ◌*◌, ◌-◌, ◌≤◌, ◌<◌}
use native.Mathlib.Nat.{le_refl}
use native.Mathlib.Omega.{arith}
use lib.Dec.{lit<}
use lib.IntN.{ℤ}
use Rattle.geometry.specs.Figures.{squared_length, scaled_centre, weighted_squared_length, scaled_lower_bound}
use Rattle.geometry.proofs.FigureLaws.{squared_length_cong, centre_within, centre_length_most}
use Rattle.geometry.specs.Move.{weight_of}
use Rattle.geometry.specs.Table.{coordinate}
use Rattle.limits.specs.Limits.{total}
use Rattle.geometry.specs.Places.{centre_list, centre_of, weights_total}
use Rattle.geometry.specs.PlacesLaws.{centre_list_at}
use Rattle.geometry.specs.TableLaws.{weights-within}
use Rattle.geometry.specs.Clauses.{Table, WeightsOf}
use Rattle.figures.proofs.bound.scaled_lower_bound.Goals as goal

-- for any total D above 0: the squared length of the list is that of X, and at most what it is subtracted from; y and z stand for the
-- two results
module _ {D : ℕ} (positive : 0 < D) {rows : List ℤ} {m n : ℕ} {w : List ℕ} {x : List ℤ} (t : Table rows m n) (g : WeightsOf D m w)
    (e : x ≡ centre_list n (scaled_centre (coordinate rows n) (weight_of w) m)) where
  length-is : squared_length n (centre_of x) ≡ squared_length n (scaled_centre (coordinate rows n) (weight_of w) m)
  length-is = rw e (squared_length_cong n (λ k l. centre_list_at n (scaled_centre (coordinate rows n) (weight_of w) m) k t.channels l))

  module _ {y z : ℕ} (first : y ≡ weighted_squared_length m n (coordinate rows n) (weight_of w))
      (second : z ≡ squared_length n (centre_of x)) where
    second-most : z ≤ D * y
    unfolding weights_total
    second-most = rw (first, second, length-is) (centre_length_most D m n (coordinate rows n) (weight_of w) g.sum positive)

    bound-is : D * y - z ≡ scaled_lower_bound D m n (coordinate rows n) (weight_of w)
    unfolding scaled_lower_bound
    bound-is = ap₂ (λ a b. D * a - b) first (second ∙ length-is)

pub weighted_squared_length-requires : goal.weighted_squared_length-requires
weighted_squared_length-requires c =
    let p = c.requires in
    (p.0, weights-within (le_refl total) p.1.0)

pub squared_length_of_centre-requires : goal.squared_length_of_centre-requires
squared_length_of_centre-requires c =
    let p = c.requires in
    (rw p.1.1 (centre_within p.0 (weights-within (le_refl total) p.1.0)), omega arith)

pub overflow_sub-result : goal.overflow_sub-result
overflow_sub-result c =
    let p = c.requires in
    second-most (lit< tt) p.0 p.1.0 p.1.1 c.weighted_squared_length.ensures.is c.squared_length_of_centre.ensures.is

pub returns : goal.returns
returns c =
    let p = c.requires in
    bound-is (lit< tt) p.0 p.1.0 p.1.1 c.weighted_squared_length.ensures.is c.squared_length_of_centre.ensures.is
