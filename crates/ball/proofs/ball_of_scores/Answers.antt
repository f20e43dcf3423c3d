-- `ball::ball_of_scores` meets its contract: M is D times e of the far row, less L, and the weights are Settled by the test of the
-- definition.
use Prim.Native.Nat.{ℕ, ◌*◌, ◌-◌, ◌≤◌, ◌<◌}
use mathlib.Core.Path.{◌≡◌, refl, sym, ap, subst}
use mathlib.Core.Bool.{Bool}
use mathlib.Core.List.{List}
use native.Mathlib.Omega.{arith}
use lib.Dec.{lit<}
use lib.IntN.{ℤ}
use Rattle.geometry.specs.Figures.{scaled_lower_bound}
use Rattle.geometry.specs.Move.{far_row, is_settled, settled, weight_of}
use Rattle.geometry.specs.Scores.{weighted_squared_distance}
use Rattle.geometry.specs.Table.{coordinate}
use Rattle.geometry.specs.Clauses.{Table, WeightsOf, IsCentre}
use Rattle.geometry.specs.Places.{weights_total}
use Rattle.geometry.proofs.MoveLaws.{far_within}
use Rattle.geometry.proofs.ScoreLaws.{score_distance, score_radius, score_within}
use Rattle.limits.specs.Limits.{total, difference_limit}
use Rattle.moves.specs.Clauses.{Paired}
use Rattle.moves.specs.declared.Pair.{Pair}
use Rattle.ball.specs.declared.Ball.{Ball}
use Rattle.ball.specs.Ball.{filled_ball, ball_of}
use Rattle.ball.proofs.ball_of_scores.Goals as goal

module _ {D : ℕ} (some : 0 < D) {rows : List ℤ} {m n : ℕ} {ws : List ℕ} {pair : Pair} (table : Table rows m n) (good : WeightsOf D m ws)
    (pairs : Paired D rows m n ws (weighted_squared_distance m n (coordinate rows n) (weight_of ws)) pair) where
  score_most : pair.score ≤ difference_limit D
  score_most =
      let far = far_row D m n (coordinate rows n) (weight_of ws) in
      subst (λ e. e ≤ difference_limit D) (sym pairs.score_is)
      (score_within table some good far (far_within D m n (coordinate rows n) (weight_of ws) table.some_row))

  bound-most : scaled_lower_bound D m n (coordinate rows n) (weight_of ws) ≤ D * pair.score
  unfolding weights_total
  bound-most =
      let far = far_row D m n (coordinate rows n) (weight_of ws) in
      omega (arith, ap (λ e. D * e) pairs.score_is, score_distance D m n (coordinate rows n) (weight_of ws) some good.sum far)

  -- the figures, put together
  gathered : {centre : List ℤ} {bound radius : ℕ} {settles : Bool} {b : Ball} → IsCentre rows m n ws centre
      → bound ≡ scaled_lower_bound D m n (coordinate rows n) (weight_of ws)
      → radius ≡ D * pair.score - bound
      → settles ≡ is_settled pair.difference pair.separation
      → b ≡ filled_ball centre radius bound settles
      → b ≡ ball_of D m n (coordinate rows n) (weight_of ws)
  unfolding ball_of settled weights_total
  gathered centres bounds radii settles filled =
      cc (score_radius D m n (coordinate rows n) (weight_of ws) some good.sum table.some_row, pairs.score_is, pairs.difference_is, pairs.separation_is)

pub radius_of_score-scaled_squared_radius-requires : goal.radius_of_score-scaled_squared_radius-requires
radius_of_score-scaled_squared_radius-requires c =
    let asked = c.requires in (
      score_most (lit< tt) asked.0 asked.1.0 asked.1.1,
      subst (λ b. b ≤ total * c.args.pair.score) (sym c.scaled_lower_bound-scaled_lower_bound.ensures)
          (bound-most (lit< tt) asked.0 asked.1.0 asked.1.1),
    )

pub returns : goal.returns
returns c =
    let asked = c.requires in
    gathered (lit< tt) asked.0 asked.1.0 asked.1.1 c.scaled_centre-scaled_centre.ensures c.scaled_lower_bound-scaled_lower_bound.ensures
    c.radius_of_score-scaled_squared_radius.ensures c.is_settled-settled.ensures refl
