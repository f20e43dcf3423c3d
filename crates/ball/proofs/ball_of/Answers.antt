-- `ball::ball_of` meets its contract: M is s of the far row, and the weights are Settled by the test of the definition.
use Prim.Native.Nat.{ℕ}
use mathlib.Core.Path.{◌≡◌, refl}
use mathlib.Core.Bool.{Bool}
use mathlib.Core.List.{List}
use lib.IntN.{ℤ}
use Rattle.geometry.specs.Figures.{scaled_lower_bound}
use Rattle.geometry.specs.Move.{scaled_squared_distance_of, is_settled, settled, weight_of}
use Rattle.geometry.specs.Table.{coordinate}
use Rattle.geometry.specs.Clauses.{Table, IsCentre}
use Rattle.geometry.proofs.MoveLaws.{radius_far}
use Rattle.moves.specs.Clauses.{Paired}
use Rattle.moves.specs.declared.Pair.{Pair}
use Rattle.ball.specs.declared.Ball.{Ball}
use Rattle.ball.specs.Ball.{filled_ball, ball_of}
use Rattle.ball.proofs.ball_of.Goals as goal

-- the figures, put together
module _ {rows : List ℤ} {m n : ℕ} where
  gathered : {D : ℕ} {ws : List ℕ} {centre : List ℤ} {pair : Pair} {bound : ℕ} {settles : Bool} {b : Ball} → Table rows m n
      → IsCentre rows m n ws centre
      → Paired D rows m n ws (scaled_squared_distance_of D m n (coordinate rows n) (weight_of ws)) pair
      → bound ≡ scaled_lower_bound D m n (coordinate rows n) (weight_of ws)
      → settles ≡ is_settled pair.difference pair.separation
      → b ≡ filled_ball centre pair.score bound settles
      → b ≡ ball_of D m n (coordinate rows n) (weight_of ws)
  unfolding ball_of settled
  gathered {D} {ws} table centres pairs bounds tells filled = cc (radius_far D m n (coordinate rows n) (weight_of ws) table.some_row)

pub returns : goal.returns
returns c =
    let asked = c.requires in
    gathered asked.0 asked.1.1.0 asked.1.1.1 c.scaled_lower_bound-scaled_lower_bound.ensures
    c.is_settled-settles.ensures refl
