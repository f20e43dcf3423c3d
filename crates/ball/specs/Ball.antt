-- The figures of a set of weights as a call hands them out.
--     filled_ball X M L settled      the figures X, M and L, and whether the weights are Settled
--     ball_of D m n a w              those of weights
--     empty_ball                     what a refusal hands out: every figure 0
use Rattle.std.specs.Prelude.{ℕ, Bool, false, List, ℤ, pos, replicate}
use Rattle.geometry.specs.Figures.{scaled_centre, scaled_squared_radius, scaled_lower_bound}
use Rattle.geometry.specs.Move.{settled}
use Rattle.limits.specs.Limits.{channel_limit}
use Rattle.geometry.specs.Places.{centre_list}
use Rattle.ball.specs.declared.Ball.{Ball}

abbrev pub filled_ball : List ℤ → ℕ → ℕ → Bool → Ball
filled_ball X M L settled = record { scaled_centre = X; scaled_squared_radius = M; scaled_lower_bound = L; settled = settled }

unfoldable pub ball_of : ℕ → ℕ → ℕ → (ℕ → ℕ → ℤ) → (ℕ → ℕ) → Ball
ball_of D m n a w =
    filled_ball (centre_list n (scaled_centre a w m)) (scaled_squared_radius D m n a (scaled_centre a w m)) (scaled_lower_bound D m n a w)
    (settled D m n a w)

abbrev pub empty_ball : Ball
empty_ball = filled_ball (replicate channel_limit (pos 0)) 0 0 false
