-- Document 01, "Texts": an envelope agrees with rows when every figure is what the check gives of its weights and the ending is the
-- check's; else 12. For any total D and row limit.
--     all_zero weights                         each of these weights is 0
--     same_places c k l                        the first c places of k and l are the same
--     ball_agrees n ball checked               a check accepts, and gives this ball for n channels
--     agrees D limit rows m n ball weights    no weight stands past the m rows, and the check of the others gives this ball
--     with_centre ball x                       the ball with another X
--     cleared_ball n ball, cleared e           the ball, and the envelope, with places past n set to 0
use Rattle.std.specs.Prelude.{ℕ, zero, suc, Bool, true, ◌&&◌, List, [], ◌∷◌, eqb, ℤ, pos, get_or, take, drop}
use Rattle.integers.specs.Tests.{same_integer, same_flag}
use Rattle.lists.specs.Padded.{padded}
use Rattle.refusal.specs.Outcome.{number_of}
use Rattle.limits.specs.Limits.{channel_limit}
use Rattle.geometry.specs.Places.{centre_list, centre_of}
use Rattle.checking.specs.Check.{checking, Checked}
use Rattle.ball.specs.Ball.{filled_ball}
use Rattle.ball.specs.declared.Ball.{Ball}
use Rattle.envelope.specs.Figures.{channel_codes, figures_of, envelope_of}
use Rattle.envelope.specs.declared.Envelope.{Envelope}

unfoldable pub all_zero : List ℕ → Bool
all_zero [] = true
all_zero (w ∷ ws) = eqb w 0 && all_zero ws

unfoldable pub same_places : ℕ → List ℤ → List ℤ → Bool
same_places zero k l = true
same_places (suc c) k l = same_places c k l && same_integer (get_or k c (pos 0)) (get_or l c (pos 0))

-- X in its n places, M, L and the ending
unfoldable pub ball_agrees : ℕ → Ball → Checked → Bool
ball_agrees n b k =
    eqb (number_of k.outcome) 0
    && (same_places n b.scaled_centre k.ball.scaled_centre
    && ((eqb b.scaled_squared_radius k.ball.scaled_squared_radius
    && eqb b.scaled_lower_bound k.ball.scaled_lower_bound)
    && same_flag b.settled k.ball.settled))

unfoldable pub agrees : ℕ → ℕ → List ℤ → ℕ → ℕ → Ball → List ℕ → Bool
agrees D limit rows m n b ws = all_zero (drop m ws) && ball_agrees n b (checking D limit rows m n (take m ws))

abbrev pub with_centre : Ball → List ℤ → Ball
with_centre b x = filled_ball x b.scaled_squared_radius b.scaled_lower_bound b.settled

-- places past n are not looked at where an envelope is handed in, and are 0 where it is handed out
abbrev pub cleared_ball : ℕ → Ball → Ball
cleared_ball n b = with_centre b (centre_list n (centre_of b.scaled_centre))

abbrev pub cleared : Envelope → Envelope
cleared e =
    let f = e.figures in
    envelope_of (figures_of f.n (padded channel_limit (channel_codes f)) (cleared_ball f.n f.ball) f.moves) e.weights
