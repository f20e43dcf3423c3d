-- Figures whose codes and X are lent.
--     scalars_of f                         the figures that are single numbers
--     lent_figures scalars codes X         the figures of these numbers with the codes and X that are lent
--     places_lent n codes X                a code and a place of X are lent for each of n channels
use Rattle.std.specs.Prelude.{ℕ, Bool, ◌&&◌, List, leb, ℤ, length}
use Rattle.ball.specs.Ball.{filled_ball}
use Rattle.envelope.specs.Figures.{figures_of}
use Rattle.envelope.specs.declared.Figures.{Figures}
use Rattle.envelope.specs.declared.Scalars.{Scalars}

abbrev pub scalars_of : Figures → Scalars
scalars_of f =
    record {
      n = f.n;
      scaled_squared_radius = f.ball.scaled_squared_radius;
      scaled_lower_bound = f.ball.scaled_lower_bound;
      settled = f.ball.settled;
      moves = f.moves;
    }

abbrev pub lent_figures : Scalars → List ℕ → List ℤ → Figures
lent_figures s codes X =
    figures_of s.n codes (filled_ball X s.scaled_squared_radius s.scaled_lower_bound s.settled) s.moves

abbrev pub places_lent : ℕ → List ℕ → List ℤ → Bool
places_lent n codes X = leb n (length codes) && leb n (length X)
