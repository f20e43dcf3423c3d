-- Document 01, "Turned-back input": an envelope's figures and their limits, for any total D and table of types.
--     channel_codes f                      the codes of the n channels
--     figures_within D f                   n, X, M, L and the moves are within their limits
--     codes_within types f                 there is a code for each of the n channels, that of a type
--     figures_known D types f              both; else 8
--     figures_of n codes ball moves        the figures of a ball for n channels of these codes
--     empty_figures                        every figure 0
--     envelope_of figures weights          the envelope with these figures and weights
--     empty_envelope limit                 every figure and weight 0, for a row limit
--     drawn_figures n codes drawing        the figures of a drawing for n channels of these codes
--     drawn_envelope n codes drawing       its envelope
use Rattle.std.specs.Prelude.{ℕ, Bool, ◌&&◌, List, leb, length, take, replicate}
use Rattle.limits.specs.Limits.{channel_limit, centre_limit, distance_limit, budget_limit}
use Rattle.geometry.specs.Table.{places_within}
use Rattle.ball.specs.Ball.{empty_ball}
use Rattle.ball.specs.declared.Ball.{Ball}
use Rattle.channel.specs.Channel.{Types, codes_known}
use Rattle.envelope.specs.declared.Figures.{Figures}
use Rattle.envelope.specs.declared.Envelope.{Envelope}
use Rattle.drawing.specs.Draw.{DrawingOutcome}

-- places past n are not looked at
abbrev pub channel_codes : Figures → List ℕ
channel_codes f = take f.n f.codes

-- n from 1 to the channel limit and as many places of X, each within its limit of 0, M and L up to the limit on s, moves up to the
-- largest budget
unfoldable pub figures_within : ℕ → Figures → Bool
figures_within D f =
    (leb 1 f.n && leb f.n channel_limit)
    && (leb f.n (length f.ball.scaled_centre)
    && (places_within (centre_limit D) f.n f.ball.scaled_centre
    && ((leb f.ball.scaled_squared_radius (distance_limit D) && leb f.ball.scaled_lower_bound (distance_limit D))
    && leb f.moves budget_limit)))

unfoldable pub codes_within : Types → Figures → Bool
codes_within types f = leb f.n (length f.codes) && codes_known types (channel_codes f)

-- what readings, records, charts and panels ask of the figures that they are given
unfoldable pub figures_known : ℕ → Types → Figures → Bool
figures_known D types f = figures_within D f && codes_within types f

-- ---- figures and envelopes as values

abbrev pub figures_of : ℕ → List ℕ → Ball → ℕ → Figures
figures_of n codes ball moves = record { n = n; codes = codes; ball = ball; moves = moves }

abbrev pub empty_figures : Figures
empty_figures = figures_of 0 (replicate channel_limit 0) empty_ball 0

abbrev pub envelope_of : Figures → List ℕ → Envelope
envelope_of figures weights = record { figures = figures; weights = weights }

abbrev pub empty_envelope : ℕ → Envelope
empty_envelope limit = envelope_of empty_figures (replicate limit 0)

-- of a drawing, for n channels of these codes
abbrev pub drawn_figures : ℕ → List ℕ → DrawingOutcome → Figures
drawn_figures n codes r = figures_of n codes r.ball r.moves

abbrev pub drawn_envelope : ℕ → List ℕ → DrawingOutcome → Envelope
drawn_envelope n codes r = envelope_of (drawn_figures n codes r) r.weights
