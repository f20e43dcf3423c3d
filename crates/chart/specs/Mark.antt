-- Document 01, "Chart and panel": the mark of an envelope on a chart of two channels, for any total D and table of types.
--     MarkOutcome, mark_outcome a     what a chart answers, in numbers
--     refused_mark number             the refusal with this number, no line at fault
--     mark_number, mark_line           the number and the line of each mark, both 0 where accepted; no line is at fault in a refusal
--     mark_point                      the point of each mark; both coordinates are 0 where refused
--     mark_radius                     its radius; 0 of a dot and where refused
--     channel_within n channel        a chart's channel is one of the n, counted from 1
--     channel_centre f channel        X of a channel counted from 1
--     projected_centre D f h v        the centre on the chart with channel h horizontal and channel v vertical
--     mark_of D point M               a dot when M is 0, else a disc
--     chart_mark D types f h v        the mark on the chart
use Rattle.std.specs.Prelude.{ℕ, zero, suc, ◌-◌, Bool, ◌&&◌, leb, ℤ, pos, Float, Result, Ok, Err}
use Rattle.refusal.specs.Number.{outside_limits}
use Rattle.refusal.specs.Outcome.{require, RefusalNumbers, refusal_numbers}
use Rattle.geometry.specs.Places.{centre_of}
use Rattle.channel.specs.Channel.{Types}
use Rattle.envelope.specs.Figures.{figures_known}
use Rattle.envelope.specs.declared.Figures.{Figures}
use Rattle.chart.specs.Fraction.{positive_zero, fraction_of}
use Rattle.chart.specs.Root.{ceiling_root}
use Rattle.chart.specs.declared.Point.{Point}
use Rattle.refusal.specs.declared.Refusal.{Refusal}
use Rattle.chart.specs.declared.Mark.{Mark}
use Rattle.chart.specs.declared.Mark.TheVariants as mark

-- the mark of an envelope, or its refusal, in numbers
pub data MarkOutcome : Type 0 where
  Dot : Point → MarkOutcome
  Disc : Point → Float → MarkOutcome
  Refused : RefusalNumbers → MarkOutcome

abbrev pub mark_outcome : Result Mark Refusal → MarkOutcome
mark_outcome (Ok (mark.Dot point)) = Dot point
mark_outcome (Ok (mark.Disc point radius)) = Disc point radius
mark_outcome (Err r) = Refused (refusal_numbers r)

abbrev pub refused_mark : ℕ → MarkOutcome
refused_mark number = Refused (record { number = number; line = 0 })

abbrev pub mark_number : MarkOutcome → ℕ
mark_number (Dot point) = 0
mark_number (Disc point radius) = 0
mark_number (Refused r) = r.number

abbrev pub mark_line : MarkOutcome → ℕ
mark_line (Dot point) = 0
mark_line (Disc point radius) = 0
mark_line (Refused r) = r.line

abbrev pub mark_point : MarkOutcome → Point
mark_point (Dot point) = point
mark_point (Disc point radius) = point
mark_point (Refused r) = record { horizontal = positive_zero; vertical = positive_zero }

abbrev pub mark_radius : MarkOutcome → Float
mark_radius (Dot point) = positive_zero
mark_radius (Disc point radius) = radius
mark_radius (Refused r) = positive_zero

abbrev pub channel_within : ℕ → ℕ → Bool
channel_within n channel = leb 1 channel && leb channel n

abbrev pub channel_centre : Figures → ℕ → ℤ
channel_centre f channel = centre_of f.ball.scaled_centre (channel - 1)

abbrev pub projected_centre : ℕ → Figures → ℕ → ℕ → Point
projected_centre D f h v = record { horizontal = fraction_of D (channel_centre f h); vertical = fraction_of D (channel_centre f v) }

-- the radius is the smallest whole number whose square is at least M, divided by D
abbrev pub mark_of : ℕ → Point → ℕ → MarkOutcome
mark_of D point zero = Dot point
mark_of D point (suc k) = Disc point (fraction_of D (pos (ceiling_root (suc k))))

-- 8 for a figure or a channel outside its limits
unfoldable pub chart_mark : ℕ → Types → Figures → ℕ → ℕ → MarkOutcome
chart_mark D types f h v =
    require (figures_known D types f && (channel_within f.n h && channel_within f.n v)) (refused_mark outside_limits) (λ _.
    mark_of D (projected_centre D f h v) f.ball.scaled_squared_radius)
