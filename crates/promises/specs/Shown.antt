-- Demand 2, chart, panel and trial figures.
--     IsFraction         a binary64 number is z over the total, exactly
--     ProjectionHeld     the disc of the chart holds each row's projection
--     ChartShown         an accepted chart
--     PanelSteps         what the panel shows of each channel
--     NearestStep        the nearest whole step
--     promise_2_12       what chart and panel show (`ChartsAndPanels`)
--     promise_2_13       the trial figures (`TrialFigures`)
-- Channels of a chart count from 1, those of a point and of the panel from 0.
use Rattle.std.specs.Prelude.{◌*◌, ◌-◌, ◌<◌, ◌≤◌, ℕ, ◌≡◌, refl, true, map, Float, ◌*ℤ◌, ◌-ℤ◌, nat_abs, pos, ℤ, get_or, ◌≢◌}
use Rattle.std.specs.Float.Ieee.Exact.{HasValue}
use Rattle.std.proofs.Common.{arith}
use Rattle.limits.specs.Limits.{total}
use Rattle.geometry.proofs.Demand.{holds_every_row}
use Rattle.geometry.specs.Figures.{scaled_centre, scaled_squared_radius}
use Rattle.geometry.specs.Places.{centre_of}
use Rattle.geometry.specs.Table.{coordinate}
use Rattle.channel.specs.Channel.{channel_types}
use Rattle.envelope.specs.Figures.{figures_known}
use Rattle.envelope.specs.declared.Figures.{Figures}
use Rattle.chart.specs.Fraction.{negative, positive_zero}
use Rattle.chart.specs.Mark.{channel_centre, chart_mark, mark_number, mark_point, mark_radius, Disc, Dot}
use Rattle.chart.specs.MarkLaws.{chart_shows}
use Rattle.chart.specs.Projection.{projected_squared_distance}
use Rattle.chart.specs.ProjectionLaws.{OnDisc, same_channel_outside, ten_apart, ten_apart_ball}
use Rattle.chart.proofs.DiscLaws.{within_disc, tight_projected}
use Rattle.chart.specs.Root.{ceiling_root}
use Rattle.panel_steps.specs.Panel.{nearest_step, panel_shown}
use Rattle.panel_steps.specs.PanelLaws.{distance_to, nearest_away, nearest_least, nearest_unique, panel_past, panel_step}
use Rattle.trials.specs.Trials.{Trial, trials, trials_agree}
use Rattle.promises.specs.Tight.{OfEvery, Property, every}

-- ---- 2.12

-- its exact fraction, and zero positive
abbrev pub IsFraction : ℤ → Float → Type 0
IsFraction z x = HasValue x (negative z) (nat_abs z) total × (z ≡ pos 0 → x ≡ positive_zero)

module _ (f : Figures) where
  abbrev M : ℕ
  M = f.ball.scaled_squared_radius

  -- every accepted chart of the channels h and v
  pub record ChartShown (h v : ℕ) : Type 0 where
    pub horizontal : IsFraction (channel_centre f h) (mark_point (chart_mark total channel_types f h v)).horizontal
    pub vertical : IsFraction (channel_centre f v) (mark_point (chart_mark total channel_types f h v)).vertical
    -- the radius is the smallest whole number whose square is at least M, over D
    pub radius : IsFraction (pos (ceiling_root M)) (mark_radius (chart_mark total channel_types f h v))
    pub root_reaches : M ≤ ceiling_root M * ceiling_root M
    pub root_smallest : (k : ℕ) → M ≤ k * k → ceiling_root M ≤ k
    -- a dot when M is 0, else a disc
    pub dot : M ≡ 0 → chart_mark total channel_types f h v ≡ Dot (mark_point (chart_mark total channel_types f h v))
    pub disc : M ≢ 0
        → chart_mark total channel_types f h v ≡ Disc (mark_point (chart_mark total channel_types f h v)) (mark_radius (chart_mark total channel_types f h v))

  pub record PanelSteps : Type 0 where
    -- each of the n channels shows the whole number nearest to its X over D
    pub shown : figures_known total channel_types f ≡ true → (k : ℕ) → k < f.n
        → get_or (panel_shown total channel_types f).steps k (pos 0) ≡ nearest_step total (centre_of f.ball.scaled_centre k)
    pub past : (k : ℕ) → f.n ≤ k → get_or (panel_shown total channel_types f).steps k (pos 0) ≡ pos 0

-- the nearest whole step: none is nearer, of two equally near it is the one further from 0, and it is the only such
pub record NearestStep (z : ℤ) : Type 0 where
  pub nearest : (w : ℤ) → distance_to total z (nearest_step total z) ≤ distance_to total z w
  pub halves_away : (w : ℤ) → distance_to total z w ≡ distance_to total z (nearest_step total z) → nat_abs w ≤ nat_abs (nearest_step total z)
  pub only : (w : ℤ) → ((v : ℤ) → distance_to total z w ≤ distance_to total z v)
      → ((v : ℤ) → distance_to total z v ≡ distance_to total z w → nat_abs v ≤ nat_abs w) → w ≡ nearest_step total z

-- on a chart of two different channels each row's projection is within the radius of the centre, and so is each of its coordinates
abbrev pub ProjectionHeld : Property
ProjectionHeld D m n a X M L is_settled =
    (i : ℕ) → i < m
    → ((h v : ℕ) → 1 ≤ h → h ≤ n → 1 ≤ v → v ≤ n → h ≢ v → projected_squared_distance D X (a i) h v ≤ ceiling_root M * ceiling_root M)
    × ((h : ℕ) → 1 ≤ h → h ≤ n → nat_abs (pos D *ℤ a i (h - 1) -ℤ X (h - 1)) ≤ ceiling_root M)

pub record ChartsAndPanels : Type 0 where
  pub charts : (f : Figures) (h v : ℕ) → mark_number (chart_mark total channel_types f h v) ≡ 0 → ChartShown f h v
  pub panels : (f : Figures) → PanelSteps f
  pub steps : (z : ℤ) → NearestStep z
  -- of all weights of sum D, drawings, checks and accepted records
  pub projected : OfEvery ProjectionHeld
  -- on a chart of one channel taken twice a row may lie outside: rows 0 and 10, half of the weight on each
  pub same_channel_outside : ceiling_root ten_apart_ball.scaled_squared_radius * ceiling_root ten_apart_ball.scaled_squared_radius
      < projected_squared_distance total (centre_of ten_apart_ball.scaled_centre) (coordinate ten_apart 1 0) 1 1

pub promise_2_12 : ChartsAndPanels
promise_2_12 =
    record {
      charts = λ f h v is.
          let shows = chart_shows total 16 refl (omega arith) channel_types f h v is in
          record {
            horizontal = (shows.horizontal.value, shows.horizontal.zero_positive);
            vertical = (shows.vertical.value, shows.vertical.zero_positive);
            radius = (shows.radius.value, shows.radius.zero_positive);
            root_reaches = shows.reaches;
            root_smallest = shows.smallest;
            dot = shows.dot;
            disc = shows.disc;
          };
      panels = λ f. record { shown = panel_step total channel_types f; past = panel_past total channel_types f };
      steps = λ z.
          record {
            nearest = nearest_least total (omega arith) z;
            halves_away = nearest_away total (omega arith) z;
            only = nearest_unique total (omega arith) z;
          };
      projected = every ProjectionHeld
          (λ D m n a w positive some sum i l.
          on_disc (within_disc D n (scaled_centre a w m) (scaled_squared_radius D m n a (scaled_centre a w m)) (a i) (holds_every_row D m n a w positive some sum i l)))
          (λ D m n a b tight i l. on_disc (tight_projected D m n a b tight i l));
      same_channel_outside = same_channel_outside;
    }
  where
    on_disc : {D n : ℕ} {X : ℕ → ℤ} {M : ℕ} {p : ℕ → ℤ} → OnDisc D n X M p
        → ((h v : ℕ) → 1 ≤ h → h ≤ n → 1 ≤ v → v ≤ n → h ≢ v → projected_squared_distance D X p h v ≤ ceiling_root M * ceiling_root M)
        × ((h : ℕ) → 1 ≤ h → h ≤ n → nat_abs (pos D *ℤ p (h - 1) -ℤ X (h - 1)) ≤ ceiling_root M)
    on_disc o = (o.projection_within, o.each_channel_within)

-- ---- 2.13

pub record TrialFigures : Type 0 where
  -- the starred trial figures, and the range of TOC, the printed bytes of the example record and the panel's three included, values
  -- below detection, and two records drawn where these counted as 0: what the definitions compute is what the documents state
  pub agree : map (λ (t : Trial). t.computed) trials ≡ map (λ (t : Trial). t.stated) trials

pub promise_2_13 : TrialFigures
promise_2_13 = record { agree = trials_agree }
