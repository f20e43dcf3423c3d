-- Document 01, "Chart and panel": the centre to the nearest whole step, for any total D and table of types.
--     nearest_magnitude D k      the whole number nearest to k/D; of two equally near, the higher
--     nearest_step D z           the whole number nearest to z/D; of two equally near, the one further from 0
--     PanelShown, panel_outcome a       what a panel answers, in numbers
--     refused_panel number       the refusal with this number, no line at fault; every place is 0
--     panel_of D f               the panel: the nearest step of each of the n channels, places past n 0
--     panel_shown D types f      what the panel shows
use Rattle.std.specs.Prelude.{ℕ, suc, ◌+◌, ◌*◌, ◌/◌, List, ℤ, pos, negsuc, neg_ℤ, replicate, Result, Ok, Err}
use Rattle.refusal.specs.Number.{outside_limits}
use Rattle.refusal.specs.Outcome.{refused, require, Accepted, refusal_outcome, Outcome}
use Rattle.limits.specs.Limits.{channel_limit}
use Rattle.geometry.specs.Places.{centre_of, centre_list}
use Rattle.channel.specs.Channel.{Types}
use Rattle.envelope.specs.Figures.{figures_known}
use Rattle.envelope.specs.declared.Figures.{Figures}
use Rattle.refusal.specs.declared.Refusal.{Refusal}

-- the whole part of k/D + 1/2
abbrev pub nearest_magnitude : ℕ → ℕ → ℕ
nearest_magnitude D k = (2 * k + D) / (2 * D)

abbrev pub nearest_step : ℕ → ℤ → ℤ
nearest_step D (pos k) = pos (nearest_magnitude D k)
nearest_step D (negsuc k) = neg_ℤ (pos (nearest_magnitude D (suc k)))

-- the steps of the n channels, in numbers; places past n, and every place in a refusal, are 0
pub record PanelShown : Type 0 where
  pub outcome : Outcome
  pub steps : List ℤ

abbrev pub refused_panel : ℕ → PanelShown
refused_panel number = record { outcome = refused number; steps = replicate channel_limit (pos 0) }

abbrev pub panel_of : ℕ → Figures → PanelShown
panel_of D f =
    record { outcome = Accepted; steps = centre_list f.n (λ k. nearest_step D (centre_of f.ball.scaled_centre k)) }

-- 8 for a figure outside its limits
unfoldable pub panel_shown : ℕ → Types → Figures → PanelShown
panel_shown D types f =
    require (figures_known D types f) (refused_panel outside_limits) (λ _.
    panel_of D f)

abbrev pub panel_outcome : Result (List ℤ) Refusal → PanelShown
panel_outcome (Ok steps) = record { outcome = Accepted; steps = steps }
panel_outcome (Err r) = record { outcome = refusal_outcome r; steps = replicate channel_limit (pos 0) }
