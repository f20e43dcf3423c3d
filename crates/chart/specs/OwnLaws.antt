-- 2.14: no chart of channels from 1 to n of an envelope of ours is met by 8; for any total D above 0 and table of types.
--     figures_charted                   a chart of figures within their limits is accepted
--     drawn_charted, checked_charted    so is that of an accepted drawing, and of an accepted check
use Rattle.std.specs.Prelude.{ℕ, ◌≤◌, ◌<◌, ◌≡◌, true, List, ℤ, length, take}
use Rattle.integers.specs.Tests.{range_in}
use Rattle.limits.specs.Limits.{budget_limit}
use Rattle.drawing.specs.Draw.{drawing}
use Rattle.checking.specs.Check.{checking}
use Rattle.channel.specs.Channel.{Types, codes_known}
use Rattle.envelope.specs.Figures.{figures_known, figures_of, drawn_figures}
use Rattle.envelope.specs.FigureLaws.{drawn-within, checked-within}
use Rattle.envelope.specs.declared.Figures.{Figures}
use Rattle.chart.specs.Mark.{mark_number, chart_mark}
use Rattle.chart.specs.MarkLaws.{accepts}
use Rattle.refusal.specs.Outcome.{Accepted}

module _ (D : ℕ) (types : Types) where
  pub figures_charted : (f : Figures) → figures_known D types f ≡ true → (h v : ℕ) → 1 ≤ h → h ≤ f.n → 1 ≤ v → v ≤ f.n
      → mark_number (chart_mark D types f h v) ≡ 0
  figures_charted f within h v h-some h-most v-some v-most =
      accepts D types f h v within (range_in 1 f.n h h-some h-most) (range_in 1 f.n v v-some v-most)

  module _ (n : ℕ) (codes : List ℕ) (typed : n ≤ length codes) (known : codes_known types (take n codes) ≡ true) (positive : 0 < D)
      (limit : ℕ) (rows : List ℤ) (m : ℕ) where
    pub drawn_charted : (budget : ℕ) → (drawing D limit rows m n budget).outcome ≡ Accepted → (h v : ℕ) → 1 ≤ h → h ≤ n → 1 ≤ v → v ≤ n
        → mark_number (chart_mark D types (drawn_figures n codes (drawing D limit rows m n budget)) h v) ≡ 0
    drawn_charted budget accepted =
        figures_charted (drawn_figures n codes (drawing D limit rows m n budget))
        (drawn-within D types n codes typed known positive limit rows m budget accepted)

    pub checked_charted : (ws : List ℕ) (moves : ℕ) → (checking D limit rows m n ws).outcome ≡ Accepted → moves ≤ budget_limit
        → (h v : ℕ) → 1 ≤ h → h ≤ n → 1 ≤ v → v ≤ n
        → mark_number (chart_mark D types (figures_of n codes (checking D limit rows m n ws).ball moves) h v) ≡ 0
    checked_charted ws moves accepted most =
        figures_charted (figures_of n codes (checking D limit rows m n ws).ball moves)
        (checked-within D types n codes typed known positive limit rows m ws moves accepted most)
