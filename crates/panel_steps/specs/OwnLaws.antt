-- 2.14: no panel of an envelope of ours is met by 8; for any total D above 0 and table of types.
--     figures_shown                 a panel of figures within their limits is accepted
--     drawn_shown, checked_shown    so is that of an accepted drawing, and of an accepted check
use Rattle.std.specs.Prelude.{ℕ, ◌≤◌, ◌<◌, ◌≡◌, true, List, ℤ, length, take}
use Rattle.std.proofs.Common.{ap}
use Rattle.limits.specs.Limits.{budget_limit}
use Rattle.drawing.specs.Draw.{drawing}
use Rattle.checking.specs.Check.{checking}
use Rattle.channel.specs.Channel.{Types, codes_known}
use Rattle.envelope.specs.Figures.{figures_known, figures_of, drawn_figures}
use Rattle.envelope.specs.FigureLaws.{drawn-within, checked-within}
use Rattle.envelope.specs.declared.Figures.{Figures}
use Rattle.panel_steps.specs.Panel.{panel_shown, PanelShown}
use Rattle.panel_steps.specs.PanelLaws.{panel_shows}
use Rattle.refusal.specs.Outcome.{Accepted}

module _ (D : ℕ) (types : Types) where
  pub figures_shown : (f : Figures) → figures_known D types f ≡ true → (panel_shown D types f).outcome ≡ Accepted
  figures_shown f within = ap (λ (p : PanelShown). p.outcome) (panel_shows D types f within)

  module _ (n : ℕ) (codes : List ℕ) (typed : n ≤ length codes) (known : codes_known types (take n codes) ≡ true) (positive : 0 < D)
      (limit : ℕ) (rows : List ℤ) (m : ℕ) where
    pub drawn_shown : (budget : ℕ) → (drawing D limit rows m n budget).outcome ≡ Accepted
        → (panel_shown D types (drawn_figures n codes (drawing D limit rows m n budget))).outcome ≡ Accepted
    drawn_shown budget accepted =
        figures_shown (drawn_figures n codes (drawing D limit rows m n budget))
        (drawn-within D types n codes typed known positive limit rows m budget accepted)

    pub checked_shown : (ws : List ℕ) (moves : ℕ) → (checking D limit rows m n ws).outcome ≡ Accepted → moves ≤ budget_limit
        → (panel_shown D types (figures_of n codes (checking D limit rows m n ws).ball moves)).outcome ≡ Accepted
    checked_shown ws moves accepted most =
        figures_shown (figures_of n codes (checking D limit rows m n ws).ball moves)
        (checked-within D types n codes typed known positive limit rows m ws moves accepted most)
