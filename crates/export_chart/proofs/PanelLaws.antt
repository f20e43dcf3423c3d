-- What the proof of the exported panel uses.
--     panel_accepted     a panel of the number 0 is accepted, and each of its channels has a place
use Prim.Native.Nat.{ℕ, ◌≤◌}
use mathlib.Core.Path.{◌≡◌, refl}
use mathlib.Core.Bool.{Bool, true, false}
use mathlib.Core.List.{List}
use lib.IntN.{ℤ}
use Rattle.integers.specs.Tests.{nonzero}
use Rattle.refusal.specs.Number.{outside_limits}
use Rattle.refusal.specs.Outcome.{number_of, require, Accepted}
use Rattle.limits.specs.Limits.{channel_limit}
use Rattle.channel.specs.Channel.{Types}
use Rattle.envelope.specs.Figures.{figures_known}
use Rattle.envelope.specs.FigureLaws.{known-within}
use Rattle.panel_steps.specs.Panel.{refused_panel, panel_of, panel_shown, PanelShown}
use Rattle.export_figures.specs.Clauses.{ending_known, figures_given}
use Rattle.export_chart.specs.Clauses.{panel_given}
use Rattle.export_figures.specs.declared.FiguresGiven.{FiguresGiven}

-- a panel that is shown only where a test holds has the number 0 only there
shown_where : {P : Type 0} (t : Bool) (shown : PanelShown)
    → (t ≡ true → number_of shown.outcome ≡ 0 → (shown.outcome ≡ Accepted) × P)
    → let r = require t (refused_panel outside_limits) (λ _. shown) in
    number_of r.outcome ≡ 0 → (r.outcome ≡ Accepted) × P
shown_where true shown only z = only refl z
shown_where false shown only z = nonzero z

module _ (D : ℕ) (types : Types) (given : FiguresGiven) (codes : List ℕ) (scaled_centre : List ℤ) where
  pub panel_accepted : let shown = panel_given D types given codes scaled_centre in
      number_of shown.outcome ≡ 0 → (shown.outcome ≡ Accepted) × (given.n ≤ channel_limit)
  unfolding panel_given panel_shown
  panel_accepted =
      let figures = figures_given given codes scaled_centre in
      shown_where (ending_known given) _
      (λ _. shown_where (figures_known D types figures) (panel_of D figures) (λ within _. (refl, (known-within D types figures within).channels)))
