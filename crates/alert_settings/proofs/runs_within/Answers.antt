-- The chain tests each number as the definition does.
use Prim.Native.Nat.{ℕ}
use mathlib.Core.Bool.{Bool, ◌&&◌}
use mathlib.Core.List.{List, [], ◌∷◌}
use mathlib.Core.Path.{◌≡◌, refl, ap, ◌∙◌}
use Rattle.std.specs.List.{list_all}
use Rattle.std.proofs.Common.{rules}
use Rattle.std.proofs.lemmas.Iterator.{YieldsList-from_slice}
use Rattle.std.proofs.lemmas.Iterator.Search.{all_from_yields_List}
use Rattle.alert_settings.specs.Settings.{run_within, runs_within}
use Rattle.alert_settings.proofs.runs_within.Goals as goal

runs_all : (numbers : List ℕ) → list_all run_within numbers ≡ runs_within numbers
unfolding runs_within
runs_all [] = refl
runs_all (number ∷ numbers) = ap (λ (t : Bool). run_within number && t) (runs_all numbers)

pub returns : goal.returns
returns c =
    all_from_yields_List run_within _ _ _ c.all.ensures.ran (YieldsList-from_slice c.args.settings.now cc) (λ x b q k. search rules)
    ∙ runs_all c.args.settings.now
