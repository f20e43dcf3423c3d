-- `envelope::centre_within` meets its contract: the test of the elements one after another is that of the places.
use Rattle.std.specs.Prelude.{ℕ, zero, suc, Bool, ◌≡◌, ◌≤◌, ◌&&◌, refl, List, ℤ, pos, nat_abs, leb, get_or, length}
use Rattle.std.proofs.Common.{◌∙◌, ap, arith, rules, take, add-one}
use Rattle.std.specs.List.{list_all}
use Rattle.std.proofs.lemmas.Iterator.{YieldsList-from_slice}
use Rattle.std.proofs.lemmas.Iterator.Search.{all_from_yields_List}
use Rattle.std.proofs.lemmas.List.Folds.{list_all_more}
use Rattle.geometry.specs.Table.{places_within}
use Rattle.limits.specs.Limits.{total, centre_limit}
use Rattle.envelope.proofs.centre_within.Goals as goal

-- the test of one place
abbrev within : ℕ → ℤ → Bool
within bound z = leb (nat_abs z) bound

all-places : (bound c : ℕ) (l : List ℤ) → c ≤ length l → list_all (within bound) (take c l) ≡ places_within bound c l
unfolding places_within
all-places bound zero l h = refl
all-places bound (suc c) l h =
    rw (← add-one c) (list_all_more (within bound) l c (pos 0) (omega arith)) ∙ ap (λ b. b && within bound (get_or l c (pos 0))) (all-places bound c l (omega arith))

pub returns : goal.returns
returns c =
    all_from_yields_List (within (centre_limit total)) _ _ c.all.result c.all.ensures.ran (YieldsList-from_slice (take c.args.n c.args.scaled_centre.now) (search rules)) (λ x b q k. search rules)
    ∙ all-places (centre_limit total) c.args.n c.args.scaled_centre.now c.requires
