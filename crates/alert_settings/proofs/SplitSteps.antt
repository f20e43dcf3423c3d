-- Settings as they are split.
--     first_at, second_at     k and c of a setting, by their places among the numbers
--     split_done            numbers that are given to their places are split
use Prim.Native.Nat.{ℕ, ◌+◌, ◌*◌, ◌/◌, ◌≤◌, ◌<◌, zero-le}
use mathlib.Core.Path.{◌≡◌, sym, ap₂, ◌∙◌}
use mathlib.Core.List.{List}
use native.Mathlib.Decide.{dec_lt}
use native.Mathlib.Omega.{arith}
use lib.ListN.{length, get_or}
use Rattle.alert.specs.Clauses.{Positive}
use Rattle.lists.specs.Placed.{Placed}
use Rattle.alert_settings.specs.Clauses.{SplitAsked, Split}
use Rattle.alert_settings.specs.SettingsLaws.{runs_at, settings_count, settings_at}

abbrev pub first_at : List ℕ → ℕ → ℕ
first_at numbers j = get_or numbers (2 * j) 0

abbrev pub second_at : List ℕ → ℕ → ℕ
second_at numbers j = get_or numbers (2 * j + 1) 0

-- each number that is given is at least 1, and so is what was there before
positive : (F : ℕ → ℕ) (old new : List ℕ) (count : ℕ) → Placed F 0 old new count → Positive old → ((j : ℕ) → j < count → 1 ≤ F j) → Positive new
positive F old new count l before given j h = go (dec_lt j count)
  where
    go : Dec (j < count) → 1 ≤ get_or new j 0
    go (yes below) = omega (arith, l.given j zero-le below, given j below)
    go (no past) = omega (arith, l.after j (omega arith), before j h)

module _ (numbers ks₀ cs₀ : List ℕ) (asked : SplitAsked numbers ks₀ cs₀) (count : ℕ) (half : count ≡ length numbers / 2) where
  pub split_done : {ks cs : List ℕ} → Placed (first_at numbers) 0 ks₀ ks count → Placed (second_at numbers) 0 cs₀ cs count → Split numbers ks cs
  split_done {ks} {cs} first second =
      let within = asked.within in
      record {
        ks_places = first.same_length ∙ asked.ks_places;
        cs_places = second.same_length ∙ asked.cs_places;
        ks_positive =
            positive (first_at numbers) ks₀ ks count first asked.ks_positive (λ j h. (runs_at numbers within.runs (2 * j) (omega arith)).0);
        cs_positive =
            positive (second_at numbers) cs₀ cs count second asked.cs_positive (λ j h. (runs_at numbers within.runs (2 * j + 1) (omega arith)).0);
        each = λ d j h.
            let below : j < count = omega (arith, settings_count numbers) in
            settings_at numbers j d h
            ∙ ap₂ (λ (k c : ℕ). record { k = k; c = c }) (sym (first.given j zero-le below)) (sym (second.given j zero-le below));
      }
