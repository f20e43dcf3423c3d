-- The panel, for a reader: the step that it shows is the nearest whole number, halves away from 0; and what the call answers. For any
-- total D above 0.
--     distance_to D z w     how far the whole number w is from z/D, in units of 1/D
--     nearest_least        no whole number is nearer to z/D than the step
--     nearest_away         of two equally near the step is the one further from 0
--     nearest_unique       only the step is both
--     nearest_most         the step of a place of X within its limit is within the limit on a coordinate
--     panel_refuses        figures outside their limits are refused
--     panel_shows          others are shown
--     panel_step           then each of the n places is the step of that place of X
--     panel_past           the places past n are 0, also where refused
use Rattle.std.specs.Prelude.{ℕ, suc, ◌+◌, ◌*◌, ◌≤◌, ◌<◌, ◌≡◌, refl, Bool, true, false, ℤ, pos, negsuc, nat_abs, ◌-ℤ◌, ◌*ℤ◌, get_or}
use Rattle.std.proofs.Common.{◌∙◌, ap, arith, mul-le-mul_left}
use Rattle.std.proofs.Math.Decide.{dec_lt}
use Rattle.std.proofs.Math.Nat.{mul-div-le, lt-mul-div-succ, lt_of_mul-lt-mul_left, le_of_mul-le-mul_left}
use Rattle.integers.specs.Solver.{◌⊕◌, ◌⊖◌, ◌⊗◌, ⊝◌, #◌, ◌≈◌, ring}
use Rattle.integers.specs.Order.{◌≍◌, linear}
use Rattle.integers.specs.Absolute.{abs_ℕ, abs_neg, abs_mul, abs_sub, abs_add, abs_same}
use Rattle.refusal.specs.Number.{outside_limits}
use Rattle.limits.specs.Limits.{channel_limit, coordinate_limit, centre_limit}
use Rattle.geometry.specs.Places.{centre_of}
use Rattle.geometry.specs.PlacesLaws.{centre_list_at, centre_list_past, zeros-at}
use Rattle.channel.specs.Channel.{Types}
use Rattle.envelope.specs.Figures.{figures_known}
use Rattle.envelope.specs.FigureLaws.{known-within}
use Rattle.envelope.specs.declared.Figures.{Figures}
use Rattle.panel_steps.specs.Panel.{nearest_magnitude, nearest_step, refused_panel, panel_of, panel_shown, PanelShown}

-- ---- the nearest whole number

abbrev pub distance_to : ℕ → ℤ → ℤ → ℕ
distance_to D z w = nat_abs (pos D *ℤ w -ℤ z)

module _ (D : ℕ) (positive : 0 < D) where
  -- at most a half too high, and less than a half too low
  magnitude_near : (k : ℕ) → (2 * (D * nearest_magnitude D k) ≤ 2 * k + D) × (2 * k < 2 * (D * nearest_magnitude D k) + D)
  magnitude_near k = omega (arith, mul-div-le (2 * k + D) (2 * D), lt-mul-div-succ (2 * k + D) {b = 2 * D} (omega arith))

  magnitude_most : (k : ℕ) → k ≤ centre_limit D → nearest_magnitude D k ≤ coordinate_limit
  magnitude_most k h =
      let below : nearest_magnitude D k < suc coordinate_limit = lt_of_mul-lt-mul_left D (omega (arith, (magnitude_near k).0)) in
      omega arith

  step_magnitude : (z : ℤ) → nat_abs (nearest_step D z) ≡ nearest_magnitude D (nat_abs z)
  step_magnitude (pos k) = refl
  step_magnitude (negsuc k) = abs_neg (pos (nearest_magnitude D (suc k)))

  pub nearest_most : (z : ℤ) → nat_abs z ≤ centre_limit D → nat_abs (nearest_step D z) ≤ coordinate_limit
  nearest_most z h = omega (arith, step_magnitude z, magnitude_most (nat_abs z) h)

  -- the step is at most a half away
  magnitude_half : (k : ℕ) → 2 * distance_to D (pos k) (pos (nearest_magnitude D k)) ≤ D
  magnitude_half k =
      let product = D * nearest_magnitude D k in
      let gap = pos product -ℤ pos k in
      omega (
        arith,
        abs_mul (pos 2) gap,
        (abs_ℕ (pos 2 *ℤ gap) D).1
            (omega (arith, (linear 3 (λ s a b. s ≍ # (pos 2) ⊗ (a ⊖ b)) (pos 2 *ℤ gap) (pos product) (pos k)).0 refl, magnitude_near k)),
      )

  step-half : (z : ℤ) → 2 * distance_to D z (nearest_step D z) ≤ D
  step-half (pos k) = magnitude_half k
  step-half (negsuc k) =
      let q = pos (nearest_magnitude D (suc k)) in
      omega (
        arith,
        magnitude_half (suc k),
        abs_neg (pos D *ℤ q -ℤ pos (suc k)),
        ap nat_abs (ring 3 (λ d q k. d ⊗ ⊝ q ⊖ ⊝ k ≈ ⊝ (d ⊗ q ⊖ k)) tt (pos D) q (pos (suc k))),
      )

  module _ (z w : ℤ) where
    -- in units of 1/D two whole numbers are D times their difference apart
    apart : (D * nat_abs (w -ℤ nearest_step D z) ≤ distance_to D z w + distance_to D z (nearest_step D z))
        × (distance_to D z (nearest_step D z) ≤ distance_to D z w + D * nat_abs (w -ℤ nearest_step D z))
    apart =
        let q = nearest_step D z in
        let scaled = abs_mul (pos D) (w -ℤ q) in (
          omega (
            arith,
            scaled,
            abs_sub (pos D *ℤ w -ℤ z) (pos D *ℤ q -ℤ z),
            ap nat_abs (ring 4 (λ d w q z. d ⊗ (w ⊖ q) ≈ (d ⊗ w ⊖ z) ⊖ (d ⊗ q ⊖ z)) tt (pos D) w q z),
          ),
          omega (
            arith,
            scaled,
            abs_sub (pos D *ℤ w -ℤ z) (pos D *ℤ (w -ℤ q)),
            ap nat_abs (ring 4 (λ d w q z. d ⊗ q ⊖ z ≈ (d ⊗ w ⊖ z) ⊖ d ⊗ (w ⊖ q)) tt (pos D) w q z),
          ),
        )

    pub nearest_least : distance_to D z (nearest_step D z) ≤ distance_to D z w
    nearest_least = go (dec_lt 0 (nat_abs (w -ℤ nearest_step D z)))
      where
        go : Dec (0 < nat_abs (w -ℤ nearest_step D z)) → distance_to D z (nearest_step D z) ≤ distance_to D z w
        go (yes l) = omega (arith, apart.0, mul-le-mul_left D l, step-half z)
        go (no l) =
            let none : nat_abs (w -ℤ nearest_step D z) ≡ 0 = omega arith in
            omega (arith, apart.1, ap (λ x. D * x) none)

    -- a whole number that is as near is no further from 0
    as_near : distance_to D z w ≤ distance_to D z (nearest_step D z) → nat_abs w ≤ nat_abs (nearest_step D z)
    as_near h =
        let sum = abs_add (pos D *ℤ w -ℤ z) z in
        let same = ap nat_abs (ring 3 (λ d w z. d ⊗ w ≈ (d ⊗ w ⊖ z) ⊕ z) tt (pos D) w z) in
        let below : nat_abs w < suc (nearest_magnitude D (nat_abs z)) =
        lt_of_mul-lt-mul_left D (omega (arith, sum, same, abs_mul (pos D) w, step-half z, (magnitude_near (nat_abs z)).1)) in
        omega (arith, step_magnitude z)

    pub nearest_away : distance_to D z w ≡ distance_to D z (nearest_step D z) → nat_abs w ≤ nat_abs (nearest_step D z)
    nearest_away e = as_near (omega arith)

    pub nearest_unique : ((v : ℤ) → distance_to D z w ≤ distance_to D z v)
        → ((v : ℤ) → distance_to D z v ≡ distance_to D z w → nat_abs v ≤ nat_abs w) → w ≡ nearest_step D z
    nearest_unique least away =
        let q = nearest_step D z in
        let equally : distance_to D z q ≡ distance_to D z w = omega (arith, least q, nearest_least) in
        let one : nat_abs (w -ℤ q) ≤ 1 = le_of_mul-le-mul_left (omega (arith, apart.0, step-half z)) positive in
        abs_same w q (omega (arith, as_near (least q), away q equally)) one

-- ---- the call

module _ (D : ℕ) (types : Types) (f : Figures) where
  pub panel_refuses : figures_known D types f ≡ false → panel_shown D types f ≡ refused_panel outside_limits
  unfolding panel_shown
  panel_refuses h = rw h

  pub panel_shows : figures_known D types f ≡ true → panel_shown D types f ≡ panel_of D f
  unfolding panel_shown
  panel_shows h = rw h

  -- place k of a panel, and the step of place k of X
  abbrev place : ℕ → PanelShown → ℤ
  place k r = get_or r.steps k (pos 0)

  abbrev step : ℕ → ℤ
  step k = nearest_step D (centre_of f.ball.scaled_centre k)

  pub panel_step : figures_known D types f ≡ true → (k : ℕ) → k < f.n → place k (panel_shown D types f) ≡ step k
  panel_step h k l = ap (place k) (panel_shows h) ∙ centre_list_at f.n step k (known-within D types f h).channels l

  pub panel_past : (k : ℕ) → f.n ≤ k → place k (panel_shown D types f) ≡ pos 0
  panel_past k l = go (figures_known D types f) refl
    where
      go : (b : Bool) → figures_known D types f ≡ b → place k (panel_shown D types f) ≡ pos 0
      go true h = ap (place k) (panel_shows h) ∙ centre_list_past f.n step k l
      go false h = ap (place k) (panel_refuses h) ∙ zeros-at channel_limit k
