-- Demand 3 of document 01, over any rows, any weights of sum D above 0 and m rows above 0, apart from how the weights came about.
--     rival                   3.1: D² P is at least q² L + |q X - D Y|² for every rival
--     holds_every_row         3.2: s of every row is at most M
--     reaches_some_row        3.2: s of some row equals M
--     floor_below_ball        3.2: L is at most M
--     settled_gap             3.3: where Settled, M - L is at most D times the largest squared distance between two rows
-- and the limits (2.14) for rows within C of 0:
--     ball_most, floor_most   M and L are at most n (2 C D)²
use Rattle.std.specs.Prelude.{ℕ, ◌+◌, ◌*◌, ◌-◌, ◌≤◌, ◌<◌, ◌≡◌, true, ◌⊎◌, ℤ, pos, nat_abs, ◌-ℤ◌, ◌*ℤ◌}
use Rattle.std.proofs.Common.{sym, ◌∙◌, ap, inl, inr, arith, le_refl, le_of_eq, mul_assoc, eq-zero-or-pos, leb-true}
use Rattle.std.proofs.Math.Nat.{le_trans, mul-le-mul_left, le_of_mul-le-mul_left}
use Rattle.integers.specs.Sum.{sumℕ}
use Rattle.integers.specs.SumLaws.{sumℕ_mono, sumℕ_mul_right}
use Rattle.geometry.specs.Figures.{squared_length, squared_distance, scaled_centre, scaled_squared_distance, scaled_squared_radius, scaled_lower_bound, largest, largest_squared_distance}
use Rattle.geometry.specs.Rival.{Rival}
use Rattle.geometry.specs.Move.{scaled_squared_distance_of, far_row, near_row, difference, separation, settled}
use Rattle.geometry.proofs.FigureLaws.{moment, mean_distance, centre_most_lem, distance_most}
use Rattle.geometry.specs.SelectLaws.{largest_most, largest_below, largest_reached, nearest_leastℕ}
use Rattle.geometry.proofs.MoveLaws.{difference_exact, far_within, near_within, radius_far}

-- a weighted sum of numbers of at most B, and of at least B where there is weight
weighted_most : (m D B : ℕ) (w f : ℕ → ℕ) → sumℕ m w ≡ D → ((i : ℕ) → i < m → f i ≤ B) → sumℕ m (λ i. w i * f i) ≤ D * B
weighted_most m D B w f sum h =
    le_trans (sumℕ_mono m (λ i l. mul-le-mul_left (w i) (h i l))) (le_of_eq (sumℕ_mul_right w B m ∙ ap (λ (x : ℕ). x * B) sum))

weighted_least : (m D B : ℕ) (w f : ℕ → ℕ) → sumℕ m w ≡ D → ((i : ℕ) → i < m → 0 < w i → B ≤ f i) → D * B ≤ sumℕ m (λ i. w i * f i)
weighted_least m D B w f sum h =
    le_trans (le_of_eq (sym (sumℕ_mul_right w B m ∙ ap (λ (x : ℕ). x * B) sum))) (sumℕ_mono m (λ i l. at i l (eq-zero-or-pos (w i))))
  where
    at : (i : ℕ) → i < m → (w i ≡ 0) ⊎ (0 < w i) → w i * B ≤ w i * f i
    at i l (inl e) = omega (arith, ap (λ (x : ℕ). x * B) e)
    at i l (inr p) = mul-le-mul_left (w i) (h i l p)

module _ (D m n : ℕ) (a : ℕ → ℕ → ℤ) (w : ℕ → ℕ) (positive : 0 < D) (some : 0 < m) (sum : sumℕ m w ≡ D) where
  pub rival : (Y : ℕ → ℤ) (q P : ℕ) → Rival m n a Y q P
      → q * q * scaled_lower_bound D m n a w + squared_length n (λ k. pos q *ℤ scaled_centre a w m k -ℤ pos D *ℤ Y k) ≤ D * D * P
  rival Y q P r =
      le_trans (le_of_eq (sym (moment D m n a w sum positive q Y)))
      (le_trans (mul-le-mul_left D (weighted_most m D P w (λ i. squared_length n (λ k. pos q *ℤ a i k -ℤ Y k)) sum r.holds)) (le_of_eq (sym (mul_assoc D D P))))

  pub holds_every_row : (i : ℕ) → i < m → scaled_squared_distance D n (scaled_centre a w m) (a i) ≤ scaled_squared_radius D m n a (scaled_centre a w m)
  unfolding scaled_squared_radius
  holds_every_row i h = largest_most (λ i. scaled_squared_distance D n (scaled_centre a w m) (a i)) m i h

  pub reaches_some_row : (i : ℕ) × (i < m) × (scaled_squared_distance D n (scaled_centre a w m) (a i) ≡ scaled_squared_radius D m n a (scaled_centre a w m))
  unfolding scaled_squared_radius
  reaches_some_row = largest_reached (λ i. scaled_squared_distance D n (scaled_centre a w m) (a i)) m some

  pub floor_below_ball : scaled_lower_bound D m n a w ≤ scaled_squared_radius D m n a (scaled_centre a w m)
  floor_below_ball =
      le_of_mul-le-mul_left
      (le_trans (le_of_eq (sym (mean_distance D m n a w sum positive)))
      (weighted_most m D (scaled_squared_radius D m n a (scaled_centre a w m)) w (λ i. scaled_squared_distance D n (scaled_centre a w m) (a i)) sum holds_every_row))
      positive

  near_below_floor : scaled_squared_distance_of D m n a w (near_row D m n a w) ≤ scaled_lower_bound D m n a w
  unfolding scaled_squared_distance_of near_row
  near_below_floor =
      le_of_mul-le-mul_left
      (le_trans (weighted_least m D (scaled_squared_distance_of D m n a w (near_row D m n a w)) w (scaled_squared_distance_of D m n a w) sum (nearest_leastℕ w (scaled_squared_distance_of D m n a w) m))
      (le_of_eq (mean_distance D m n a w sum positive)))
      positive

  pub settled_gap : settled D m n a w ≡ true
      → scaled_squared_radius D m n a (scaled_centre a w m) - scaled_lower_bound D m n a w ≤ D * largest_squared_distance m n a
  unfolding settled largest_squared_distance separation
  settled_gap h =
      let i = far_row D m n a w in
      let j = near_row D m n a w in
      let row : squared_distance n (a i) (a j) ≤ largest m (λ j. squared_distance n (a i) (a j)) =
      largest_most (λ j. squared_distance n (a i) (a j)) m j (near_within D m n a w some) in
      let all : largest m (λ j. squared_distance n (a i) (a j)) ≤ largest_squared_distance m n a =
      largest_most (λ i. largest m (λ j. squared_distance n (a i) (a j))) m i (far_within D m n a w some) in
      let most : difference D m n a w ≤ largest_squared_distance m n a =
      le_trans (leb-true (difference D m n a w) (separation D m n a w) h) (le_trans row all) in
      omega (arith, radius_far D m n a w some, difference_exact D m n a w positive some, near_below_floor, mul-le-mul_left D most)

  module _ (C : ℕ) (within : (i k : ℕ) → i < m → k < n → nat_abs (a i k) ≤ C) where
    pub ball_most : scaled_squared_radius D m n a (scaled_centre a w m) ≤ n * ((2 * (C * D)) * (2 * (C * D)))
    unfolding scaled_squared_radius
    ball_most =
        largest_below (λ i. scaled_squared_distance D n (scaled_centre a w m) (a i)) m (n * ((2 * (C * D)) * (2 * (C * D))))
        (λ i l. distance_most D D n C (scaled_centre a w m) (a i) (le_refl D) (λ k b. within i k l b) (λ k b. centre_most_lem D m C k a w sum (λ j c. within j k c b)))

    pub floor_most : scaled_lower_bound D m n a w ≤ n * ((2 * (C * D)) * (2 * (C * D)))
    floor_most = le_trans floor_below_ball ball_most
