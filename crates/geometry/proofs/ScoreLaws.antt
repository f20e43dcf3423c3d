-- Laws of e, the weighted squared distance of a row, for any rows a, weights w and total D above 0 that the weights sum to.
--     score_distance            D e ≡ L + s
--     score_order               e orders the rows as s does
--     score_far, score_near     so that the far and the near row are those of e
--     score_difference          g is e of the far row less e of the near row
--     score_radius              M is D times e of the far row, less L
--     score_most                e is at most D times what every squared distance is at most
-- For any weights, whatever their sum:
--     score_part                a weight times its squared distance is at most e
--     score_first               with all weight on one row, e is that weight times the squared distance to it
--     score_moved               e after t has moved from one row to another
-- Of a table within limits:
--     separation-within         the squared distance of any two rows is within the limit on d²
--     score_within              e of weights of sum D is within the limit on g
use Prim.Native.Nat.{ℕ, ◌+◌, ◌*◌, ◌-◌, ◌≤◌, ◌<◌}
use Rattle.std.specs.Prelude.{◌≡◌, refl, ◌≢◌, Bool, true, false, List, ℤ, ◌+ℤ◌, ◌-ℤ◌, ◌*ℤ◌, length}
use Rattle.std.proofs.Math.Path.{sym, ap}
use Rattle.std.proofs.Common.{◌∙◌, ltb-true, ltb-false, lt-ltb, le-ltb}
use native.Mathlib.Omega.{arith}
use Rattle.std.proofs.Math.Nat.{mul-le-mul_left, mul-sub, mul_comm, zero-mul, div-eq_of_eq-mul_right, mul-lt-mul_of_pos_left}
use Rattle.std.proofs.Math.Dec.{ltb}
use Rattle.std.proofs.Math.IntN.{pos}
use Rattle.integers.specs.Sum.{sumℕ, square}
use Rattle.integers.specs.Ring.{pos_inj}
use Rattle.integers.specs.Solver.{ring, ◌⊕◌, ◌⊖◌, ◌⊗◌, #◌, ◌≈◌}
use Rattle.integers.specs.SumLaws.{sumℕ_cong, sumℕ_mono, sumℕ_mul_left, sumℕ_term, sumℕ_zero, sumℕ_change, pos_sum}
use Rattle.integers.specs.Absolute.{abs_sub, square_pos}
use Rattle.geometry.specs.Figures.{squared_length, squared_distance, scaled_centre, scaled_squared_distance, scaled_squared_radius, scaled_lower_bound}
use Rattle.geometry.specs.Select.{farthest, nearest}
use Rattle.geometry.specs.Move.{scaled_squared_distance_of, far_row, near_row, difference, weight_of, move_weight}
use Rattle.geometry.specs.Scores.{weighted_squared_distance}
use Rattle.geometry.specs.Table.{coordinate}
use Rattle.geometry.specs.Places.{weights_total}
use Rattle.geometry.specs.Clauses.{Table, WeightsOf}
use Rattle.limits.specs.Limits.{coordinate_limit, separation_limit, difference_limit}
use Rattle.geometry.proofs.FigureLaws.{squared_length_bound, moment}
use Rattle.geometry.specs.SelectLaws.{farthest_agree, nearest_agree}
use Rattle.geometry.proofs.MoveLaws.{radius_far, move_weight_sum}

-- ---- the square of a difference, taken either way

square-turned : (x y : ℤ) → square (pos 1 *ℤ x -ℤ y) ≡ square (y -ℤ x)
square-turned x y = pos_inj (square_pos (pos 1 *ℤ x -ℤ y) ∙ turned x y ∙ sym (square_pos (y -ℤ x)))
  where
    turned : (x y : ℤ) → (pos 1 *ℤ x -ℤ y) *ℤ (pos 1 *ℤ x -ℤ y) ≡ (y -ℤ x) *ℤ (y -ℤ x)
    turned = ring 2 (λ x y. (# (pos 1) ⊗ x ⊖ y) ⊗ (# (pos 1) ⊗ x ⊖ y) ≈ (y ⊖ x) ⊗ (y ⊖ x)) tt

-- ---- e and s

module _ (D m n : ℕ) (a : ℕ → ℕ → ℤ) (w : ℕ → ℕ) (positive : 0 < D) (sum : sumℕ m w ≡ D) where
  abbrev e : ℕ → ℕ
  e = weighted_squared_distance m n a w

  abbrev s : ℕ → ℕ
  s = scaled_squared_distance_of D m n a w

  -- the moment of the rows about row i
  pub score_distance : (i : ℕ) → D * weighted_squared_distance m n a w i ≡ scaled_lower_bound D m n a w + scaled_squared_distance_of D m n a w i
  unfolding weighted_squared_distance scaled_squared_distance_of scaled_squared_distance squared_distance squared_length
  score_distance i =
      let X = scaled_centre a w m in
      let about : sumℕ m (λ j. w j * sumℕ n (λ k. square (pos 1 *ℤ a j k -ℤ a i k))) ≡ sumℕ m (λ j. w j * sumℕ n (λ k. square (a i k -ℤ a j k))) =
      sumℕ_cong m (λ j _. ap (λ x. w j * x) (sumℕ_cong n (λ k _. square-turned (a j k) (a i k)))) in
      let centre : sumℕ n (λ k. square (pos 1 *ℤ X k -ℤ pos D *ℤ a i k)) ≡ sumℕ n (λ k. square (pos D *ℤ a i k -ℤ X k)) =
      sumℕ_cong n (λ k _. square-turned (X k) (pos D *ℤ a i k)) in
      omega (arith, ap (λ x. D * x) about, moment D m n a w sum positive 1 (a i), centre)

  -- a common multiple, L added, changes no order
  pub score_order : (j i : ℕ) → ltb (weighted_squared_distance m n a w j) (weighted_squared_distance m n a w i)
      ≡ ltb (scaled_squared_distance_of D m n a w j) (scaled_squared_distance_of D m n a w i)
  score_order j i = go (ltb (e j) (e i)) refl
    where
      go : (b : Bool) → ltb (e j) (e i) ≡ b → b ≡ ltb (s j) (s i)
      go true h =
          sym (lt-ltb (s j) (s i)
          (omega (arith, score_distance j, score_distance i, mul-lt-mul_of_pos_left {k = D} (ltb-true (e j) (e i) h) positive)))
      go false h =
          sym (le-ltb (s j) (s i)
          (omega (arith, score_distance j, score_distance i, mul-le-mul_left D (ltb-false (e j) (e i) h))))

  pub score_far : far_row D m n a w ≡ farthest ltb (weighted_squared_distance m n a w) m
  unfolding far_row
  score_far = farthest_agree ltb s ltb e m (λ j i _ _. sym (score_order j i))

  pub score_near : near_row D m n a w ≡ nearest ltb w (weighted_squared_distance m n a w) m
  unfolding near_row
  score_near = nearest_agree ltb w s ltb w e m (λ i _. refl) (λ j i _ _. sym (score_order j i))

  module _ (some : 0 < m) where
    pub score_difference : difference D m n a w
        ≡ weighted_squared_distance m n a w (far_row D m n a w) - weighted_squared_distance m n a w (near_row D m n a w)
    unfolding difference
    score_difference =
        let far = far_row D m n a w in
        let near = near_row D m n a w in
        div-eq_of_eq-mul_right positive (omega (arith, score_distance far, score_distance near, mul-sub D (e far) (e near)))

    pub score_radius : scaled_squared_radius D m n a (scaled_centre a w m) ≡ D * weighted_squared_distance m n a w (far_row D m n a w) - scaled_lower_bound D m n a w
    score_radius = omega (arith, radius_far D m n a w some, score_distance (far_row D m n a w))

  pub score_most : (B i : ℕ) → ((j : ℕ) → j < m → squared_distance n (a i) (a j) ≤ B) → weighted_squared_distance m n a w i ≤ B * D
  unfolding weighted_squared_distance
  score_most B i h =
      let scaled : sumℕ m (λ j. B * w j) ≡ B * D = sumℕ_mul_left B w m ∙ ap (λ (x : ℕ). B * x) sum in
      let each : sumℕ m (λ j. w j * squared_distance n (a i) (a j)) ≤ sumℕ m (λ j. B * w j) =
      sumℕ_mono m (λ j l. omega (arith, mul-le-mul_left (w j) (h j l), mul_comm (w j) B)) in
      omega arith

-- ---- any weights

module _ (m n : ℕ) (a : ℕ → ℕ → ℤ) where
  pub score_part : (w : ℕ → ℕ) (i j : ℕ) → j < m → w j * squared_distance n (a i) (a j) ≤ weighted_squared_distance m n a w i
  unfolding weighted_squared_distance
  score_part w i j l = sumℕ_term (λ j. w j * squared_distance n (a i) (a j)) m j l

  pub score_first : (w : ℕ → ℕ) (f : ℕ) → f < m → ((j : ℕ) → j < m → j ≢ f → w j ≡ 0)
      → (i : ℕ) → weighted_squared_distance m n a w i ≡ w f * squared_distance n (a i) (a f)
  unfolding weighted_squared_distance
  score_first w f l none i =
      omega (
        arith,
        sumℕ_change (λ j. 0) (λ j. w j * squared_distance n (a i) (a j)) m f l
            (λ j h ne. ap (λ (x : ℕ). x * squared_distance n (a i) (a j)) (none j h ne) ∙ zero-mul (squared_distance n (a i) (a j))),
        sumℕ_zero m,
      )

  -- e changes by t times (the squared distance to the row that gains t, less that to the row that loses it)
  pub score_moved : (ws : List ℕ) (t from to : ℕ) → m ≤ length ws → from < m → to < m → t ≤ weight_of ws from
      → (i : ℕ) → weighted_squared_distance m n a (weight_of (move_weight t from to ws)) i + t * squared_distance n (a i) (a from)
      ≡ weighted_squared_distance m n a (weight_of ws) i + t * squared_distance n (a i) (a to)
  unfolding weighted_squared_distance
  score_moved ws t from to most hf ht capped i =
      let d : ℕ → ℕ = λ j. squared_distance n (a i) (a j) in
      let after = weight_of (move_weight t from to ws) in
      pos_inj
      (ap (λ (x : ℤ). x +ℤ pos t *ℤ pos (d from))
      (pos_sum m (λ j. after j * d j) ∙ move_weight_sum ws m t from to most hf ht capped (λ j. pos (d j)) ∙
      ap (λ (x : ℤ). x +ℤ pos t *ℤ (pos (d to) -ℤ pos (d from))) (sym (pos_sum m (λ j. weight_of ws j * d j))))
      ∙ regroup (pos (sumℕ m (λ j. weight_of ws j * d j))) (pos t) (pos (d to)) (pos (d from)))
    where
      regroup : (S t x y : ℤ) → S +ℤ t *ℤ (x -ℤ y) +ℤ t *ℤ y ≡ S +ℤ t *ℤ x
      regroup = ring 4 (λ S t x y. S ⊕ t ⊗ (x ⊖ y) ⊕ t ⊗ y ≈ S ⊕ t ⊗ x) tt

-- ---- rows within limits

module _ {rows : List ℤ} {m n : ℕ} (t : Table rows m n) where
  pub separation-within : (i j : ℕ) → i < m → j < m → squared_distance n (coordinate rows n i) (coordinate rows n j) ≤ separation_limit
  unfolding squared_distance
  separation-within i j hi hj =
      let a = coordinate rows n in
      omega (
        arith,
        squared_length_bound n (2 * coordinate_limit) (λ k. a i k -ℤ a j k)
            (λ k l. omega (arith, abs_sub (a i k) (a j k), t.bound i k hi l, t.bound j k hj l)),
        t.channels,
      )

  pub score_within : {D : ℕ} {ws : List ℕ} → 0 < D → WeightsOf D m ws → (i : ℕ) → i < m
      → weighted_squared_distance m n (coordinate rows n) (weight_of ws) i ≤ difference_limit D
  unfolding weights_total
  score_within {D} {ws} positive g i l =
      score_most D m n (coordinate rows n) (weight_of ws) positive g.sum separation_limit i (λ j h. separation-within i j l h)
