-- Laws of the figures, for any rows a, weights w and total D above 0 that the weights sum to.
--     squared_length_cong, squared_length_bound        only the first n coordinates count; a bound from one on each
--     squared_length_zero                             it is 0 where they are
--     length_ℤ                                       a squared length in ℤ
--     distance_cong                                  only the first n coordinates of X and of the row count in s
--     distance_centre_list                            s by the list of X
--     centre_most_lem, centre_at_most, centre_within     X is within its limit
--     distance_most                                  s is within its limit, for any bound on the coordinates
--     moment                                         D Σ w |q a - Y|² ≡ q² L + |q X - D Y|²
--     lower_bound_ℤ                                  L in ℤ: nothing is cut off
--     centre_length_most                             what is subtracted in L is at most what it is subtracted from
--     mean_distance                                  Σ w s ≡ D L
use Rattle.std.specs.Prelude.{ℕ, ◌+◌, ◌*◌, ◌≤◌, ◌<◌, ◌≡◌, List, ℤ, nat_abs, ◌*ℤ◌}
use Rattle.std.proofs.Common.{zero-le, ◌∙◌, arith, mul-le-mul, mul-le-mul_left, mul_comm}
use Rattle.std.proofs.Math.Path.{refl, sym, ap, ap₂}
use Rattle.std.proofs.Math.Nat.{mul_assoc, eq_of_mul-eq-mul_left}
use Rattle.std.proofs.Math.IntN.{pos, neg_ℤ, ◌+ℤ◌, ◌-ℤ◌, +ℤ_idr, *ℤ-zero}
use Rattle.integers.specs.Sum.{sumℤ, sumℕ, square}
use Rattle.integers.specs.Ring.{pos_inj, pos_sub, -ℤ-self}
use Rattle.integers.specs.Solver.{ring, ◌⊕◌, ◌⊖◌, ◌⊗◌, ⊝◌, #◌, ◌≈◌}
use Rattle.integers.specs.Order.{◌⊑◌, pos_le, pos_le_inv, ⊑-eq, ⊑-cancel, ⊑_trans, sub_nn}
use Rattle.integers.specs.SumLaws.{sumℤ_cong, sumℕ_cong, sumℕ_mono, sumℕ_bound, sumℕ_zero, sumℕ_mul_left, sumℤ_add, sumℤ_sub, sumℤ_mul_left, sumℤ_swap, pos_sum}
use Rattle.integers.specs.Absolute.{abs_mul, abs_sub, abs_sum, square_pos, square_le}
use Rattle.geometry.specs.Figures.{squared_length, scaled_centre, scaled_squared_distance, weighted_squared_length, scaled_lower_bound}
use Rattle.geometry.specs.Move.{weight_of}
use Rattle.geometry.specs.Table.{coordinate}
use Rattle.limits.specs.Limits.{channel_limit, total, coordinate_limit, centre_limit}
use Rattle.geometry.specs.Places.{centre_list, centre_of, weights_total}
use Rattle.geometry.specs.Clauses.{CentreWithin, Table, WeightsWithin}
use Rattle.geometry.specs.PlacesLaws.{length_centre_list, centre_list_at, centre_list_most}

-- ---- squared lengths

pub squared_length_cong : (n : ℕ) {u v : ℕ → ℤ} → ((k : ℕ) → k < n → u k ≡ v k) → squared_length n u ≡ squared_length n v
unfolding squared_length
squared_length_cong n h = sumℕ_cong n (λ k l. ap square (h k l))

pub squared_length_bound : (n B : ℕ) (v : ℕ → ℤ) → ((k : ℕ) → k < n → nat_abs (v k) ≤ B) → squared_length n v ≤ n * (B * B)
unfolding squared_length
squared_length_bound n B v h = sumℕ_bound n (B * B) (λ k l. square_le (v k) (h k l))

pub squared_length_zero : (n : ℕ) (v : ℕ → ℤ) → ((k : ℕ) → k < n → v k ≡ pos 0) → squared_length n v ≡ 0
unfolding squared_length square
squared_length_zero n v h = sumℕ_cong n (λ k l. ap square (h k l)) ∙ sumℕ_zero n

pub length_ℤ : (n : ℕ) (v : ℕ → ℤ) → pos (squared_length n v) ≡ sumℤ n (λ k. v k *ℤ v k)
unfolding squared_length
length_ℤ n v = pos_sum n (λ k. square (v k)) ∙ sumℤ_cong n (λ k l. square_pos (v k))

pub distance_cong : (D n : ℕ) {X Y p q : ℕ → ℤ} → ((k : ℕ) → k < n → X k ≡ Y k) → ((k : ℕ) → k < n → p k ≡ q k)
    → scaled_squared_distance D n X p ≡ scaled_squared_distance D n Y q
unfolding scaled_squared_distance
distance_cong D n e f = squared_length_cong n (λ k l. ap₂ (λ (x y : ℤ). pos D *ℤ y -ℤ x) (e k l) (f k l))

pub distance_centre_list : (D n : ℕ) (X p : ℕ → ℤ) → n ≤ channel_limit
    → scaled_squared_distance D n (centre_of (centre_list n X)) p ≡ scaled_squared_distance D n X p
distance_centre_list D n X p most = distance_cong D n (λ k l. centre_list_at n X k most l) (λ k l. refl)

-- ---- limits

pub centre_most_lem : (D m C k : ℕ) (a : ℕ → ℕ → ℤ) (w : ℕ → ℕ) → sumℕ m w ≡ D → ((i : ℕ) → i < m → nat_abs (a i k) ≤ C)
    → nat_abs (scaled_centre a w m k) ≤ C * D
unfolding scaled_centre
centre_most_lem D m C k a w sum h =
    let most : sumℕ m (λ i. nat_abs (pos (w i) *ℤ a i k)) ≤ sumℕ m (λ i. C * w i) =
    sumℕ_mono m (λ i l. omega (arith, abs_mul (pos (w i)) (a i k), mul-le-mul_left (w i) (h i l), mul_comm (w i) C)) in
    let scaled : sumℕ m (λ i. C * w i) ≡ C * D = sumℕ_mul_left C w m ∙ ap (λ (x : ℕ). C * x) sum in
    omega (arith, abs_sum m (λ i. pos (w i) *ℤ a i k))

-- s of a row of coordinates within C, under X of weights of such rows with a sum of at most B, for a total D of at most B
pub distance_most : (D B n C : ℕ) (X p : ℕ → ℤ) → D ≤ B → ((k : ℕ) → k < n → nat_abs (p k) ≤ C) → ((k : ℕ) → k < n → nat_abs (X k) ≤ C * B)
    → scaled_squared_distance D n X p ≤ n * ((2 * (C * B)) * (2 * (C * B)))
unfolding scaled_squared_distance
distance_most D B n C X p most hp hX =
    squared_length_bound n (2 * (C * B)) (λ k. pos D *ℤ p k -ℤ X k)
    (λ k l. omega (arith, abs_sub (pos D *ℤ p k) (X k), abs_mul (pos D) (p k), mul-le-mul most (hp k l), mul_comm B C, hX k l))

module _ {rows : List ℤ} {m n : ℕ} {ws : List ℕ} (t : Table rows m n) where
  -- X of weights of a sum of at most B
  pub centre_at_most : {B : ℕ} → WeightsWithin B m ws → (k : ℕ) → k < n → nat_abs (scaled_centre (coordinate rows n) (weight_of ws) m k) ≤ centre_limit B
  unfolding weights_total
  centre_at_most g k l =
      omega (arith, centre_most_lem (weights_total m ws) m coordinate_limit k (coordinate rows n) (weight_of ws) refl (λ i h. t.bound i k h l), g.most)

  -- `total` is the bound of the machine's numbers whatever the sum
  pub centre_within : WeightsWithin total m ws → CentreWithin n (centre_list n (scaled_centre (coordinate rows n) (weight_of ws) m))
  centre_within g =
      record {
        places = omega (arith, length_centre_list n (scaled_centre (coordinate rows n) (weight_of ws) m), t.channels);
        bound = λ k l. centre_list_most n (centre_limit total) (scaled_centre (coordinate rows n) (weight_of ws) m) t.channels (centre_at_most g) k;
      }

-- ---- the moment of weighted rows about any point

-- one channel of one row
term : (w q a y : ℤ) → w *ℤ ((q *ℤ a -ℤ y) *ℤ (q *ℤ a -ℤ y)) ≡ q *ℤ q *ℤ (w *ℤ (a *ℤ a)) +ℤ neg_ℤ (pos 2 *ℤ q *ℤ y) *ℤ (w *ℤ a) +ℤ y *ℤ y *ℤ w
term = ring 4 (λ w q a y. w ⊗ ((q ⊗ a ⊖ y) ⊗ (q ⊗ a ⊖ y)) ≈ q ⊗ q ⊗ (w ⊗ (a ⊗ a)) ⊕ ⊝ (# (pos 2) ⊗ q ⊗ y) ⊗ (w ⊗ a) ⊕ y ⊗ y ⊗ w) tt

-- one channel of all rows, summed
expand : (D q y A X : ℤ) → D *ℤ (q *ℤ q *ℤ A +ℤ neg_ℤ (pos 2 *ℤ q *ℤ y) *ℤ X +ℤ y *ℤ y *ℤ D) ≡ q *ℤ q *ℤ (D *ℤ A -ℤ X *ℤ X) +ℤ (q *ℤ X -ℤ D *ℤ y) *ℤ (q *ℤ X -ℤ D *ℤ y)
expand = ring 5 (λ D q y A X. D ⊗ (q ⊗ q ⊗ A ⊕ ⊝ (# (pos 2) ⊗ q ⊗ y) ⊗ X ⊕ y ⊗ y ⊗ D) ≈ q ⊗ q ⊗ (D ⊗ A ⊖ X ⊗ X) ⊕ (q ⊗ X ⊖ D ⊗ y) ⊗ (q ⊗ X ⊖ D ⊗ y)) tt

-- the weighted sum of the squared lengths of v of the rows
weighted_ℤ : (m n : ℕ) (w : ℕ → ℕ) (v : ℕ → ℕ → ℤ)
    → pos (sumℕ m (λ i. w i * squared_length n (v i))) ≡ sumℤ n (λ k. sumℤ m (λ i. pos (w i) *ℤ (v i k *ℤ v i k)))
weighted_ℤ m n w v =
    pos_sum m (λ i. w i * squared_length n (v i)) ∙ sumℤ_cong m (λ i l. each i)
    ∙ sumℤ_swap (λ i k. pos (w i) *ℤ (v i k *ℤ v i k)) m n
  where
    each : (i : ℕ) → pos (w i * squared_length n (v i)) ≡ sumℤ n (λ k. pos (w i) *ℤ (v i k *ℤ v i k))
    each i =
        ap (λ (x : ℤ). pos (w i) *ℤ x) (length_ℤ n (v i)) ∙ sym (sumℤ_mul_left (pos (w i)) (λ k. v i k *ℤ v i k) n)

module _ (D m n : ℕ) (a : ℕ → ℕ → ℤ) (w : ℕ → ℕ) (sum : sumℕ m w ≡ D) where
  X : ℕ → ℤ
  X = scaled_centre a w m

  -- the second moment of channel k, and its part of L
  second : ℕ → ℤ
  second k = sumℤ m (λ i. pos (w i) *ℤ (a i k *ℤ a i k))

  channel_bound : ℕ → ℤ
  channel_bound k = pos D *ℤ second k -ℤ X k *ℤ X k

  channel : (q y : ℤ) (k : ℕ)
      → pos D *ℤ sumℤ m (λ i. pos (w i) *ℤ ((q *ℤ a i k -ℤ y) *ℤ (q *ℤ a i k -ℤ y)))
      ≡ q *ℤ q *ℤ channel_bound k +ℤ (q *ℤ X k -ℤ pos D *ℤ y) *ℤ (q *ℤ X k -ℤ pos D *ℤ y)
  unfolding X second channel_bound scaled_centre
  channel q y k =
      ap (λ (x : ℤ). pos D *ℤ x)
      (sumℤ_cong m (λ i l. term (pos (w i)) q (a i k) y)
      ∙ sumℤ_add (λ i. q *ℤ q *ℤ (pos (w i) *ℤ (a i k *ℤ a i k)) +ℤ neg_ℤ (pos 2 *ℤ q *ℤ y) *ℤ (pos (w i) *ℤ a i k)) (λ i. y *ℤ y *ℤ pos (w i)) m
      ∙ ap₂ ◌+ℤ◌
      (sumℤ_add (λ i. q *ℤ q *ℤ (pos (w i) *ℤ (a i k *ℤ a i k))) (λ i. neg_ℤ (pos 2 *ℤ q *ℤ y) *ℤ (pos (w i) *ℤ a i k)) m
      ∙ ap₂ ◌+ℤ◌ (sumℤ_mul_left (q *ℤ q) (λ i. pos (w i) *ℤ (a i k *ℤ a i k)) m) (sumℤ_mul_left (neg_ℤ (pos 2 *ℤ q *ℤ y)) (λ i. pos (w i) *ℤ a i k) m))
      (sumℤ_mul_left (y *ℤ y) (λ i. pos (w i)) m ∙ ap (λ (x : ℤ). y *ℤ y *ℤ x) (sym (pos_sum m w) ∙ ap pos sum)))
      ∙ expand (pos D) q y (second k) (X k)

  lower : ℤ
  lower = sumℤ n channel_bound

  lower_is : lower ≡ pos (D * weighted_squared_length m n a w) -ℤ pos (squared_length n X)
  unfolding lower channel_bound second weighted_squared_length
  lower_is =
      sumℤ_sub (λ k. pos D *ℤ second k) (λ k. X k *ℤ X k) n
      ∙ ap₂ ◌-ℤ◌ (sumℤ_mul_left (pos D) second n ∙ ap (λ (x : ℤ). pos D *ℤ x) (sym (weighted_ℤ m n w a))) (sym (length_ℤ n X))

  moment_ℤ : (q : ℤ) (Y : ℕ → ℤ)
      → pos D *ℤ pos (sumℕ m (λ i. w i * squared_length n (λ k. q *ℤ a i k -ℤ Y k)))
      ≡ q *ℤ q *ℤ lower +ℤ pos (squared_length n (λ k. q *ℤ X k -ℤ pos D *ℤ Y k))
  unfolding lower
  moment_ℤ q Y =
      ap (λ (x : ℤ). pos D *ℤ x) (weighted_ℤ m n w (λ i k. q *ℤ a i k -ℤ Y k))
      ∙ sym (sumℤ_mul_left (pos D) (λ k. sumℤ m (λ i. pos (w i) *ℤ ((q *ℤ a i k -ℤ Y k) *ℤ (q *ℤ a i k -ℤ Y k)))) n)
      ∙ sumℤ_cong n (λ k l. channel q (Y k) k)
      ∙ sumℤ_add (λ k. q *ℤ q *ℤ channel_bound k) (λ k. (q *ℤ X k -ℤ pos D *ℤ Y k) *ℤ (q *ℤ X k -ℤ pos D *ℤ Y k)) n
      ∙ ap₂ ◌+ℤ◌ (sumℤ_mul_left (q *ℤ q) channel_bound n) (sym (length_ℤ n (λ k. q *ℤ X k -ℤ pos D *ℤ Y k)))

  -- about the centre itself
  moment_centre : pos D *ℤ pos (sumℕ m (λ i. w i * scaled_squared_distance D n X (a i))) ≡ pos D *ℤ pos D *ℤ lower
  unfolding scaled_squared_distance
  moment_centre =
      moment_ℤ (pos D) X
      ∙ ap (λ (x : ℕ). pos D *ℤ pos D *ℤ lower +ℤ pos x) (squared_length_zero n (λ k. pos D *ℤ X k -ℤ pos D *ℤ X k) (λ k l. -ℤ-self (pos D *ℤ X k)))
      ∙ +ℤ_idr (pos D *ℤ pos D *ℤ lower)

  module _ (positive : 0 < D) where
    lower_nn : pos 0 ⊑ lower
    lower_nn =
        ⊑-cancel (pos D *ℤ pos D) (pos 0) lower (pos_le (mul-le-mul positive positive))
        (⊑_trans (⊑-eq (*ℤ-zero (pos D *ℤ pos D))) (⊑_trans (pos_le zero-le) (⊑-eq moment_centre)))

    pub centre_length_most : squared_length n (scaled_centre a w m) ≤ D * weighted_squared_length m n a w
    unfolding X
    centre_length_most =
        pos_le_inv ((sub_nn (pos (squared_length n X)) (pos (D * weighted_squared_length m n a w))).1 (⊑_trans lower_nn (⊑-eq lower_is)))

    -- L with the difference taken in ℤ
    pub lower_bound_ℤ : pos (scaled_lower_bound D m n a w) ≡ pos (D * weighted_squared_length m n a w) -ℤ pos (squared_length n (scaled_centre a w m))
    unfolding scaled_lower_bound
    lower_bound_ℤ = pos_sub (D * weighted_squared_length m n a w) (squared_length n (scaled_centre a w m)) centre_length_most

    lower_is_bound : lower ≡ pos (scaled_lower_bound D m n a w)
    unfolding X
    lower_is_bound = lower_is ∙ sym lower_bound_ℤ

    -- the weighted squared distances of the rows from any point Y/q
    pub moment : (q : ℕ) (Y : ℕ → ℤ)
        → D * sumℕ m (λ i. w i * squared_length n (λ k. pos q *ℤ a i k -ℤ Y k))
        ≡ q * q * scaled_lower_bound D m n a w + squared_length n (λ k. pos q *ℤ scaled_centre a w m k -ℤ pos D *ℤ Y k)
    unfolding X
    moment q Y =
        pos_inj
        (moment_ℤ (pos q) Y
        ∙ ap (λ (x : ℤ). pos q *ℤ pos q *ℤ x +ℤ pos (squared_length n (λ k. pos q *ℤ X k -ℤ pos D *ℤ Y k))) lower_is_bound)

    -- the weighted mean of s is L
    pub mean_distance : sumℕ m (λ i. w i * scaled_squared_distance D n (scaled_centre a w m) (a i)) ≡ D * scaled_lower_bound D m n a w
    unfolding X
    mean_distance =
        eq_of_mul-eq-mul_left D positive (sumℕ m (λ i. w i * scaled_squared_distance D n X (a i))) (D * scaled_lower_bound D m n a w)
        (pos_inj (moment_centre ∙ ap (λ (x : ℤ). pos D *ℤ pos D *ℤ x) lower_is_bound) ∙ mul_assoc D D (scaled_lower_bound D m n a w))
