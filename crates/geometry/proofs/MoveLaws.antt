-- Laws of one move, for any rows a, weights of sum D above 0, and m rows above 0.
--     inner n u v                   the inner product of two vectors
--     length_combine                the squared length of a combination of two vectors
--     distance_ℤ                    s of a row is D times its reduced score, plus |X|²
--     move_weight_sum                a weighted sum after t has moved from one row to another
--     move_weight_total              the weights' sum is kept
--     move_weight_centre             X after it
--     move_weight_length, -other     the list's length and the other weights are kept
--     move_weight_from, -to          of two different rows, one loses t and the other gains t
--     moved_by                      moving t from the near to the far row is the move
--     moved_length, moved-total     a move keeps the list's length and the weights' sum
--     moved_other                   no weight but the near and the far row's changes
--     moved-near, moved-far         where they differ, the near row loses t and the far row gains t
--     moved_sum, moved_centre       a weighted sum, and X, after a move
--     far_within, near_within       the two rows are among the m
--     radius_far, near_below_far    M is s of the far row, and s of the near row is at most that
--     difference_exact              g is whole: s far ≡ s near + D g
--     difference-within             g is within its limit
--     separation_below, -positive   d² is below g, and above 0, where the weights are not Settled
--     transfer_most                 t is at most the near row's weight
--     transfer_some                 t is above 0 where the weights are not Settled
--     transfer_gains                t d² is below g where the weights are not Settled
--     lower_bound_rises, rise_some  L rises by t (g - t d²), which is at least 1
use Rattle.std.specs.Prelude.{ℕ, ◌+◌, ◌*◌, ◌-◌, ◌/◌, ◌≤◌, ◌<◌, ◌≡◌, ◌≢◌, ◌⊎◌, false, List, ℤ, negsuc, ◌*ℤ◌, length, get_or}
use Rattle.std.proofs.Common.{zero-le, sym, ◌∙◌, inl, inr, le_refl, le-div_iff_mul-le, eq-zero-or-pos}
use Rattle.std.proofs.Math.Path.{ap, ap₂}
use native.Mathlib.Omega.{arith}
use Rattle.std.proofs.Math.Nat.{mul-le-mul, mul-le-mul_right, mul_left_comm, div-eq_of_eq-mul_right, div-le_of_le-mul, div-mul-le_self, mul-sub}
use borrow.Author.Tests.{leb-false}
use Rattle.std.proofs.Math.Dec.{ltb}
use Rattle.std.proofs.Math.IntN.{pos, ◌+ℤ◌, ◌-ℤ◌, *ℤ-zero, -ℤ-+ℤ_cancel}
use Rattle.std.proofs.Math.ListN.{set, length-set}
use Rattle.std.proofs.Math.Seq.{get_or-set_same, get_or-set_other}
use Rattle.integers.specs.Sum.{sumℤ, sumℕ, square}
use Rattle.integers.specs.Ring.{pos_inj, pos_sub, -ℤ-self, -ℤ-zero}
use Rattle.integers.specs.Solver.{ring, ◌⊕◌, ◌⊖◌, ◌⊗◌, #◌, ◌≈◌}
use Rattle.integers.specs.SumLaws.{sumℤ_cong, sumℤ_add, sumℤ_sub, sumℤ_mul_left, sumℤ_change, sumℕ-set, sumℕ_positive, sumℕ_term, pos_sum}
use Rattle.integers.specs.Order.{pos_le, ⊑-eq, ⊑_trans, ⊑-cancel, nn_pos}
use Rattle.integers.specs.Absolute.{square_zero}
use Rattle.geometry.specs.Figures.{squared_length, squared_distance, scaled_centre, scaled_squared_distance, scaled_squared_radius, weighted_squared_length, scaled_lower_bound}
use Rattle.geometry.specs.Move.{scaled_squared_distance_of, far_row, near_row, difference, separation, settled, transfer, weight_of, move_weight, moved}
use Rattle.limits.specs.Limits.{distance_limit, difference_limit}
use Rattle.geometry.specs.Places.{weights_total}
use Rattle.geometry.specs.Table.{coordinate}
use Rattle.geometry.specs.Clauses.{Table, WeightsOf}
use Rattle.geometry.specs.TableLaws.{weights-within}
use Rattle.geometry.proofs.FigureLaws.{length_ℤ, squared_length_cong, centre_at_most, lower_bound_ℤ}
use Rattle.geometry.proofs.LimitLaws.{distance-within}
use Rattle.geometry.specs.SelectLaws.{farthest-within, nearest-within, largest-farthest, farthest_mostℕ, nearest_weighted, ltb_strict}

-- ---- inner products

inner : ℕ → (ℕ → ℤ) → (ℕ → ℤ) → ℤ
inner n u v = sumℤ n (λ k. u k *ℤ v k)

combined : (c u d v : ℤ) → (c *ℤ u +ℤ d *ℤ v) *ℤ (c *ℤ u +ℤ d *ℤ v) ≡ c *ℤ c *ℤ (u *ℤ u) +ℤ pos 2 *ℤ c *ℤ d *ℤ (u *ℤ v) +ℤ d *ℤ d *ℤ (v *ℤ v)
combined = ring 4 (λ c u d v. (c ⊗ u ⊕ d ⊗ v) ⊗ (c ⊗ u ⊕ d ⊗ v) ≈ c ⊗ c ⊗ (u ⊗ u) ⊕ # (pos 2) ⊗ c ⊗ d ⊗ (u ⊗ v) ⊕ d ⊗ d ⊗ (v ⊗ v)) tt

module _ (n : ℕ) (u v : ℕ → ℤ) where
  length_combine : (c d : ℤ) → pos (squared_length n (λ k. c *ℤ u k +ℤ d *ℤ v k))
      ≡ c *ℤ c *ℤ pos (squared_length n u) +ℤ pos 2 *ℤ c *ℤ d *ℤ inner n u v +ℤ d *ℤ d *ℤ pos (squared_length n v)
  unfolding inner
  length_combine c d =
      length_ℤ n (λ k. c *ℤ u k +ℤ d *ℤ v k)
      ∙ sumℤ_cong n (λ k l. combined c (u k) d (v k))
      ∙ sumℤ_add (λ k. c *ℤ c *ℤ (u k *ℤ u k) +ℤ pos 2 *ℤ c *ℤ d *ℤ (u k *ℤ v k)) (λ k. d *ℤ d *ℤ (v k *ℤ v k)) n
      ∙ ap₂ ◌+ℤ◌
      (sumℤ_add (λ k. c *ℤ c *ℤ (u k *ℤ u k)) (λ k. pos 2 *ℤ c *ℤ d *ℤ (u k *ℤ v k)) n
      ∙ ap₂ ◌+ℤ◌ (sumℤ_mul_left (c *ℤ c) (λ k. u k *ℤ u k) n ∙ ap (λ (x : ℤ). c *ℤ c *ℤ x) (sym (length_ℤ n u))) (sumℤ_mul_left (pos 2 *ℤ c *ℤ d) (λ k. u k *ℤ v k) n))
      (sumℤ_mul_left (d *ℤ d) (λ k. v k *ℤ v k) n ∙ ap (λ (x : ℤ). d *ℤ d *ℤ x) (sym (length_ℤ n v)))

product_sub : (u v x : ℤ) → (u -ℤ v) *ℤ x ≡ u *ℤ x -ℤ v *ℤ x
product_sub = ring 3 (λ u v x. (u ⊖ v) ⊗ x ≈ u ⊗ x ⊖ v ⊗ x) tt

inner_sub : (n : ℕ) (u v x : ℕ → ℤ) → inner n (λ k. u k -ℤ v k) x ≡ inner n u x -ℤ inner n v x
unfolding inner
inner_sub n u v x =
    sumℤ_cong n (λ k l. product_sub (u k) (v k) (x k)) ∙ sumℤ_sub (λ k. u k *ℤ x k) (λ k. v k *ℤ x k) n

-- ---- s by a score that D multiplies

-- D |p|² - 2 ⟨p, X⟩
reduced : ℕ → ℕ → (ℕ → ℤ) → (ℕ → ℤ) → ℤ
reduced D n X p = pos D *ℤ pos (squared_length n p) -ℤ pos 2 *ℤ inner n p X

minus : (D p x : ℤ) → D *ℤ p -ℤ x ≡ D *ℤ p +ℤ negsuc 0 *ℤ x
minus = ring 3 (λ D p x. D ⊗ p ⊖ x ≈ D ⊗ p ⊕ # (negsuc 0) ⊗ x) tt

distance_ℤ : (D n : ℕ) (X p : ℕ → ℤ) → pos (scaled_squared_distance D n X p) ≡ pos D *ℤ reduced D n X p +ℤ pos (squared_length n X)
unfolding scaled_squared_distance reduced
distance_ℤ D n X p =
    ap pos (squared_length_cong n (λ k l. minus (pos D) (p k) (X k)))
    ∙ length_combine n p X (pos D) (negsuc 0)
    ∙ regroup (pos D) (pos (squared_length n p)) (inner n p X) (pos (squared_length n X))
  where
    regroup : (D p i x : ℤ) → D *ℤ D *ℤ p +ℤ pos 2 *ℤ D *ℤ negsuc 0 *ℤ i +ℤ negsuc 0 *ℤ negsuc 0 *ℤ x ≡ D *ℤ (D *ℤ p -ℤ pos 2 *ℤ i) +ℤ x
    regroup = ring 4 (λ D p i x. D ⊗ D ⊗ p ⊕ # (pos 2) ⊗ D ⊗ # (negsuc 0) ⊗ i ⊕ # (negsuc 0) ⊗ # (negsuc 0) ⊗ x ≈ D ⊗ (D ⊗ p ⊖ # (pos 2) ⊗ i) ⊕ x) tt

-- ---- sums over moved weights

replaced : (S p q v : ℤ) → S -ℤ p *ℤ q +ℤ v *ℤ q ≡ S +ℤ (v -ℤ p) *ℤ q
replaced = ring 4 (λ S p q v. S ⊖ p ⊗ q ⊕ v ⊗ q ≈ S ⊕ (v ⊖ p) ⊗ q) tt

set_sum : (l : List ℕ) (m j v : ℕ) (f : ℕ → ℤ) → j < m → j < length l
    → sumℤ m (λ i. pos (get_or (set l j v) i 0) *ℤ f i) ≡ sumℤ m (λ i. pos (get_or l i 0) *ℤ f i) +ℤ (pos v -ℤ pos (get_or l j 0)) *ℤ f j
set_sum l m j v f h len =
    sumℤ_change (λ i. pos (get_or l i 0) *ℤ f i) (λ i. pos (get_or (set l j v) i 0) *ℤ f i) m j h
    (λ i b ne. ap (λ (x : ℕ). pos x *ℤ f i) (get_or-set_other l j i v 0 ne))
    ∙ ap (λ (x : ℕ). sumℤ m (λ i. pos (get_or l i 0) *ℤ f i) -ℤ pos (get_or l j 0) *ℤ f j +ℤ pos x *ℤ f j) (get_or-set_same l j v 0 len)
    ∙ replaced (sumℤ m (λ i. pos (get_or l i 0) *ℤ f i)) (pos (get_or l j 0)) (f j) (pos v)

exchanged : (S w t l gains loses : ℤ) → S +ℤ (w -ℤ t -ℤ w) *ℤ loses +ℤ (l +ℤ t -ℤ l) *ℤ gains ≡ S +ℤ t *ℤ (gains -ℤ loses)
exchanged = ring 6 (λ S w t l gains loses. S ⊕ (w ⊖ t ⊖ w) ⊗ loses ⊕ (l ⊕ t ⊖ l) ⊗ gains ≈ S ⊕ t ⊗ (gains ⊖ loses)) tt

module _ (ws : List ℕ) (m t from to : ℕ) (most : m ≤ length ws) (hf : from < m) (ht : to < m) (capped : t ≤ get_or ws from 0) where
  lowered : List ℕ
  lowered = set ws from (get_or ws from 0 - t)

  lowered_length : length lowered ≡ length ws
  unfolding lowered
  lowered_length = length-set ws from (get_or ws from 0 - t)

  pub move_weight_sum : (f : ℕ → ℤ) → sumℤ m (λ i. pos (weight_of (move_weight t from to ws) i) *ℤ f i)
      ≡ sumℤ m (λ i. pos (weight_of ws i) *ℤ f i) +ℤ pos t *ℤ (f to -ℤ f from)
  unfolding move_weight lowered
  move_weight_sum f =
      set_sum lowered m to (get_or lowered to 0 + t) f ht (omega (arith, lowered_length))
      ∙ ap (λ (x : ℤ). x +ℤ (pos (get_or lowered to 0 + t) -ℤ pos (get_or lowered to 0)) *ℤ f to)
      (set_sum ws m from (get_or ws from 0 - t) f hf (omega arith)
      ∙ ap (λ (x : ℤ). sumℤ m (λ i. pos (weight_of ws i) *ℤ f i) +ℤ (x -ℤ pos (get_or ws from 0)) *ℤ f from) (pos_sub (get_or ws from 0) t capped))
      ∙ exchanged (sumℤ m (λ i. pos (weight_of ws i) *ℤ f i)) (pos (get_or ws from 0)) (pos t) (pos (get_or lowered to 0)) (f to) (f from)

  pub move_weight_total : weights_total m (move_weight t from to ws) ≡ weights_total m ws
  unfolding move_weight lowered weights_total
  move_weight_total =
      omega (arith, sumℕ-set ws m from (get_or ws from 0 - t) hf (omega arith), sumℕ-set lowered m to (get_or lowered to 0 + t) ht (omega (arith, lowered_length)))

  -- X changes by t (to - from)
  pub move_weight_centre : (a : ℕ → ℕ → ℤ) (k : ℕ) → scaled_centre a (weight_of (move_weight t from to ws)) m k
      ≡ scaled_centre a (weight_of ws) m k +ℤ pos t *ℤ (a to k -ℤ a from k)
  unfolding scaled_centre
  move_weight_centre a k = move_weight_sum (λ i. a i k)

pub move_weight_length : (t from to : ℕ) (ws : List ℕ) → length (move_weight t from to ws) ≡ length ws
unfolding move_weight
move_weight_length t from to ws = simp length-set

pub move_weight_other : (t from to : ℕ) (ws : List ℕ) (i : ℕ) → i ≢ from → i ≢ to → weight_of (move_weight t from to ws) i ≡ weight_of ws i
unfolding move_weight
move_weight_other t from to ws i not-from not-to =
    let lowered = set ws from (get_or ws from 0 - t) in
    get_or-set_other lowered to i (get_or lowered to 0 + t) 0 not-to ∙ get_or-set_other ws from i (get_or ws from 0 - t) 0 not-from

module _ (t from to : ℕ) (ws : List ℕ) (apart : from ≢ to) where
  pub move_weight_from : from < length ws → t ≤ weight_of ws from → weight_of (move_weight t from to ws) from + t ≡ weight_of ws from
  unfolding move_weight
  move_weight_from place capped =
      let lowered = set ws from (get_or ws from 0 - t) in
      omega (arith, get_or-set_other lowered to from (get_or lowered to 0 + t) 0 apart, get_or-set_same ws from (get_or ws from 0 - t) 0 place)

  pub move_weight_to : to < length ws → weight_of (move_weight t from to ws) to ≡ weight_of ws to + t
  unfolding move_weight
  move_weight_to place =
      let lowered = set ws from (get_or ws from 0 - t) in
      get_or-set_same lowered to (get_or lowered to 0 + t) 0 (omega (arith, length-set ws from (get_or ws from 0 - t)))
      ∙ ap (λ (x : ℕ). x + t) (get_or-set_other ws from to (get_or ws from 0 - t) 0 (λ e. apart (sym e)))

-- ---- the move

-- M is s of the far row
pub radius_far : (D m n : ℕ) (a : ℕ → ℕ → ℤ) (w : ℕ → ℕ) → 0 < m → scaled_squared_radius D m n a (scaled_centre a w m) ≡ scaled_squared_distance_of D m n a w (far_row D m n a w)
unfolding scaled_squared_radius scaled_squared_distance_of far_row
radius_far D m n a w some = largest-farthest (scaled_squared_distance_of D m n a w) m some

module _ (D m n : ℕ) (a : ℕ → ℕ → ℤ) (w : ℕ → ℕ) where
  pub transfer_most : transfer D m n a w ≤ w (near_row D m n a w)
  unfolding transfer
  transfer_most = omega arith

  module _ (some : 0 < m) where
    pub far_within : far_row D m n a w < m
    unfolding far_row
    far_within = farthest-within ltb (scaled_squared_distance_of D m n a w) m some

    pub near_within : near_row D m n a w < m
    unfolding near_row
    near_within = nearest-within ltb w (scaled_squared_distance_of D m n a w) m some

    pub near_below_far : scaled_squared_distance_of D m n a w (near_row D m n a w) ≤ scaled_squared_distance_of D m n a w (far_row D m n a w)
    unfolding far_row
    near_below_far = farthest_mostℕ (scaled_squared_distance_of D m n a w) m (near_row D m n a w) near_within

-- the parts of a move from a list of weights
module _ (D m n : ℕ) (a : ℕ → ℕ → ℤ) (ws : List ℕ) where
  pub moved_by : {t from to : ℕ} → t ≡ transfer D m n a (weight_of ws) → from ≡ near_row D m n a (weight_of ws) → to ≡ far_row D m n a (weight_of ws)
      → move_weight t from to ws ≡ moved D m n a ws
  unfolding moved
  moved_by e f g = cc

  pub moved_length : length (moved D m n a ws) ≡ length ws
  unfolding moved
  moved_length = move_weight_length (transfer D m n a (weight_of ws)) (near_row D m n a (weight_of ws)) (far_row D m n a (weight_of ws)) ws

  -- no weight changes but those of the near and the far row
  pub moved_other : (i : ℕ) → i ≢ near_row D m n a (weight_of ws) → i ≢ far_row D m n a (weight_of ws)
      → weight_of (moved D m n a ws) i ≡ weight_of ws i
  unfolding moved
  moved_other = move_weight_other (transfer D m n a (weight_of ws)) (near_row D m n a (weight_of ws)) (far_row D m n a (weight_of ws)) ws

  module _ (some : 0 < m) (places : m ≤ length ws) where
    -- a weighted sum after the move
    pub moved_sum : (f : ℕ → ℤ) → sumℤ m (λ i. pos (weight_of (moved D m n a ws) i) *ℤ f i)
        ≡ sumℤ m (λ i. pos (weight_of ws i) *ℤ f i)
        +ℤ pos (transfer D m n a (weight_of ws)) *ℤ (f (far_row D m n a (weight_of ws)) -ℤ f (near_row D m n a (weight_of ws)))
    unfolding moved
    moved_sum =
        move_weight_sum ws m (transfer D m n a (weight_of ws)) (near_row D m n a (weight_of ws)) (far_row D m n a (weight_of ws)) places
        (near_within D m n a (weight_of ws) some) (far_within D m n a (weight_of ws) some) (transfer_most D m n a (weight_of ws))

    pub moved-total : weights_total m (moved D m n a ws) ≡ weights_total m ws
    unfolding moved
    moved-total =
        move_weight_total ws m (transfer D m n a (weight_of ws)) (near_row D m n a (weight_of ws)) (far_row D m n a (weight_of ws)) places
        (near_within D m n a (weight_of ws) some) (far_within D m n a (weight_of ws) some) (transfer_most D m n a (weight_of ws))

    module _ (apart : near_row D m n a (weight_of ws) ≢ far_row D m n a (weight_of ws)) where
      pub moved-near : weight_of (moved D m n a ws) (near_row D m n a (weight_of ws)) + transfer D m n a (weight_of ws) ≡ weight_of ws (near_row D m n a (weight_of ws))
      unfolding moved
      moved-near =
          move_weight_from (transfer D m n a (weight_of ws)) (near_row D m n a (weight_of ws)) (far_row D m n a (weight_of ws)) ws apart
          (omega (arith, near_within D m n a (weight_of ws) some)) (transfer_most D m n a (weight_of ws))

      pub moved-far : weight_of (moved D m n a ws) (far_row D m n a (weight_of ws)) ≡ weight_of ws (far_row D m n a (weight_of ws)) + transfer D m n a (weight_of ws)
      unfolding moved
      moved-far =
          move_weight_to (transfer D m n a (weight_of ws)) (near_row D m n a (weight_of ws)) (far_row D m n a (weight_of ws)) ws apart
          (omega (arith, far_within D m n a (weight_of ws) some))

    -- X changes by t (far - near)
    pub moved_centre : (k : ℕ) → scaled_centre a (weight_of (moved D m n a ws)) m k
        ≡ scaled_centre a (weight_of ws) m k
        +ℤ pos (transfer D m n a (weight_of ws)) *ℤ (a (far_row D m n a (weight_of ws)) k -ℤ a (near_row D m n a (weight_of ws)) k)
    unfolding scaled_centre
    moved_centre k = moved_sum (λ i. a i k)

-- ---- g

-- the limit on s is D times the limit on g
pub difference-within : {D m n : ℕ} {rows : List ℤ} {ws : List ℕ} → Table rows m n → WeightsOf D m ws
    → difference D m n (coordinate rows n) (weight_of ws) ≤ difference_limit D
unfolding difference scaled_squared_distance_of
difference-within {D} {m} {n} {rows} {ws} t g =
    let a = coordinate rows n in
    let far = far_row D m n a (weight_of ws) in
    let X = scaled_centre a (weight_of ws) m in
    let most : scaled_squared_distance D n X (a far) ≤ distance_limit D =
    distance-within D D n X (a far) (le_refl D) t.channels (λ k l. t.bound far k (far_within D m n a (weight_of ws) t.some_row) l)
    (centre_at_most t (weights-within (le_refl D) g)) in
    div-le_of_le-mul D (omega (arith, most))

module _ (D m n : ℕ) (a : ℕ → ℕ → ℤ) (w : ℕ → ℕ) (positive : 0 < D) (some : 0 < m) where
  far : ℕ
  far = far_row D m n a w

  near : ℕ
  near = near_row D m n a w

  X : ℕ → ℤ
  X = scaled_centre a w m

  gap : ℤ
  gap = reduced D n X (a far) -ℤ reduced D n X (a near)

  gap_distance : pos (scaled_squared_distance_of D m n a w far - scaled_squared_distance_of D m n a w near) ≡ pos D *ℤ gap
  unfolding gap far near X scaled_squared_distance_of
  gap_distance =
      pos_sub (scaled_squared_distance_of D m n a w far) (scaled_squared_distance_of D m n a w near) (near_below_far D m n a w some)
      ∙ ap₂ ◌-ℤ◌ (distance_ℤ D n X (a far)) (distance_ℤ D n X (a near))
      ∙ common (pos D) (reduced D n X (a far)) (reduced D n X (a near)) (pos (squared_length n X))
    where
      common : (D f g x : ℤ) → (D *ℤ f +ℤ x) -ℤ (D *ℤ g +ℤ x) ≡ D *ℤ (f -ℤ g)
      common = ring 4 (λ D f g x. (D ⊗ f ⊕ x) ⊖ (D ⊗ g ⊕ x) ≈ D ⊗ (f ⊖ g)) tt

  gap_natural : (e : ℕ) × (gap ≡ pos e)
  gap_natural =
      nn_pos gap
      (⊑-cancel (pos D) (pos 0) gap (pos_le positive)
      (⊑_trans (⊑-eq (*ℤ-zero (pos D))) (⊑_trans (pos_le zero-le) (⊑-eq gap_distance))))

  gap_product : scaled_squared_distance_of D m n a w far - scaled_squared_distance_of D m n a w near ≡ D * gap_natural.0
  gap_product = pos_inj (gap_distance ∙ ap (λ (x : ℤ). pos D *ℤ x) gap_natural.1)

  difference_natural : difference D m n a w ≡ gap_natural.0
  unfolding difference far near
  difference_natural = div-eq_of_eq-mul_right positive gap_product

  difference_ℤ : pos (difference D m n a w) ≡ gap
  difference_ℤ = ap pos difference_natural ∙ sym gap_natural.1

  -- g is whole, and s far is not below s near
  pub difference_exact : scaled_squared_distance_of D m n a w (far_row D m n a w) ≡ scaled_squared_distance_of D m n a w (near_row D m n a w) + D * difference D m n a w
  unfolding far near
  difference_exact =
      let e : scaled_squared_distance_of D m n a w far - scaled_squared_distance_of D m n a w near ≡ D * difference D m n a w =
      gap_product ∙ ap (λ (x : ℕ). D * x) (sym difference_natural) in
      omega (arith, near_below_far D m n a w some)

  -- equal rows have equal reduced scores
  gap_none : separation D m n a w ≡ 0 → gap ≡ pos 0
  unfolding separation squared_distance squared_length gap far near reduced inner
  gap_none e =
      ap (λ (x : ℤ). x -ℤ reduced D n X (a near))
      (ap₂ (λ (x : ℕ) (y : ℤ). pos D *ℤ pos x -ℤ pos 2 *ℤ y) (squared_length_cong n same) (sumℤ_cong n (λ k l. ap (λ (x : ℤ). x *ℤ X k) (same k l))))
      ∙ -ℤ-self (reduced D n X (a near))
    where
      same : (k : ℕ) → k < n → a far k ≡ a near k
      same k l =
          -ℤ-zero (a far k) (a near k)
          (square_zero (a far k -ℤ a near k) (omega (arith, sumℕ_term (λ j. square (a far j -ℤ a near j)) n k l)))

  module _ (unsettled : settled D m n a w ≡ false) where
    pub separation_below : separation D m n a w < difference D m n a w
    unfolding settled
    separation_below = leb-false (difference D m n a w) (separation D m n a w) unsettled

    pub separation_positive : 0 < separation D m n a w
    separation_positive = go (eq-zero-or-pos (separation D m n a w))
      where
        go : (separation D m n a w ≡ 0) ⊎ (0 < separation D m n a w) → 0 < separation D m n a w
        go (inl e) =
            let none : difference D m n a w ≡ 0 = pos_inj (difference_ℤ ∙ gap_none e) in
            absurd (omega (arith, separation_below))
        go (inr h) = h

    module _ (sum : sumℕ m w ≡ D) where
      pub transfer_some : 0 < transfer D m n a w
      unfolding transfer near_row
      transfer_some =
          let weighted = sumℕ_positive w m (omega arith) in
          let gives : 0 < w (near_row D m n a w) = nearest_weighted ltb_strict w (scaled_squared_distance_of D m n a w) m weighted.0 weighted.1 weighted.2 in
          let moves : 1 ≤ (difference D m n a w + separation D m n a w - 1) / (2 * separation D m n a w) =
          (le-div_iff_mul-le {k = 2 * separation D m n a w} {x = 1} {y = difference D m n a w + separation D m n a w - 1} (omega (arith, separation_positive))).1 (omega (arith, separation_below)) in
          omega arith

      pub transfer_gains : transfer D m n a w * separation D m n a w < difference D m n a w
      unfolding transfer
      transfer_gains =
          let d = separation D m n a w in
          let g = difference D m n a w in
          let t = transfer D m n a w in
          let q = (g + d - 1) / (2 * d) in
          let least : t ≤ q = omega arith in
          omega (arith, mul-le-mul_right (2 * d) least, div-mul-le_self (g + d - 1) (2 * d), mul_left_comm t 2 d, mul-le-mul_right d transfer_some, separation_below)

-- ---- L

module _ (D m n : ℕ) (a : ℕ → ℕ → ℤ) (ws : List ℕ) (positive : 0 < D) (some : 0 < m) (places : m ≤ length ws) (sum : weights_total m ws ≡ D) where
  before : ℕ → ℕ
  before = weight_of ws

  after : ℕ → ℕ
  after = weight_of (moved D m n a ws)

  t : ℤ
  t = pos (transfer D m n a (weight_of ws))

  toward : ℕ → ℤ
  toward k = a (far_row D m n a (weight_of ws)) k -ℤ a (near_row D m n a (weight_of ws)) k

  before_sum : sumℕ m before ≡ D
  unfolding before weights_total
  before_sum = sum

  after_sum : sumℕ m after ≡ D
  unfolding after weights_total
  after_sum = moved-total D m n a ws some places ∙ sum

  lengths : ℕ → ℤ
  lengths i = pos (squared_length n (a i))

  second_moved : pos (weighted_squared_length m n a after)
      ≡ pos (weighted_squared_length m n a before) +ℤ t *ℤ (lengths (far_row D m n a (weight_of ws)) -ℤ lengths (near_row D m n a (weight_of ws)))
  unfolding weighted_squared_length after before t lengths
  second_moved =
      pos_sum m (λ i. after i * squared_length n (a i)) ∙ moved_sum D m n a ws some places lengths
      ∙ ap (λ (x : ℤ). x +ℤ t *ℤ (lengths (far_row D m n a (weight_of ws)) -ℤ lengths (near_row D m n a (weight_of ws)))) (sym (pos_sum m (λ i. before i * squared_length n (a i))))

  centre_length_moved : pos (squared_length n (scaled_centre a after m))
      ≡ t *ℤ t *ℤ pos (separation D m n a (weight_of ws)) +ℤ pos 2 *ℤ t *ℤ pos 1 *ℤ inner n toward (scaled_centre a before m) +ℤ pos 1 *ℤ pos 1 *ℤ pos (squared_length n (scaled_centre a before m))
  unfolding after before t toward separation squared_distance
  centre_length_moved =
      ap pos (squared_length_cong n (λ k l. moved_centre D m n a ws some places k ∙ turned (scaled_centre a (weight_of ws) m k) t (toward k)))
      ∙ length_combine n toward (scaled_centre a before m) t (pos 1)
    where
      turned : (x t d : ℤ) → x +ℤ t *ℤ d ≡ t *ℤ d +ℤ pos 1 *ℤ x
      turned = ring 3 (λ x t d. x ⊕ t ⊗ d ≈ t ⊗ d ⊕ # (pos 1) ⊗ x) tt

  collect : (D B t F N S i j x : ℤ) → D *ℤ (B +ℤ t *ℤ (F -ℤ N)) -ℤ (t *ℤ t *ℤ S +ℤ pos 2 *ℤ t *ℤ pos 1 *ℤ (i -ℤ j) +ℤ pos 1 *ℤ pos 1 *ℤ x)
      ≡ D *ℤ B -ℤ x +ℤ t *ℤ ((D *ℤ F -ℤ pos 2 *ℤ i) -ℤ (D *ℤ N -ℤ pos 2 *ℤ j)) -ℤ t *ℤ (t *ℤ S)
  collect = ring 9 (λ D B t F N S i j x. D ⊗ (B ⊕ t ⊗ (F ⊖ N)) ⊖ (t ⊗ t ⊗ S ⊕ # (pos 2) ⊗ t ⊗ # (pos 1) ⊗ (i ⊖ j) ⊕ # (pos 1) ⊗ # (pos 1) ⊗ x) ≈ D ⊗ B ⊖ x ⊕ t ⊗ ((D ⊗ F ⊖ # (pos 2) ⊗ i) ⊖ (D ⊗ N ⊖ # (pos 2) ⊗ j)) ⊖ t ⊗ (t ⊗ S)) tt

  rise_ℤ : pos (scaled_lower_bound D m n a after)
      ≡ pos (scaled_lower_bound D m n a before) +ℤ t *ℤ pos (difference D m n a (weight_of ws)) -ℤ t *ℤ (t *ℤ pos (separation D m n a (weight_of ws)))
  unfolding before after toward lengths gap reduced far near X
  rise_ℤ =
      let i = far_row D m n a (weight_of ws) in
      let j = near_row D m n a (weight_of ws) in
      let x = scaled_centre a (weight_of ws) m in
      let S = pos (separation D m n a (weight_of ws)) in
      lower_bound_ℤ D m n a after after_sum positive
      ∙ ap₂ ◌-ℤ◌ (ap (λ (y : ℤ). pos D *ℤ y) second_moved)
      (centre_length_moved ∙ ap (λ (y : ℤ). t *ℤ t *ℤ S +ℤ pos 2 *ℤ t *ℤ pos 1 *ℤ y +ℤ pos 1 *ℤ pos 1 *ℤ pos (squared_length n x)) (inner_sub n (a i) (a j) x))
      ∙ collect (pos D) (pos (weighted_squared_length m n a before)) t (lengths i) (lengths j) S (inner n (a i) x) (inner n (a j) x) (pos (squared_length n x))
      ∙ ap₂ (λ (y z : ℤ). y +ℤ t *ℤ z -ℤ t *ℤ (t *ℤ S)) (sym (lower_bound_ℤ D m n a before before_sum positive)) (sym (difference_ℤ D m n a (weight_of ws) positive some))

  -- L and t times t times d² after the move are L and t times g before it
  rise_sum : scaled_lower_bound D m n a after + transfer D m n a (weight_of ws) * (transfer D m n a (weight_of ws) * separation D m n a (weight_of ws))
      ≡ scaled_lower_bound D m n a before + transfer D m n a (weight_of ws) * difference D m n a (weight_of ws)
  unfolding t
  rise_sum =
      pos_inj
      (ap (λ (y : ℤ). y +ℤ t *ℤ (t *ℤ pos (separation D m n a (weight_of ws)))) rise_ℤ
      ∙ -ℤ-+ℤ_cancel (pos (scaled_lower_bound D m n a before) +ℤ t *ℤ pos (difference D m n a (weight_of ws))) (t *ℤ (t *ℤ pos (separation D m n a (weight_of ws)))))

  module _ (unsettled : settled D m n a (weight_of ws) ≡ false) where
    -- what a move adds to L
    pub rise_some : 1 ≤ transfer D m n a (weight_of ws) * (difference D m n a (weight_of ws) - transfer D m n a (weight_of ws) * separation D m n a (weight_of ws))
    unfolding before
    rise_some =
        let u = transfer D m n a (weight_of ws) in
        let left : 1 ≤ difference D m n a (weight_of ws) - u * separation D m n a (weight_of ws) =
        omega (arith, transfer_gains D m n a (weight_of ws) positive some unsettled before_sum) in
        mul-le-mul (transfer_some D m n a (weight_of ws) positive some unsettled before_sum) left

    pub lower_bound_rises : scaled_lower_bound D m n a (weight_of (moved D m n a ws))
        ≡ scaled_lower_bound D m n a (weight_of ws)
        + transfer D m n a (weight_of ws) * (difference D m n a (weight_of ws) - transfer D m n a (weight_of ws) * separation D m n a (weight_of ws))
    unfolding before after
    lower_bound_rises =
        let u = transfer D m n a (weight_of ws) in
        let g = difference D m n a (weight_of ws) in
        let d = separation D m n a (weight_of ws) in
        omega (arith, rise_sum, mul-sub u g (u * d), rise_some)
