-- Laws of `sumℤ n f` and `sumℕ n f`. What is said of f and g is said below n only.
--     below, last, last_or_below      what holds below n + 1 holds below n and at n; a number below n + 1 is n or below n
--     sumℤ_cong, sumℕ_cong            equal terms, equal sums
--     sumℤ_zero, sumℕ_zero            a sum of zeros
--     sumℤ_const, sumℕ_const          n times one number
--     sumℤ_add, -sub, -neg, -mul-left, -mul-right       sums of linear combinations; sumℕ alike (with no -neg)
--     sumℤ_next, sumℕ_next            a sum with one more term, at k + 1
--     sumℕ-part                       a sum of fewer terms is at most the sum
--     sumℤ_swap, sumℕ_swap            two sums change places
--     sumℤ_mono, sumℕ_mono            smaller terms, smaller sum
--     sumℤ_nn                         a sum of numbers that are 0 or more
--     sumℕ_bound                      n terms of at most B
--     sumℕ_term, sumℕ_two             a term, and two different terms, are at most the sum
--     sumℕ_positive                   a positive sum has a positive term
--     sumℤ_change, sumℕ_change        one term changed
--     sumℤ_change₂, sumℕ_change₂      two terms changed
--     sumℕ-set                        one element of a list replaced
--     pos_sum                         a sum of naturals, in ℤ
-- `simp (sumℤ_add, sumℤ_neg, sumℤ_mul_left, sumℤ_mul_right)` with bare names pushes a sum through a linear combination. A difference is
-- a sum with a negation there, so that `sumℤ_sub` would have to stand first. What `ring` says of the terms goes in as a law of its own.
-- A worked call stands at the end.
use Rattle.std.specs.Prelude.{◌≡◌, ◌≢◌, ◌⊎◌, cond, List, eqb, length, get_or, set, ℤ, pos, neg_ℤ, ◌-ℤ◌, ◌*ℤ◌}
use Rattle.std.proofs.Math.Path.{refl, ap₂}
use Rattle.std.proofs.Common.{sym, ◌∙◌, ap, subst, inl, inr, le_refl, add-one, arith, eq-eqb, ne_eqb, get_or-set_same, get_or-set_other}
use Prim.Native.Nat.{ℕ, zero, suc, ◌+◌, ◌*◌, ◌-◌, ◌≤◌, ◌<◌, zero-le}
use Rattle.std.proofs.Math.Decide.{ℕ_discrete, dec_le}
use Rattle.std.proofs.Math.IntN.{◌+ℤ◌, *ℤ_comm, *ℤ-zero, zero-*ℤ, neg_ℤ-+ℤ, suc_ℤ-*ℤ}
use Rattle.integers.specs.Ring.{pos_inj, *ℤ-distrib-left, +ℤ-interchange}
use Rattle.integers.specs.Solver.{◌⊕◌, ◌⊖◌, ◌⊗◌, #◌, ◌≈◌, ring}
use Rattle.integers.specs.Order.{◌⊑◌, ⊑_refl, ⊑-add}
use Rattle.integers.specs.Sum.{sumℤ, sumℕ}

-- a hypothesis below n + 1 is one below n
pub below : {P : ℕ → Type 0} (n : ℕ) → ((i : ℕ) → i < suc n → P i) → (i : ℕ) → i < n → P i
below n h i l = h i (omega arith)

pub last : {P : ℕ → Type 0} (n : ℕ) → ((i : ℕ) → i < suc n → P i) → P n
last n h = h n (le_refl (suc n))

pub last_or_below : (n j : ℕ) → j < suc n → (j ≡ n) ⊎ (j < n)
last_or_below n j h = go (ℕ_discrete j n)
  where
    go : Dec (j ≡ n) → (j ≡ n) ⊎ (j < n)
    go (yes e) = inl e
    go (no e) = inr (omega arith)

-- ---- equal terms

module _ {f g : ℕ → ℤ} where
  pub sumℤ_cong : (n : ℕ) → ((i : ℕ) → i < n → f i ≡ g i) → sumℤ n f ≡ sumℤ n g
  unfolding sumℤ
  sumℤ_cong zero h = refl
  sumℤ_cong (suc n) h = ap₂ ◌+ℤ◌ (sumℤ_cong n (below n h)) (last n h)

  pub sumℤ_mono : (n : ℕ) → ((i : ℕ) → i < n → f i ⊑ g i) → sumℤ n f ⊑ sumℤ n g
  unfolding sumℤ
  sumℤ_mono zero h = ⊑_refl (pos 0)
  sumℤ_mono (suc n) h = ⊑-add (sumℤ_mono n (below n h)) (last n h)

module _ {f g : ℕ → ℕ} where
  pub sumℕ_cong : (n : ℕ) → ((i : ℕ) → i < n → f i ≡ g i) → sumℕ n f ≡ sumℕ n g
  unfolding sumℕ
  sumℕ_cong zero h = refl
  sumℕ_cong (suc n) h = ap₂ ◌+◌ (sumℕ_cong n (below n h)) (last n h)

  pub sumℕ_mono : (n : ℕ) → ((i : ℕ) → i < n → f i ≤ g i) → sumℕ n f ≤ sumℕ n g
  unfolding sumℕ
  sumℕ_mono zero h = zero-le
  sumℕ_mono (suc n) h = omega (arith, sumℕ_mono n (below n h), last n h)

pub pos_sum : (n : ℕ) (f : ℕ → ℕ) → pos (sumℕ n f) ≡ sumℤ n (λ i. pos (f i))
unfolding sumℕ sumℤ
pos_sum zero f = refl
pos_sum (suc n) f = ap (λ x. x +ℤ pos (f n)) (pos_sum n f)

-- ---- linear combinations

pub sumℤ_zero : (n : ℕ) → sumℤ n (λ i. pos 0) ≡ pos 0
unfolding sumℤ
sumℤ_zero zero = refl
sumℤ_zero (suc n) = ap (λ x. x +ℤ pos 0) (sumℤ_zero n)

pub sumℤ_const : (n : ℕ) (c : ℤ) → sumℤ n (λ i. c) ≡ pos n *ℤ c
unfolding sumℤ
sumℤ_const zero c = sym (zero-*ℤ c)
sumℤ_const (suc n) c = ap (λ x. x +ℤ c) (sumℤ_const n c) ∙ sym (suc_ℤ-*ℤ (pos n) c)

pub sumℤ_neg : (f : ℕ → ℤ) (n : ℕ) → sumℤ n (λ i. neg_ℤ (f i)) ≡ neg_ℤ (sumℤ n f)
unfolding sumℤ
sumℤ_neg f zero = refl
sumℤ_neg f (suc n) = ap (λ x. x -ℤ f n) (sumℤ_neg f n) ∙ sym (neg_ℤ-+ℤ (sumℤ n f) (f n))

pub sumℤ_add : (f g : ℕ → ℤ) (n : ℕ) → sumℤ n (λ i. f i +ℤ g i) ≡ sumℤ n f +ℤ sumℤ n g
unfolding sumℤ
sumℤ_add f g zero = refl
sumℤ_add f g (suc n) = ap (λ x. x +ℤ (f n +ℤ g n)) (sumℤ_add f g n) ∙ +ℤ-interchange (sumℤ n f) (sumℤ n g) (f n) (g n)

pub sumℤ_sub : (f g : ℕ → ℤ) (n : ℕ) → sumℤ n (λ i. f i -ℤ g i) ≡ sumℤ n f -ℤ sumℤ n g
sumℤ_sub f g n = sumℤ_add f (λ i. neg_ℤ (g i)) n ∙ ap (λ x. sumℤ n f +ℤ x) (sumℤ_neg g n)

pub sumℤ_mul_left : (c : ℤ) (f : ℕ → ℤ) (n : ℕ) → sumℤ n (λ i. c *ℤ f i) ≡ c *ℤ sumℤ n f
unfolding sumℤ
sumℤ_mul_left c f zero = sym (*ℤ-zero c)
sumℤ_mul_left c f (suc n) = ap (λ x. x +ℤ c *ℤ f n) (sumℤ_mul_left c f n) ∙ sym (*ℤ-distrib-left c (sumℤ n f) (f n))

pub sumℤ_mul_right : (f : ℕ → ℤ) (c : ℤ) (n : ℕ) → sumℤ n (λ i. f i *ℤ c) ≡ sumℤ n f *ℤ c
sumℤ_mul_right f c n = sumℤ_cong n (λ i h. *ℤ_comm (f i) c) ∙ sumℤ_mul_left c f n ∙ *ℤ_comm c (sumℤ n f)

pub sumℤ_swap : (f : ℕ → ℕ → ℤ) (m n : ℕ) → sumℤ m (λ i. sumℤ n (λ k. f i k)) ≡ sumℤ n (λ k. sumℤ m (λ i. f i k))
unfolding sumℤ
sumℤ_swap f zero n = sym (sumℤ_zero n)
sumℤ_swap f (suc m) n = ap (λ x. x +ℤ sumℤ n (f m)) (sumℤ_swap f m n) ∙ sym (sumℤ_add (λ k. sumℤ m (λ i. f i k)) (f m) n)

pub sumℤ_nn : (n : ℕ) {f : ℕ → ℤ} → ((i : ℕ) → i < n → pos 0 ⊑ f i) → pos 0 ⊑ sumℤ n f
sumℤ_nn n {f} h = subst (λ x. x ⊑ sumℤ n f) (sumℤ_zero n) (sumℤ_mono n h)

pub sumℕ_zero : (n : ℕ) → sumℕ n (λ i. 0) ≡ 0
unfolding sumℕ
sumℕ_zero zero = refl
sumℕ_zero (suc n) = omega (arith, sumℕ_zero n)

pub sumℕ_const : (n c : ℕ) → sumℕ n (λ i. c) ≡ n * c
sumℕ_const n c = pos_inj (pos_sum n (λ i. c) ∙ sumℤ_const n (pos c))

pub sumℕ_add : (f g : ℕ → ℕ) (n : ℕ) → sumℕ n (λ i. f i + g i) ≡ sumℕ n f + sumℕ n g
unfolding sumℕ
sumℕ_add f g zero = refl
sumℕ_add f g (suc n) = omega (arith, sumℕ_add f g n)

pub sumℕ_sub : (f g : ℕ → ℕ) (n : ℕ) → ((i : ℕ) → i < n → g i ≤ f i) → sumℕ n (λ i. f i - g i) ≡ sumℕ n f - sumℕ n g
unfolding sumℕ
sumℕ_sub f g zero h = refl
sumℕ_sub f g (suc n) h = omega (arith, sumℕ_sub f g n (below n h), sumℕ_mono n (below n h), last n h)

pub sumℕ_mul_left : (c : ℕ) (f : ℕ → ℕ) (n : ℕ) → sumℕ n (λ i. c * f i) ≡ c * sumℕ n f
sumℕ_mul_left c f n = pos_inj (pos_sum n (λ i. c * f i) ∙ sumℤ_mul_left (pos c) (λ i. pos (f i)) n ∙ ap (λ x. pos c *ℤ x) (sym (pos_sum n f)))

pub sumℕ_mul_right : (f : ℕ → ℕ) (c n : ℕ) → sumℕ n (λ i. f i * c) ≡ sumℕ n f * c
sumℕ_mul_right f c n = pos_inj (pos_sum n (λ i. f i * c) ∙ sumℤ_mul_right (λ i. pos (f i)) (pos c) n ∙ ap (λ x. x *ℤ pos c) (sym (pos_sum n f)))

pub sumℕ_swap : (f : ℕ → ℕ → ℕ) (m n : ℕ) → sumℕ m (λ i. sumℕ n (λ k. f i k)) ≡ sumℕ n (λ k. sumℕ m (λ i. f i k))
unfolding sumℕ
sumℕ_swap f zero n = sym (sumℕ_zero n)
sumℕ_swap f (suc m) n = ap (λ x. x + sumℕ n (f m)) (sumℕ_swap f m n) ∙ sym (sumℕ_add (λ k. sumℕ m (λ i. f i k)) (f m) n)

-- ---- one more term, and fewer terms

pub sumℤ_next : (f : ℕ → ℤ) (k : ℕ) → sumℤ (k + 1) f ≡ sumℤ k f +ℤ f k
unfolding sumℤ
sumℤ_next f k = ap (λ i. sumℤ i f) (add-one k)

pub sumℕ_next : (f : ℕ → ℕ) (k : ℕ) → sumℕ (k + 1) f ≡ sumℕ k f + f k
unfolding sumℕ
sumℕ_next f k = ap (λ i. sumℕ i f) (add-one k)

pub sumℕ-part : (f : ℕ → ℕ) (n k : ℕ) → k ≤ n → sumℕ k f ≤ sumℕ n f
unfolding sumℕ
sumℕ-part f zero k l = let e : k ≡ zero = omega arith in rw e (omega arith)
sumℕ-part f (suc n) k l = go (dec_le k n) (sumℕ-part f n k)
  where
    go : Dec (k ≤ n) → (k ≤ n → sumℕ k f ≤ sumℕ n f) → sumℕ k f ≤ sumℕ n f + f n
    go (yes h) r = omega (arith, r h)
    go (no h) r = let e : k ≡ suc n = omega arith in rw e (omega arith)

-- ---- bounds

pub sumℕ_bound : (n B : ℕ) {f : ℕ → ℕ} → ((i : ℕ) → i < n → f i ≤ B) → sumℕ n f ≤ n * B
sumℕ_bound n B {f} h = subst (λ x. sumℕ n f ≤ x) (sumℕ_const n B) (sumℕ_mono n h)

pub sumℕ_term : (f : ℕ → ℕ) (n j : ℕ) → j < n → f j ≤ sumℕ n f
unfolding sumℕ
sumℕ_term f zero j h = absurd (omega arith)
sumℕ_term f (suc n) j h = go (last_or_below n j h) (sumℕ_term f n j)
  where
    go : (j ≡ n) ⊎ (j < n) → (j < n → f j ≤ sumℕ n f) → f j ≤ sumℕ n f + f n
    go (inl e) r = subst (λ x. f x ≤ sumℕ n f + f n) (sym e) (omega arith)
    go (inr l) r = omega (arith, r l)

pub sumℕ_two : (f : ℕ → ℕ) (n j k : ℕ) → j ≢ k → j < n → k < n → f j + f k ≤ sumℕ n f
unfolding sumℕ
sumℕ_two f zero j k ne lj lk = absurd (omega arith)
sumℕ_two f (suc n) j k ne lj lk = go (last_or_below n j lj) (last_or_below n k lk) (sumℕ_two f n j k ne)
  where
    go : (j ≡ n) ⊎ (j < n) → (k ≡ n) ⊎ (k < n) → (j < n → k < n → f j + f k ≤ sumℕ n f) → f j + f k ≤ sumℕ n f + f n
    go (inl d) (inl e) r = absurd (ne (d ∙ sym e))
    go (inl d) (inr l) r = omega (arith, ap f d, sumℕ_term f n k l)
    go (inr l) (inl e) r = omega (arith, ap f e, sumℕ_term f n j l)
    go (inr l) (inr b) r = omega (arith, r l b)

pub sumℕ_positive : (f : ℕ → ℕ) (n : ℕ) → 0 < sumℕ n f → (i : ℕ) × (i < n) × (0 < f i)
unfolding sumℕ
sumℕ_positive f zero h = absurd (omega arith)
sumℕ_positive f (suc n) h = go (ℕ_discrete (f n) 0) (sumℕ_positive f n)
  where
    go : Dec (f n ≡ 0) → (0 < sumℕ n f → (i : ℕ) × (i < n) × (0 < f i)) → (i : ℕ) × (i < suc n) × (0 < f i)
    go (yes e) r = let w = r (omega arith) in (w.0, omega (arith, w.1), w.2)
    go (no e) r = (n, le_refl (suc n), omega arith)

-- ---- changed terms: g is f but at j, or but at j and k

-- f with the value v at j
abbrev patch : (ℕ → ℤ) → ℕ → ℤ → ℕ → ℤ
patch f j v i = cond (eqb i j) v (f i)

module _ (f g : ℕ → ℤ) where
  pub sumℤ_change : (n j : ℕ) → j < n → ((i : ℕ) → i < n → i ≢ j → g i ≡ f i) → sumℤ n g ≡ sumℤ n f -ℤ f j +ℤ g j
  unfolding sumℤ
  sumℤ_change zero j l h = absurd (omega arith)
  sumℤ_change (suc n) j l h = go (last_or_below n j l) (λ b. sumℤ_change n j b (below n h))
    where
      go : (j ≡ n) ⊎ (j < n) → (j < n → sumℤ n g ≡ sumℤ n f -ℤ f j +ℤ g j) → sumℤ n g +ℤ g n ≡ sumℤ n f +ℤ f n -ℤ f j +ℤ g j
      go (inl e) r = rw e
          (ap (λ x. x +ℤ g n) (sumℤ_cong n (λ i b. h i (omega arith) (omega arith))) ∙ ring 3 (λ s x y. s ⊕ y ≈ s ⊕ x ⊖ x ⊕ y) tt (sumℤ n f) (f n) (g n))
      go (inr b) r =
          ap₂ ◌+ℤ◌ (r b) (h n (le_refl (suc n)) (omega arith)) ∙ ring 4 (λ s x y z. s ⊖ x ⊕ y ⊕ z ≈ s ⊕ z ⊖ x ⊕ y) tt (sumℤ n f) (f j) (g j) (f n)

module _ (f g : ℕ → ℤ) where
  pub sumℤ_change₂ : (n j k : ℕ) → j < n → k < n → j ≢ k → ((i : ℕ) → i < n → i ≢ j → i ≢ k → g i ≡ f i) → sumℤ n g ≡ sumℤ n f -ℤ f j +ℤ g j -ℤ f k +ℤ g k
  sumℤ_change₂ n j k lj lk ne h =
      sumℤ_change (patch f j (g j)) g n k lk (λ i l e. at i l e (ℕ_discrete i j)) ∙
      ap (λ x. x -ℤ patch f j (g j) k +ℤ g k) (sumℤ_change f (patch f j (g j)) n j lj (λ i l e. other i e)) ∙
      ap₂ (λ x y. sumℤ n f -ℤ f j +ℤ x -ℤ y +ℤ g k) same (other k (omega arith))
    where
      same : patch f j (g j) j ≡ g j
      same = ap (λ b. cond b (g j) (f j)) (eq-eqb j j refl)

      other : (i : ℕ) → i ≢ j → patch f j (g j) i ≡ f i
      other i e = ap (λ b. cond b (g j) (f i)) (ne_eqb i j e)

      at : (i : ℕ) → i < n → i ≢ k → Dec (i ≡ j) → g i ≡ patch f j (g j) i
      at i l e (yes d) = subst (λ x. g x ≡ patch f j (g j) x) (sym d) (sym same)
      at i l e (no d) = h i l d e ∙ sym (other i d)

module _ (f g : ℕ → ℕ) where
  pub sumℕ_change : (n j : ℕ) → j < n → ((i : ℕ) → i < n → i ≢ j → g i ≡ f i) → sumℕ n g + f j ≡ sumℕ n f + g j
  sumℕ_change n j l h = pos_inj (
      ap (λ x. x +ℤ pos (f j)) (pos_sum n g ∙ sumℤ_change (λ i. pos (f i)) (λ i. pos (g i)) n j l (λ i b e. ap pos (h i b e)) ∙ ap (λ x. x -ℤ pos (f j) +ℤ pos (g j)) (sym (pos_sum n f))) ∙
      ring 3 (λ s x y. s ⊖ x ⊕ y ⊕ x ≈ s ⊕ y) tt (pos (sumℕ n f)) (pos (f j)) (pos (g j)))

  pub sumℕ_change₂ : (n j k : ℕ) → j < n → k < n → j ≢ k → ((i : ℕ) → i < n → i ≢ j → i ≢ k → g i ≡ f i) → sumℕ n g + f j + f k ≡ sumℕ n f + g j + g k
  sumℕ_change₂ n j k lj lk ne h = pos_inj (
      ap (λ x. x +ℤ pos (f j) +ℤ pos (f k)) (pos_sum n g ∙ sumℤ_change₂ (λ i. pos (f i)) (λ i. pos (g i)) n j k lj lk ne (λ i b d e. ap pos (h i b d e)) ∙ ap (λ x. x -ℤ pos (f j) +ℤ pos (g j) -ℤ pos (f k) +ℤ pos (g k)) (sym (pos_sum n f))) ∙
      ring 5 (λ s x y z w. s ⊖ x ⊕ y ⊖ z ⊕ w ⊕ x ⊕ z ≈ s ⊕ y ⊕ w) tt (pos (sumℕ n f)) (pos (f j)) (pos (g j)) (pos (f k)) (pos (g k)))

pub sumℕ-set : (l : List ℕ) (n j v : ℕ) → j < n → j < length l → sumℕ n (λ i. get_or (set l j v) i 0) + get_or l j 0 ≡ sumℕ n (λ i. get_or l i 0) + v
sumℕ-set l n j v h k =
    sumℕ_change (λ i. get_or l i 0) (λ i. get_or (set l j v) i 0) n j h (λ i b e. get_or-set_other l j i v 0 e) ∙
    ap (λ x. sumℕ n (λ i. get_or l i 0) + x) (get_or-set_same l j v 0 k)

-- worked calls: the terms are rewritten by a law that `ring` proves, then the sum goes through
gap_term : (w a y : ℤ) → w *ℤ ((a -ℤ y) *ℤ (a -ℤ y)) ≡ w *ℤ (a *ℤ a) -ℤ pos 2 *ℤ y *ℤ (w *ℤ a) +ℤ w *ℤ (y *ℤ y)
gap_term w a y = ring 3 (λ w a y. w ⊗ ((a ⊖ y) ⊗ (a ⊖ y)) ≈ w ⊗ (a ⊗ a) ⊖ # (pos 2) ⊗ y ⊗ (w ⊗ a) ⊕ w ⊗ (y ⊗ y)) tt w a y

gap_sum : (n : ℕ) (w a : ℕ → ℤ) (y : ℤ) → sumℤ n (λ i. w i *ℤ ((a i -ℤ y) *ℤ (a i -ℤ y))) ≡ sumℤ n (λ i. w i *ℤ (a i *ℤ a i)) -ℤ pos 2 *ℤ y *ℤ sumℤ n (λ i. w i *ℤ a i) +ℤ sumℤ n w *ℤ (y *ℤ y)
gap_sum n w a y = simp (gap_term, sumℤ_add, sumℤ_neg, sumℤ_mul_left, sumℤ_mul_right)

weighted_bound : (n B : ℕ) (f : ℕ → ℕ) → ((i : ℕ) → f i ≤ B) → sumℕ n (λ i. 2 * f i) ≤ 2 * (n * B)
weighted_bound n B f h = simp sumℕ_mul_left (omega (arith, sumℕ_bound n B (λ i l. h i)))
