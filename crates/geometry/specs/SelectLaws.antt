-- Laws of `farthest`, `nearest` and `largest`. `Strict less` says that `less` is a strict order, in which elements may tie; `ltb_strict`: that of
-- the naturals is one.
--     farthest_one, nearest_one             of one row, row 0
--     farthest_taken, farthest_kept         one row more is the far row, or is not; nearest alike
--     farthest-within, nearest-within       the row found is one of the m rows
--     farthest_most                         no row's score is above the far row's
--     farthest_lowest                       every row below the far row has a smaller score
--     nearest_weighted                      the near row has weight, if a row has
--     nearest_least                         no weighted row's score is below the near row's
--     nearest_lowest                        every weighted row below the near row has a larger score
--     farthest_agree, nearest_agree         two orders and scores that agree on the m rows find the same row
--     farthest_cong, nearest_cong, largest_cong     what is found depends on the m rows alone
-- What a pass over m rows keeps once it has seen i of them, for any order and score, and so for a pass of the code:
--     FarSoFar                              the far row of those i rows, and its score
--     far-start                             at row 0, before and after it is seen
--     far_replaced, far_kept, far_done      one row more takes its place, or does not; the last row is seen
--     far-passed, far_among, far_within     k rows more, none of which does; the same pass over more or fewer rows; the row is one of them
--     far_next, near_next                   the same rows, their number said otherwise
--     Picked                                what a pass has at its end
--     Unmet, Met, NearSoFar                 the near row of those i rows and its score, if one of them has weight
--     near-start                            before the first row
--     near_light, near-passed, near_among   one row more, without weight; k such rows; the same pass over more or fewer rows
--     near_replaced, near_kept, near_done   one row more, with weight, takes its place, or does not; the last row is seen
-- Over ℕ with `ltb`, as facts of numbers:
--     farthest_mostℕ, farthest_lowestℕ, nearest_leastℕ, nearest_lowestℕ
--     largest_most, largest_below           the largest is at least each value, and at most what each value is at most
--     largest-farthest, largest_reached     the largest score is the far row's
-- The near row is the far row where `replaces` is the order of the rows themselves (`nearest-farthest`); its laws follow so.
use Prim.Native.Nat.{ℕ, zero, suc, ◌+◌, ◌≤◌, ◌<◌}
use Rattle.std.specs.Prelude.{◌≡◌, ◌⊎◌, Bool, true, false, ltb}
use Rattle.std.proofs.Math.Path.{refl, sym, ap, ap₂}
use Rattle.std.proofs.Common.{◌∙◌, subst, inl, inr, eq-zero-or-pos, add-one}
use Rattle.std.proofs.Math.Bool.{cond, ◌&&◌, ◌||◌}
use Rattle.std.proofs.Math.Nat.{le_refl}
use native.Mathlib.Omega.{arith}
use borrow.Author.Count.{below_more}
use borrow.Author.Tests.{ltb-true, ltb-false, lt-ltb, le-ltb, eq-eqb, ne_eqb, eqb-false}
use Rattle.std.proofs.Math.Dec.{eqb}
use Rattle.geometry.specs.Select.{farthest, replaces, nearest}
use Rattle.geometry.specs.Figures.{largest}
use Rattle.integers.specs.Sum.{sumℕ}
use Rattle.integers.specs.SumLaws.{sumℕ_positive}
use Rattle.integers.specs.Tests.{clash, both}

pub record Strict {A : Type 0} (less : A → A → Bool) : Type 0 where
  pub one_way : (x y : A) → less x y ≡ true → less y x ≡ false
  pub through : (x y z : A) → less x y ≡ false → less y z ≡ false → less x z ≡ false

pub ltb_strict : Strict ltb
ltb_strict =
    record {
      one_way = λ x y h. le-ltb y x (omega (arith, ltb-true x y h));
      through = λ x y z h k. le-ltb x z (omega (arith, ltb-false x y h, ltb-false y z k));
    }

-- ---- tests

-- a test is false if it cannot be true, and true if it cannot be false
refuted : (b : Bool) → (b ≡ true → ⊥) → b ≡ false
refuted true h = absurd (h refl)
refuted false h = refl

affirmed : (b : Bool) → (b ≡ false → ⊥) → b ≡ true
affirmed true h = refl
affirmed false h = absurd (h refl)

-- what holds of the row that a test chooses
choice : (P : ℕ → Type 0) (b : Bool) {x y : ℕ} → (b ≡ true → P x) → (b ≡ false → P y) → P (cond b x y)
choice P true h k = h refl
choice P false h k = k refl

||-false : (a b : Bool) → (a || b) ≡ false → (a ≡ false) × (b ≡ false)
||-false true b h = clash refl h
||-false false b h = (refl, h)

-- ---- the far row

module _ {A : Type 0} (less : A → A → Bool) (score : ℕ → A) where
  pub farthest_one : farthest less score 1 ≡ 0
  unfolding farthest
  farthest_one = choice (λ x. x ≡ 0) (less (score 0) (score 0)) (λ t. refl) (λ t. refl)

  pub farthest_taken : (i : ℕ) → less (score (farthest less score i)) (score i) ≡ true → farthest less score (i + 1) ≡ i
  unfolding farthest
  farthest_taken i h = rw (add-one, h)

  pub farthest_kept : (i : ℕ) → less (score (farthest less score i)) (score i) ≡ false → farthest less score (i + 1) ≡ farthest less score i
  unfolding farthest
  farthest_kept i h = rw (add-one, h)

  far-under : (i : ℕ) → farthest less score i < suc i
  unfolding farthest
  far-under zero = le_refl 1
  far-under (suc i) =
      choice (λ x. x < suc (suc i)) (less (score (farthest less score i)) (score i)) (λ t. omega arith) (λ t. omega (arith, far-under i))

  pub farthest-within : (m : ℕ) → 0 < m → farthest less score m < m
  unfolding farthest
  farthest-within zero h = absurd (omega arith)
  farthest-within (suc i) h = choice (λ x. x < suc i) (less (score (farthest less score i)) (score i)) (λ t. le_refl (suc i)) (λ t. far-under i)

-- two orders and scores that agree on the m rows
module _ {A B : Type 0} (less : A → A → Bool) (score : ℕ → A) (less' : B → B → Bool) (score' : ℕ → B) where
  pub farthest_agree : (m : ℕ) → ((j i : ℕ) → j < m → i < m → less (score j) (score i) ≡ less' (score' j) (score' i))
      → farthest less score m ≡ farthest less' score' m
  unfolding farthest
  farthest_agree zero h = refl
  farthest_agree (suc i) h =
      let same = farthest_agree i (λ j k l r. h j k (omega arith) (omega arith)) in
      ap₂ (λ b x. cond b i x)
      (h (farthest less score i) i (far-under less score i) (le_refl (suc i)) ∙ ap (λ x. less' (score' x) (score' i)) same) same

pub farthest_cong : {A : Type 0} (less : A → A → Bool) (score score' : ℕ → A) (m : ℕ) → ((i : ℕ) → i < m → score i ≡ score' i)
    → farthest less score m ≡ farthest less score' m
farthest_cong less score score' m h = farthest_agree less score less score' m (λ j i l r. ap₂ less (h j l) (h i r))

module _ {A : Type 0} {less : A → A → Bool} (strict : Strict less) (score : ℕ → A) where
  self : (x : A) → less x x ≡ false
  self x = refuted (less x x) (λ t. clash t (strict.one_way x x t))

  pub farthest_most : (m i : ℕ) → i < m → less (score (farthest less score m)) (score i) ≡ false
  unfolding farthest
  farthest_most zero i h = absurd (omega arith)
  farthest_most (suc m) i h =
      let j = farthest less score m in
      choice (λ x. less (score x) (score i) ≡ false) (less (score j) (score m))
      (λ t.
      below_more (λ i. less (score m) (score i) ≡ false) m
      (λ k l. strict.through (score m) (score j) (score k) (strict.one_way (score j) (score m) t) (farthest_most m k l))
      (self (score m)) i (omega arith))
      (λ t. below_more (λ i. less (score j) (score i) ≡ false) m (farthest_most m) t i (omega arith))

  pub farthest_lowest : (m i : ℕ) → i < farthest less score m → less (score i) (score (farthest less score m)) ≡ true
  unfolding farthest
  farthest_lowest zero i h = absurd (omega arith)
  farthest_lowest (suc m) i h =
      let j = farthest less score m in
      choice (λ x. i < x → less (score i) (score x) ≡ true) (less (score j) (score m))
      (λ t l. affirmed (less (score i) (score m)) (λ f. clash t (strict.through (score j) (score i) (score m) (farthest_most m i l) f)))
      (λ t. farthest_lowest m i)
      h

-- ---- the near row

module _ {A : Type 0} (less : A → A → Bool) (w : ℕ → ℕ) (score : ℕ → A) where
  pub nearest-farthest : (m : ℕ) → nearest less w score m ≡ farthest (replaces less w score) (λ i. i) m
  unfolding nearest farthest
  nearest-farthest zero = refl
  nearest-farthest (suc i) = ap (λ j. cond (replaces less w score j i) i j) (nearest-farthest i)

  pub nearest_one : nearest less w score 1 ≡ 0
  nearest_one = nearest-farthest 1 ∙ farthest_one (replaces less w score) (λ i. i)

  pub nearest_taken : (i : ℕ) → replaces less w score (nearest less w score i) i ≡ true → nearest less w score (i + 1) ≡ i
  unfolding nearest
  nearest_taken i h = rw (add-one, h)

  pub nearest_kept : (i : ℕ) → replaces less w score (nearest less w score i) i ≡ false → nearest less w score (i + 1) ≡ nearest less w score i
  unfolding nearest
  nearest_kept i h = rw (add-one, h)

  pub nearest-within : (m : ℕ) → 0 < m → nearest less w score m < m
  nearest-within m h = rw nearest-farthest (farthest-within (replaces less w score) (λ i. i) m h)

  replaces_true : (j i : ℕ) → replaces less w score j i ≡ true → (0 < w i) × (0 < w j → less (score i) (score j) ≡ true)
  unfolding replaces
  replaces_true j i h =
      let p = both (ltb 0 (w i)) (eqb (w j) 0 || less (score i) (score j)) h in
      (ltb-true 0 (w i) p.0, λ k. ap (λ b. b || less (score i) (score j)) (sym (ne_eqb (w j) 0 (omega arith))) ∙ p.1)

  replaces_false : (j i : ℕ) → replaces less w score j i ≡ false → 0 < w i → (0 < w j) × (less (score i) (score j) ≡ false)
  unfolding replaces
  replaces_false j i h k =
      let p = ||-false (eqb (w j) 0) (less (score i) (score j))
      (ap (λ b. b && (eqb (w j) 0 || less (score i) (score j))) (sym (lt-ltb 0 (w i) k)) ∙ h) in
      (omega (arith, eqb-false (w j) 0 p.0), p.1)

module _ {A B : Type 0} (less : A → A → Bool) (w : ℕ → ℕ) (score : ℕ → A) (less' : B → B → Bool) (w' : ℕ → ℕ) (score' : ℕ → B) where
  pub nearest_agree : (m : ℕ) → ((i : ℕ) → i < m → w i ≡ w' i)
      → ((j i : ℕ) → j < m → i < m → less (score j) (score i) ≡ less' (score' j) (score' i))
      → nearest less w score m ≡ nearest less' w' score' m
  unfolding replaces
  nearest_agree m h k =
      nearest-farthest less w score m ∙
      farthest_agree (replaces less w score) (λ i. i) (replaces less' w' score') (λ i. i) m
      (λ j i l r. ap₂ ◌&&◌ (ap (ltb 0) (h i r)) (ap₂ ◌||◌ (ap (λ x. eqb x 0) (h j l)) (k i j r l))) ∙
      sym (nearest-farthest less' w' score' m)

pub nearest_cong : {A : Type 0} (less : A → A → Bool) (w w' : ℕ → ℕ) (score score' : ℕ → A) (m : ℕ) → ((i : ℕ) → i < m → w i ≡ w' i)
    → ((i : ℕ) → i < m → score i ≡ score' i) → nearest less w score m ≡ nearest less w' score' m
nearest_cong less w w' score score' m h k = nearest_agree less w score less w' score' m h (λ j i l r. ap₂ less (k j l) (k i r))

module _ {A : Type 0} {less : A → A → Bool} (strict : Strict less) (w : ℕ → ℕ) (score : ℕ → A) where
  replaces_strict : Strict (replaces less w score)
  replaces_strict = record { one_way = one_way; through = through }
    where
      one_way : (x y : ℕ) → replaces less w score x y ≡ true → replaces less w score y x ≡ false
      one_way x y h = refuted (replaces less w score y x) (λ t.
          let p = replaces_true less w score x y h in
          let q = replaces_true less w score y x t in
          clash (p.1 q.0) (strict.one_way (score x) (score y) (q.1 p.0)))

      through : (x y z : ℕ) → replaces less w score x y ≡ false → replaces less w score y z ≡ false → replaces less w score x z ≡ false
      through x y z h k = refuted (replaces less w score x z) (λ t.
          let p = replaces_true less w score x z t in
          let q = replaces_false less w score y z k p.0 in
          let r = replaces_false less w score x y h q.0 in
          clash (p.1 r.0) (strict.through (score z) (score y) (score x) q.1 r.1))

  near_most : (m i : ℕ) → i < m → 0 < w i → (0 < w (nearest less w score m)) × (less (score i) (score (nearest less w score m)) ≡ false)
  near_most m i h k = rw nearest-farthest
      (replaces_false less w score (farthest (replaces less w score) (λ i. i) m) i (farthest_most replaces_strict (λ i. i) m i h) k)

  pub nearest_weighted : (m i : ℕ) → i < m → 0 < w i → 0 < w (nearest less w score m)
  nearest_weighted m i h k = (near_most m i h k).0

  pub nearest_least : (m i : ℕ) → i < m → 0 < w i → less (score i) (score (nearest less w score m)) ≡ false
  nearest_least m i h k = (near_most m i h k).1

  pub nearest_lowest : (m i : ℕ) → i < nearest less w score m → 0 < w i → less (score (nearest less w score m)) (score i) ≡ true
  nearest_lowest m i = rw nearest-farthest
      (λ h k. (replaces_true less w score i (farthest (replaces less w score) (λ i. i) m) (farthest_lowest replaces_strict (λ i. i) m i h)).1 k)

-- ---- passes over the rows

pub record FarSoFar {A : Type 0} (less : A → A → Bool) (score : ℕ → A) (m i row : ℕ) (best : A) : Type 0 where
  pub most : i ≤ m
  pub row_is : row ≡ farthest less score i
  pub best_is : best ≡ score row

-- what a pass has at its end, `pick` being the row of the definition
pub record Picked {A : Type 0} (score : ℕ → A) (m pick row : ℕ) (best : A) : Type 0 where
  pub row_is : row ≡ pick
  pub within : row < m
  pub best_is : best ≡ score row

module _ {A : Type 0} {less : A → A → Bool} {score : ℕ → A} {m : ℕ} where
  pub far-start : {i : ℕ} {best : A} → i ≤ m → i ≤ 1 → best ≡ score 0 → FarSoFar less score m i 0 best
  unfolding farthest
  far-start {i} most low e = record { most = most; row_is = go i low; best_is = e }
    where
      go : (i : ℕ) → i ≤ 1 → 0 ≡ farthest less score i
      go zero l = refl
      go (suc zero) l = sym (farthest_one less score)
      go (suc (suc i)) l = absurd (omega arith)

  module _ {i row : ℕ} {best s : A} (f : FarSoFar less score m i row best) (l : i < m) (e : s ≡ score i) where
    tested : less (score (farthest less score i)) (score i) ≡ less best s
    tested = ap₂ less (sym (f.best_is ∙ ap score f.row_is)) (sym e)

    pub far_replaced : {row' : ℕ} {best' : A} → less best s ≡ true → row' ≡ i → best' ≡ s → FarSoFar less score m (i + 1) row' best'
    far_replaced h p q =
        record { most = omega arith; row_is = p ∙ sym (farthest_taken less score i (tested ∙ h)); best_is = q ∙ e ∙ ap score (sym p) }

    pub far_kept : {row' : ℕ} {best' : A} → less best s ≡ false → row' ≡ row → best' ≡ best → FarSoFar less score m (i + 1) row' best'
    far_kept h p q =
        record {
          most = omega arith;
          row_is = p ∙ f.row_is ∙ sym (farthest_kept less score i (tested ∙ h));
          best_is = q ∙ f.best_is ∙ ap score (sym p);
        }

  pub far_next : {i i' row : ℕ} {best : A} → FarSoFar less score m i row best → i ≡ i' → FarSoFar less score m i' row best
  far_next {row = row} {best} f e = subst (λ x. FarSoFar less score m x row best) e f

  pub far_done : {i row : ℕ} {best : A} → FarSoFar less score m i row best → m ≤ i → 0 < m → Picked score m (farthest less score m) row best
  far_done {i} f h some =
      let all : i ≡ m = omega (arith, f.most) in
      let found = f.row_is ∙ ap (farthest less score) all in
      record { row_is = found; within = subst (λ j. j < m) (sym found) (farthest-within less score m some); best_is = f.best_is }

  pub far_among : {i row : ℕ} {best : A} → FarSoFar less score m i row best → (m' : ℕ) → i ≤ m' → FarSoFar less score m' i row best
  far_among f m' l = record { most = l; row_is = f.row_is; best_is = f.best_is }

  pub far_within : {i row : ℕ} {best : A} → FarSoFar less score m i row best → 0 < m → row < m
  unfolding farthest
  far_within {i} f some = go i f.most f.row_is
    where
      go : (i : ℕ) {row : ℕ} → i ≤ m → row ≡ farthest less score i → row < m
      go zero l e = omega (arith, e)
      go (suc i) l e = omega (arith, e, farthest-within less score (suc i) (omega arith))

  pub far-passed : (k : ℕ) {i row : ℕ} {best : A} → FarSoFar less score m i row best → i + k ≤ m
      → ((j : ℕ) → j < k → less best (score (i + j)) ≡ false) → FarSoFar less score m (i + k) row best
  far-passed zero f l h = far_next f (omega arith)
  far-passed (suc k) f l h =
      far_next (far_kept (far-passed k f (omega arith) (λ j b. h j (omega arith))) (omega arith) refl (h k (omega arith)) refl refl) (omega arith)

-- before the first row of weight above 0: `above` is kept, above every score
pub record Unmet {A : Type 0} (w : ℕ → ℕ) (above : A) (i row : ℕ) (best : A) : Type 0 where
  pub none : (j : ℕ) → j < i → w j ≡ 0
  pub row_is : row ≡ 0
  pub best_is : best ≡ above

-- and after it
pub record Met {A : Type 0} (less : A → A → Bool) (w : ℕ → ℕ) (score : ℕ → A) (i row : ℕ) (best : A) : Type 0 where
  pub weighted : 0 < w row
  pub row_is : row ≡ nearest less w score i
  pub best_is : best ≡ score row

pub record NearSoFar {A : Type 0} (less : A → A → Bool) (w : ℕ → ℕ) (score : ℕ → A) (above : A) (m i row : ℕ) (best : A) : Type 0 where
  pub most : i ≤ m
  pub so_far : Unmet w above i row best ⊎ Met less w score i row best

module _ {A : Type 0} (less : A → A → Bool) (w : ℕ → ℕ) (score : ℕ → A) where
  -- a row without weight is not the near row
  passed_over : (i : ℕ) → w i ≡ 0 → nearest less w score (i + 1) ≡ nearest less w score i
  unfolding replaces
  passed_over i h =
      let j = nearest less w score i in
      nearest_kept less w score i (ap (λ t. t && (eqb (w j) 0 || less (score i) (score j))) (le-ltb 0 (w i) (omega arith)))

  none_yet : (i : ℕ) → ((j : ℕ) → j < i → w j ≡ 0) → nearest less w score i ≡ 0
  unfolding nearest
  none_yet zero h = refl
  none_yet (suc i) h =
      ap (nearest less w score) (sym (add-one i)) ∙ passed_over i (h i (le_refl (suc i))) ∙ none_yet i (λ j l. h j (omega arith))

module _ {A : Type 0} {less : A → A → Bool} {w : ℕ → ℕ} {score : ℕ → A} {above : A} {m : ℕ} where
  pub near-start : NearSoFar less w score above m 0 0 above
  near-start = record { most = omega arith; so_far = inl record { none = λ j l. absurd (omega arith); row_is = refl; best_is = refl } }

  module _ {i row : ℕ} {best : A} (f : NearSoFar less w score above m i row best) (l : i < m) where
    pub near_light : {row' : ℕ} {best' : A} → w i ≤ 0 → row' ≡ row → best' ≡ best → NearSoFar less w score above m (i + 1) row' best'
    near_light {row'} {best'} light p q = record { most = omega arith; so_far = go f.so_far }
      where
        go : Unmet w above i row best ⊎ Met less w score i row best → Unmet w above (i + 1) row' best' ⊎ Met less w score (i + 1) row' best'
        go (inl u) = inl record { none = below_more (λ j. w j ≡ 0) i u.none (omega arith); row_is = p ∙ u.row_is; best_is = q ∙ u.best_is }
        go (inr k) =
            inr record {
              weighted = subst (λ r. 0 < w r) (sym p) k.weighted;
              row_is = p ∙ k.row_is ∙ sym (passed_over less w score i (omega arith));
              best_is = q ∙ k.best_is ∙ ap score (sym p);
            }

    module _ {s : A} (e : s ≡ score i) (h : 0 < w i) where
      -- the definition's test at row i, where the row kept so far is j
      test : {j : ℕ} → nearest less w score i ≡ j → replaces less w score (nearest less w score i) i ≡ (eqb (w j) 0 || less (score i) (score j))
      unfolding replaces
      test p = ap₂ ◌&&◌ (lt-ltb 0 (w i) h) (ap (λ j. eqb (w j) 0 || less (score i) (score j)) p)

      -- and where that row has weight, the test of the two scores
      against : Met less w score i row best → replaces less w score (nearest less w score i) i ≡ less s best
      against k = test (sym k.row_is) ∙ ap₂ ◌||◌ (ne_eqb (w row) 0 (omega (arith, k.weighted))) (ap₂ less (sym e) (sym k.best_is))

      taken : less s best ≡ true → nearest less w score (i + 1) ≡ i
      taken below = go f.so_far (eq-zero-or-pos i)
        where
          go : Unmet w above i row best ⊎ Met less w score i row best → (i ≡ 0) ⊎ (0 < i) → nearest less w score (i + 1) ≡ i
          go (inl u) (inl z) = ap (λ k. nearest less w score (k + 1)) z ∙ nearest_one less w score ∙ sym z
          go (inl u) (inr p) =
              nearest_taken less w score i
              (test (none_yet less w score i u.none) ∙ ap (λ t. t || less (score i) (score 0)) (eq-eqb (w 0) 0 (u.none 0 p)))
          go (inr k) _ = nearest_taken less w score i (against k ∙ below)

      pub near_replaced : {row' : ℕ} {best' : A} → less s best ≡ true → row' ≡ i → best' ≡ s → NearSoFar less w score above m (i + 1) row' best'
      near_replaced below p q =
          record {
            most = omega arith;
            so_far = inr record {
              weighted = subst (λ r. 0 < w r) (sym p) h;
              row_is = p ∙ sym (taken below);
              best_is = q ∙ e ∙ ap score (sym p);
            };
          }

      -- every score is below what is kept before the first row of weight above 0
      pub near_kept : {row' : ℕ} {best' : A} → less s above ≡ true → less s best ≡ false → row' ≡ row → best' ≡ best
          → NearSoFar less w score above m (i + 1) row' best'
      near_kept {row'} {best'} lower not-below p q = record { most = omega arith; so_far = inr (go f.so_far) }
        where
          go : Unmet w above i row best ⊎ Met less w score i row best → Met less w score (i + 1) row' best'
          go (inl u) = clash lower (ap (less s) (sym u.best_is) ∙ not-below)
          go (inr k) =
              record {
                weighted = subst (λ r. 0 < w r) (sym p) k.weighted;
                row_is = p ∙ k.row_is ∙ sym (nearest_kept less w score i (against k ∙ not-below));
                best_is = q ∙ k.best_is ∙ ap score (sym p);
              }

  pub near_among : {i row : ℕ} {best : A} → NearSoFar less w score above m i row best → (m' : ℕ) → i ≤ m' → NearSoFar less w score above m' i row best
  near_among f m' l = record { most = l; so_far = f.so_far }

  pub near_next : {i i' row : ℕ} {best : A} → NearSoFar less w score above m i row best → i ≡ i' → NearSoFar less w score above m i' row best
  near_next {row = row} {best} f e = subst (λ x. NearSoFar less w score above m x row best) e f

  pub near-passed : (k : ℕ) {i row : ℕ} {best : A} → NearSoFar less w score above m i row best → i + k ≤ m
      → ((j : ℕ) → j < k → w (i + j) ≤ 0) → NearSoFar less w score above m (i + k) row best
  near-passed zero f l h = near_next f (omega arith)
  near-passed (suc k) f l h =
      near_next (near_light (near-passed k f (omega arith) (λ j b. h j (omega arith))) (omega arith) (h k (omega arith)) refl refl) (omega arith)

  -- some row has weight
  pub near_done : {i row : ℕ} {best : A} → NearSoFar less w score above m i row best → m ≤ i → 0 < sumℕ m w
      → Picked score m (nearest less w score m) row best
  near_done {i} {row} {best} f h some = go f.so_far
    where
      go : Unmet w above i row best ⊎ Met less w score i row best → Picked score m (nearest less w score m) row best
      go (inl u) = let p = sumℕ_positive w m some in absurd (omega (arith, u.none p.0 (omega (arith, p.1)), p.2))
      go (inr k) =
          let all : i ≡ m = omega (arith, f.most) in
          let found = k.row_is ∙ ap (nearest less w score) all in
          let rows : 0 < m = omega (arith, (sumℕ_positive w m some).1) in
          record { row_is = found; within = subst (λ j. j < m) (sym found) (nearest-within less w score m rows); best_is = k.best_is }

-- ---- over ℕ

pub farthest_mostℕ : (s : ℕ → ℕ) (m i : ℕ) → i < m → s i ≤ s (farthest ltb s m)
farthest_mostℕ s m i h = ltb-false (s (farthest ltb s m)) (s i) (farthest_most ltb_strict s m i h)

pub farthest_lowestℕ : (s : ℕ → ℕ) (m i : ℕ) → i < farthest ltb s m → s i < s (farthest ltb s m)
farthest_lowestℕ s m i h = ltb-true (s i) (s (farthest ltb s m)) (farthest_lowest ltb_strict s m i h)

pub nearest_leastℕ : (w s : ℕ → ℕ) (m i : ℕ) → i < m → 0 < w i → s (nearest ltb w s m) ≤ s i
nearest_leastℕ w s m i h k = ltb-false (s i) (s (nearest ltb w s m)) (nearest_least ltb_strict w s m i h k)

pub nearest_lowestℕ : (w s : ℕ → ℕ) (m i : ℕ) → i < nearest ltb w s m → 0 < w i → s (nearest ltb w s m) < s i
nearest_lowestℕ w s m i h k = ltb-true (s (nearest ltb w s m)) (s i) (nearest_lowest ltb_strict w s m i h k)

-- ---- the largest

pub largest_cong : (f g : ℕ → ℕ) (m : ℕ) → ((i : ℕ) → i < m → f i ≡ g i) → largest m f ≡ largest m g
unfolding largest
largest_cong f g zero h = refl
largest_cong f g (suc m) h = omega (arith, largest_cong f g m (λ i l. h i (omega arith)), h m (le_refl (suc m)))

module _ (f : ℕ → ℕ) where
  pub largest_most : (m i : ℕ) → i < m → f i ≤ largest m f
  unfolding largest
  largest_most zero i h = absurd (omega arith)
  largest_most (suc m) i h =
      below_more (λ i. f i ≤ largest (suc m) f) m (λ k l. omega (arith, largest_most m k l)) (omega arith) i (omega arith)

  pub largest_below : (m B : ℕ) → ((i : ℕ) → i < m → f i ≤ B) → largest m f ≤ B
  unfolding largest
  largest_below zero B h = omega arith
  largest_below (suc m) B h = omega (arith, largest_below m B (λ i l. h i (omega arith)), h m (le_refl (suc m)))

  pub largest-farthest : (m : ℕ) → 0 < m → largest m f ≡ f (farthest ltb f m)
  largest-farthest m h =
      omega (arith, largest_below m (f (farthest ltb f m)) (farthest_mostℕ f m), largest_most m (farthest ltb f m) (farthest-within ltb f m h))

  pub largest_reached : (m : ℕ) → 0 < m → (i : ℕ) × (i < m) × (f i ≡ largest m f)
  largest_reached m h = (farthest ltb f m, farthest-within ltb f m h, sym (largest-farthest m h))
