-- What a lent slice holds after a call that fills its first places.
--     filled number count source lent        a lent slice after a call that answers with this number
--     Filling, filling_none, -next, -done    a lent slice as it is filled place by place
--     filled-refused                         one that a refused call leaves
--     filled-length                          it has as many places as before
use Rattle.std.specs.Prelude.{ℕ, zero, suc, ◌+◌, ◌≤◌, ◌<◌, ◌≡◌, List, [], ◌∷◌, ◌++◌, length, get_or}
use Rattle.std.proofs.Common.{zero-le, sym, ◌∙◌, arith, le_antisymm, le_of_suc-le-suc, not-suc-le-zero, add-one, length-append, length-drop, length-take-le}
use Rattle.std.proofs.Math.Path.{refl, ap, ap₂}
use Rattle.std.proofs.Math.ListN.{set, take, drop, length-set}

-- where accepted, the first places are the source's and the others as they were lent; else every place is
unfoldable pub filled : {A : Type 0} → ℕ → ℕ → List A → List A → List A
filled zero count source lent = take count source ++ drop count lent
filled (suc number) count source lent = lent

-- before turn i of a loop that copies count places: the first i are the source's, the others as they were lent
pub record Filling {A : Type 0} (lent₀ source : List A) (count : ℕ) (lent : List A) (i : ℕ) : Type 0 where
  pub within : i ≤ count
  pub so_far : lent ≡ filled 0 i source lent₀
  pub same_length : length lent ≡ length lent₀

next : {A : Type 0} (i : ℕ) (lent source : List A) (z : A) → i < length lent → i < length source
    → set (take i source ++ drop i lent) i (get_or source i z) ≡ take (suc i) source ++ drop (suc i) lent
next i [] source z h k = absurd (not-suc-le-zero h)
next i (x ∷ xs) [] z h k = absurd (not-suc-le-zero k)
next zero (x ∷ xs) (y ∷ ys) z h k = refl
next (suc i) (x ∷ xs) (y ∷ ys) z h k = ap (λ l. y ∷ l) (next i xs ys z (le_of_suc-le-suc h) (le_of_suc-le-suc k))

module _ {A : Type 0} {lent₀ source : List A} {count : ℕ} where
  pub filling_none : Filling lent₀ source count lent₀ 0
  unfolding filled
  filling_none = record { within = zero-le; so_far = refl; same_length = refl }

  pub filling_next : {lent : List A} {i : ℕ} {v : A} (z : A) → (count ≤ length lent₀) × (count ≤ length source) → i < count
      → Filling lent₀ source count lent i → v ≡ get_or source i z → Filling lent₀ source count (set lent i v) (i + 1)
  unfolding filled
  filling_next {lent} {i} {v} z asked h f e =
      record {
        within = omega arith;
        so_far =
            ap₂ (λ l x. set l i x) f.so_far e ∙ next i lent₀ source z (omega arith) (omega arith)
            ∙ ap (λ j. take j source ++ drop j lent₀) (sym (add-one i));
        same_length = length-set lent i v ∙ f.same_length;
      }

  pub filling_done : {lent : List A} {i : ℕ} → count ≤ i → Filling lent₀ source count lent i → lent ≡ filled 0 count source lent₀
  filling_done h f = f.so_far ∙ ap (λ j. filled 0 j source lent₀) (le_antisymm f.within h)

pub filled-refused : {A : Type 0} (number count : ℕ) (source lent : List A) → (number ≡ 0 → ⊥) → lent ≡ filled number count source lent
unfolding filled
filled-refused zero count source lent h = absurd (h refl)
filled-refused (suc number) count source lent h = refl

pub filled-length : {A : Type 0} (number count : ℕ) (source lent : List A) → count ≤ length source → count ≤ length lent
    → length (filled number count source lent) ≡ length lent
unfolding filled
filled-length zero count source lent h k =
    length-append (take count source) (drop count lent) ∙ omega (arith, length-take-le count source h, length-drop count lent)
filled-length (suc number) count source lent h k = refl
