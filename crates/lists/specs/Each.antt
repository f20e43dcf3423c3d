-- What holds at each place of a list.
--     Each P d l               P holds at each place of l; d is the default of get_or, never met
--     each_cons                what holds of an element and of each of the others
--     each_head, each_tail     what holds of each holds of the first and of each of the others
--     each_append              what holds at each place of two lists
use Rattle.std.specs.Prelude.{ℕ, zero, suc, ◌<◌, List, [], ◌∷◌, ◌++◌, length, get_or}
use Rattle.std.proofs.Common.{arith, le_of_suc-le-suc}

abbrev pub Each : {A : Type 0} → (A → Type 0) → A → List A → Type 0
Each P d l = (k : ℕ) → k < length l → P (get_or l k d)

module _ {A : Type 0} (P : A → Type 0) (d : A) where
  pub each_cons : (x : A) (l : List A) → P x → Each P d l → Each P d (x ∷ l)
  each_cons x l p q zero h = p
  each_cons x l p q (suc k) h = q k (le_of_suc-le-suc h)

  pub each_head : (x : A) (l : List A) → Each P d (x ∷ l) → P x
  each_head x l q = q 0 (omega arith)

  pub each_tail : (x : A) (l : List A) → Each P d (x ∷ l) → Each P d l
  each_tail x l q k h = q (suc k) (omega arith)

  pub each_append : (l m : List A) → Each P d l → Each P d m → Each P d (l ++ m)
  each_append [] m p q = q
  each_append (x ∷ l) m p q = each_cons x (l ++ m) (each_head x l p) (each_append l m (each_tail x l p) q)
