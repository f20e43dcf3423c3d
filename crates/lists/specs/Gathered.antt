-- What is gathered from the elements of a list one by one, if each gives something.
--     gathered_none, gathered_next      what is gathered from all is what is so far and what the rest gives
use Rattle.std.specs.Prelude.{◌≡◌, refl, List, [], ◌∷◌, ◌++◌}
use Rattle.std.proofs.Common.{sym, ap, append_assoc}
use Rattle.std.proofs.Math.Option.{Option, none, some, map}

module _ {A : Type 0} where
  pub gathered_none : (o : Option (List A)) → o ≡ map (λ (l : List A). [] ++ l) o
  gathered_none none = refl
  gathered_none (some l) = refl

  pub gathered_next : (xs : List A) (x : A) (o : Option (List A))
      → map (λ (l : List A). xs ++ l) (map (λ (l : List A). x ∷ l) o) ≡ map (λ (l : List A). (xs ++ (x ∷ [])) ++ l) o
  gathered_next xs x none = refl
  gathered_next xs x (some l) = ap some (sym (append_assoc xs (x ∷ []) l))
