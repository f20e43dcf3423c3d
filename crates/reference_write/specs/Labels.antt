-- Labels that are lent as their bytes, one label after another, and the index at which each ends.
--     labels_from bytes from ends     the labels that end at these, the first one from an index on
--     ends_reach from ends count      from this index on no end falls, and the last one is this count
--     labels_joined labels            the bytes of these labels, one after another
--     ends_from from labels           where each of these labels ends, the first one standing at an index
use Rattle.std.specs.Prelude.{ℕ, ◌+◌, ◌-◌, Bool, ◌&&◌, List, [], ◌∷◌, ◌++◌, eqb, leb, length, take, drop}

-- ---- the labels that are lent

unfoldable pub labels_from : List ℕ → ℕ → List ℕ → List (List ℕ)
labels_from bytes from [] = []
labels_from bytes from (end ∷ ends) = take (end - from) (drop from bytes) ∷ labels_from bytes end ends

unfoldable pub ends_reach : ℕ → List ℕ → ℕ → Bool
ends_reach from [] count = eqb from count
ends_reach from (end ∷ ends) count = leb from end && ends_reach end ends count

-- ---- how labels are lent

unfoldable pub labels_joined : List (List ℕ) → List ℕ
labels_joined [] = []
labels_joined (label ∷ labels) = label ++ labels_joined labels

unfoldable pub ends_from : ℕ → List (List ℕ) → List ℕ
ends_from from [] = []
ends_from from (label ∷ labels) = let end = from + length label in end ∷ ends_from end labels
