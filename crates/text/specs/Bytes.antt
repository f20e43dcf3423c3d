-- Where a byte stands in a text.
--     index_after here k      the index of a byte that stands first, or in what follows the first byte at index k
--     index_of c l            the index of the first byte c of l; the length of l where there is none
--     slice from to l         the part of l from index `from` up to index `to`
use Rattle.std.specs.Prelude.{ℕ, suc, Bool, true, false, List, [], ◌∷◌, eqb, take, drop}

abbrev pub index_after : Bool → ℕ → ℕ
index_after true k = 0
index_after false k = suc k

unfoldable pub index_of : ℕ → List ℕ → ℕ
index_of c [] = 0
index_of c (b ∷ l) = index_after (eqb b c) (index_of c l)

unfoldable pub slice : ℕ → ℕ → List ℕ → List ℕ
slice from to l = drop from (take to l)
