-- A list in an array that may be longer.
--     padded count l     l with zeros after it, in all count places
--     padded-take        it starts with the list
--     padded_first       the same, by the length of the list
--     padded-length      it has count places
--     padded_next        one number more, in the first place that has none
use Rattle.std.specs.Prelude.{ℕ, zero, suc, ◌≤◌, ◌<◌, ◌≡◌, refl, List, [], ◌∷◌, ◌++◌, length, set, take}
use Rattle.std.proofs.Common.{sym, ◌∙◌, ap, arith}

unfoldable pub padded : ℕ → List ℕ → List ℕ
padded zero l = []
padded (suc count) [] = 0 ∷ padded count []
padded (suc count) (b ∷ l) = b ∷ padded count l

pub padded-take : (count : ℕ) (l : List ℕ) → length l ≤ count → take (length l) (padded count l) ≡ l
unfolding padded
padded-take count [] h = refl
padded-take zero (b ∷ l) h = absurd (omega arith)
padded-take (suc count) (b ∷ l) h = ap (λ k. b ∷ k) (padded-take count l (omega arith))

pub padded_first : (count n : ℕ) (l : List ℕ) → length l ≡ n → n ≤ count → take n (padded count l) ≡ l
padded_first count n l e h = ap (λ k. take k (padded count l)) (sym e) ∙ padded-take count l (omega arith)

pub padded-length : (count : ℕ) (l : List ℕ) → length (padded count l) ≡ count
unfolding padded
padded-length zero l = refl
padded-length (suc count) [] = ap suc (padded-length count [])
padded-length (suc count) (b ∷ l) = ap suc (padded-length count l)

pub padded_next : (count : ℕ) (l : List ℕ) (b : ℕ) → length l < count → set (padded count l) (length l) b ≡ padded count (l ++ (b ∷ []))
unfolding padded
padded_next zero l b h = absurd (omega arith)
padded_next (suc count) [] b h = refl
padded_next (suc count) (a ∷ l) b h = ap (λ k. a ∷ k) (padded_next count l b (omega arith))
