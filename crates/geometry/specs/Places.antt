-- Lists that stand for points and weights.
--     tabulate c f              the list f 0, …, f (c - 1)
--     centre_list n X            X in its eight places, those past n being 0
--     centre_of x                the point that a list of coordinates is
--     weights_total m ws         the sum of the first m weights
use Rattle.std.specs.Prelude.{ℕ, zero, suc, cond, List, [], ◌∷◌, ◌++◌, ltb, ℤ, pos, get_or}
use Rattle.integers.specs.Sum.{sumℕ}
use Rattle.geometry.specs.Move.{weight_of}
use Rattle.limits.specs.Limits.{channel_limit}

unfoldable pub tabulate : {A : Type 0} → ℕ → (ℕ → A) → List A
tabulate zero f = []
tabulate (suc c) f = tabulate c f ++ (f c ∷ [])

unfoldable pub centre_list : ℕ → (ℕ → ℤ) → List ℤ
centre_list n X = tabulate channel_limit (λ k. cond (ltb k n) (X k) (pos 0))

abbrev pub centre_of : List ℤ → ℕ → ℤ
centre_of x k = get_or x k (pos 0)

unfoldable pub weights_total : ℕ → List ℕ → ℕ
weights_total m ws = sumℕ m (weight_of ws)
