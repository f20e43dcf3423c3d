-- The two rows of a move (formula 24), over any score whose order `less` decides; ties go to the lowest row.
--     farthest less score m        the lowest of the m rows with the largest score
--     replaces less w score j i    row i takes row j's place as the near row of the rows so far
--     nearest less w score m       the lowest of the rows of weight above 0 with the smallest score
-- `less x y` says that x is strictly below y. Both go through the rows in order and keep the row found so far, row 0 before
-- the first: after each row they hold the far row, and the near row if there is one yet, of the rows so far. While no row of
-- weight above 0 has been met, the near row kept is row 0 with weight 0.
use Rattle.std.specs.Prelude.{ℕ, zero, suc, Bool, cond, ◌&&◌, ◌||◌, ltb, eqb}

unfoldable pub farthest : {A : Type 0} → (A → A → Bool) → (ℕ → A) → ℕ → ℕ
farthest less score zero = 0
farthest less score (suc i) = let j = farthest less score i in cond (less (score j) (score i)) i j

-- row i has weight, and row j has none or a larger score
unfoldable pub replaces : {A : Type 0} → (A → A → Bool) → (ℕ → ℕ) → (ℕ → A) → ℕ → ℕ → Bool
replaces less w score j i = ltb 0 (w i) && (eqb (w j) 0 || less (score i) (score j))

unfoldable pub nearest : {A : Type 0} → (A → A → Bool) → (ℕ → ℕ) → (ℕ → A) → ℕ → ℕ
nearest less w score zero = 0
nearest less w score (suc i) = let j = nearest less w score i in cond (replaces less w score j i) i j
