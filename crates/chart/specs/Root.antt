-- Document 01, "Chart and panel": the smallest whole number whose square is at least M.
--     root_below b M low     the largest whole number below low + 2^b whose square is below M, where the square of low is
--     ceiling_root M         the smallest whole number whose square is at least M; RootLaws shows both halves
--     separation_root        this of the limit on d²
--     root_limit D           a whole number whose square is at least the limit on M for a total D
use Rattle.std.specs.Prelude.{ℕ, zero, suc, ◌+◌, ◌*◌, ◌^◌, cond, ltb}
use Rattle.std.specs.Float.Ieee.{size}

-- digit by digit from the highest of b binary digits
unfoldable pub root_below : ℕ → ℕ → ℕ → ℕ
root_below zero M low = low
root_below (suc b) M low = let next = low + 2 ^ b in root_below b M (cond (ltb (next * next) M) next low)

-- a number has no more binary digits than its square
unfoldable pub ceiling_root : ℕ → ℕ
ceiling_root zero = 0
ceiling_root (suc k) = suc (root_below (size (suc k)) (suc k) 0)

-- `separation_root_lem` shows it
abbrev pub separation_root : ℕ
separation_root = 22628

-- the limit on M is D² times the limit on d²
abbrev pub root_limit : ℕ → ℕ
root_limit D = separation_root * D
