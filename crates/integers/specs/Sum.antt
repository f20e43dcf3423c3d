-- Sums over a range, and squares. A worked call stands at the end.
--     sumℤ n f     f 0 + … + f (n - 1), over the integers
--     sumℕ n f     the same over the natural numbers
--     square z     the square of an integer, as a natural number
use Rattle.std.specs.Prelude.{ℕ, zero, suc, ◌+◌, ◌*◌, ◌≡◌, refl, ℤ, pos, nat_abs, ◌+ℤ◌}

unfoldable pub sumℤ : ℕ → (ℕ → ℤ) → ℤ
sumℤ zero f = pos 0
sumℤ (suc n) f = sumℤ n f +ℤ f n

unfoldable pub sumℕ : ℕ → (ℕ → ℕ) → ℕ
sumℕ zero f = 0
sumℕ (suc n) f = sumℕ n f + f n

unfoldable pub square : ℤ → ℕ
square z = nat_abs z * nat_abs z

-- a worked call: 0 + 1 + 2
three_terms : sumℕ 3 (λ k. k) ≡ 3
unfolding sumℕ
three_terms = refl
