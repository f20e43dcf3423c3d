-- What is kept of a number.
--     signed_fits, held_fits     what an i64 keeps of a number fits it
--     held_size, held_same       the size of a kept number, and a number that is kept as it is
--     held-negative              a number below 0 stays below 0
use Rattle.std.specs.Prelude.{ℕ, suc, ◌-◌, ◌<◌, min, ◌≡◌, refl, Bool, true, false, ℤ, pos, negsuc, neg_ℤ, nat_abs}
use Rattle.std.proofs.Common.{ap, arith, SFits}
use Rattle.std.specs.Int.{w64}
use Rattle.integers.specs.Absolute.{abs_neg, fits64}
use Rattle.record_lines.specs.Clauses.{held_limit, held_signed, held}

pub signed_fits : (negative : Bool) (magnitude : ℕ) → SFits w64 (held_signed negative magnitude)
signed_fits false magnitude = fits64 (held_signed false magnitude) (omega arith)
signed_fits true magnitude = fits64 (held_signed true magnitude) (omega (arith, abs_neg (pos (min magnitude held_limit))))

pub held_fits : (z : ℤ) → SFits w64 (held z)
held_fits (pos k) = signed_fits false k
held_fits (negsuc k) = signed_fits true (suc k)

pub held_size : (z : ℤ) → nat_abs (held z) ≡ min (nat_abs z) held_limit
held_size (pos k) = refl
held_size (negsuc k) = abs_neg (pos (min (suc k) held_limit))

pub held_same : (z : ℤ) → nat_abs z < held_limit → held z ≡ z
held_same (pos k) h = ap pos (omega arith)
held_same (negsuc k) h = let e : min (suc k) held_limit ≡ suc k = omega arith in ap (λ j. neg_ℤ (pos j)) e

pub held-negative : (k : ℕ) → (j : ℕ) × (held (negsuc k) ≡ negsuc j)
held-negative k =
    let j = min (suc k) held_limit - 1 in
    let n : min (suc k) held_limit ≡ suc j = omega arith in
    (j, ap (λ m. neg_ℤ (pos m)) n)
