-- The root is the smallest whole number whose square is at least M.
--     root_reaches      its square is at least M
--     root_smallest     no smaller whole number has such a square
--     root_is           it is the number after low, where the square of low is below M and its own is not
--     separation_root_lem   the root of the limit on d² is separation_root
--     root_most         where M is within its limit, so is the root
use Rattle.std.specs.Prelude.{ℕ, zero, suc, ◌+◌, ◌-◌, ◌*◌, ◌^◌, ◌≤◌, ◌<◌, ◌≡◌, refl, Bool, true, false, cond, ltb}
use Rattle.std.proofs.Common.{sym, ap₂, ◌∙◌, subst, le_antisymm, le_trans, mul-le-mul, zero-lt-suc, le_of_lt, mul_assoc, pow-suc, add-one-le, arith, ltb-true, ltb-false, lit<, lit≤}
use Rattle.std.proofs.Math.Nat.{mul-mul-mul_comm}
use Rattle.std.proofs.Math.Decide.{dec_lt}
use Rattle.std.specs.Float.Ieee.{size}
use Rattle.std.specs.Float.Ieee.Digits.{size-lt}
use Rattle.limits.specs.Limits.{channel_limit, coordinate_limit, centre_limit, distance_limit, separation_limit}
use Rattle.chart.specs.Root.{root_below, ceiling_root, separation_root, root_limit}

-- r is the largest whole number whose square is below M
record Below (M r : ℕ) : Type 0 where
  pub under : r * r < M
  pub reached : M ≤ suc r * suc r

below : (b M low : ℕ) → low * low < M → M ≤ (low + 2 ^ b) * (low + 2 ^ b) → Below M (root_below b M low)
unfolding root_below
below zero M low under over =
    let e : low + 2 ^ 0 ≡ suc low = omega arith in
    record { under = under; reached = subst (λ (x : ℕ). M ≤ x * x) e over }
below (suc b) M low under over = go (below b M) (ltb ((low + 2 ^ b) * (low + 2 ^ b)) M) refl
  where
    go : ((l : ℕ) → l * l < M → M ≤ (l + 2 ^ b) * (l + 2 ^ b) → Below M (root_below b M l)) → (t : Bool)
        → ltb ((low + 2 ^ b) * (low + 2 ^ b)) M ≡ t → Below M (root_below b M (cond t (low + 2 ^ b) low))
    go r true e =
        let twice : low + 2 ^ suc b ≡ low + 2 ^ b + 2 ^ b = omega (arith, pow-suc 2 b) in
        r (low + 2 ^ b) (ltb-true ((low + 2 ^ b) * (low + 2 ^ b)) M e) (subst (λ (x : ℕ). M ≤ x * x) twice over)
    go r false e = r low under (ltb-false ((low + 2 ^ b) * (low + 2 ^ b)) M e)

root_below_lem : (k : ℕ) → Below (suc k) (root_below (size (suc k)) (suc k) 0)
root_below_lem k =
    let M = suc k in
    let p : M ≤ 2 ^ size M = le_of_lt (size-lt M) in
    let q : M * 1 ≤ 2 ^ size M * 2 ^ size M = mul-le-mul p (le_trans (zero-lt-suc k) p) in
    below (size M) M 0 (zero-lt-suc k) (omega (arith, q))

pub root_reaches : (M : ℕ) → M ≤ ceiling_root M * ceiling_root M
unfolding ceiling_root
root_reaches zero = omega arith
root_reaches (suc k) = (root_below_lem k).reached

-- a number whose square is below M is below each whose square is not
below_reaching : (M r k : ℕ) → r * r < M → M ≤ k * k → r < k
below_reaching M r k under reached = go (dec_lt r k)
  where
    go : Dec (r < k) → r < k
    go (yes l) = l
    go (no l) =
        let p : k ≤ r = omega arith in
        absurd (omega (arith, under, reached, mul-le-mul p p))

pub root_smallest : (M k : ℕ) → M ≤ k * k → ceiling_root M ≤ k
unfolding ceiling_root
root_smallest zero k h = omega arith
root_smallest (suc j) k h = below_reaching (suc j) (root_below (size (suc j)) (suc j) 0) k (root_below_lem j).under h

pub root_is : (M low : ℕ) → low * low < M → M ≤ (low + 1) * (low + 1) → low + 1 ≡ ceiling_root M
root_is M low under reached =
    le_antisymm (add-one-le (below_reaching M low (ceiling_root M) under (root_reaches M))) (root_smallest M (low + 1) reached)

pub separation_root_lem : ceiling_root separation_limit ≡ separation_root
separation_root_lem = sym (root_is separation_limit (separation_root - 1) (lit< tt) (lit≤ tt))

pub root_most : (D M : ℕ) → M ≤ distance_limit D → ceiling_root M ≤ root_limit D
root_most D M h =
    let width = 2 * coordinate_limit in
    let side = 2 * centre_limit D in
    let e : side ≡ width * D = omega arith in
    let limit : side * side ≡ width * width * (D * D) = ap₂ ◌*◌ e e ∙ mul-mul-mul_comm width D width D in
    root_smallest M (root_limit D)
    (omega (arith, h, mul_assoc channel_limit side side, limit, mul-mul-mul_comm separation_root D separation_root D))
