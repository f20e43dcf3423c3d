-- A sum of natural numbers that a loop gathers, one term a turn, as its invariant.
--     Partial B c f n k sum         sum is the sum of f over the first k of n places, and at most B * c
--     partial_none, -more, -all     it at the start, after a turn and at the end
-- A worked call stands at the end.
use Rattle.std.specs.Prelude.{◌≡◌, refl, ℕ, ◌+◌, ◌*◌, ◌≤◌, ◌<◌}
use Rattle.std.proofs.Common.{sym, ap, ap₂, ◌∙◌, mul-add, mul-le-mul_left}
use native.Mathlib.Omega.{arith}
use Rattle.integers.specs.Sum.{sumℕ}
use Rattle.integers.specs.SumLaws.{sumℕ_next}
use Rattle.integers.specs.Reading.{Bounded}

pub record Partial (B count : ℕ) (f : ℕ → ℕ) (n k sum : ℕ) : Type 0 where
  pub place : k ≤ n
  pub is : sum ≡ sumℕ k f
  pub most : sum ≤ B * count

module _ {B : ℕ} {f : ℕ → ℕ} {n : ℕ} where
  pub partial_none : Partial B 0 f n 0 0
  unfolding sumℕ
  partial_none = record { place = omega arith; is = refl; most = omega arith }

  pub partial_more : {count k sum r : ℕ} (c : ℕ) → Partial B count f n k sum → k < n → Bounded (B * c) r (f k)
      → Partial B (count + c) f n (k + 1) (sum + r)
  partial_more {count} {k} {sum} {r} c p l b = record {
    place = omega arith;
    is = ap₂ ◌+◌ p.is b.is ∙ sym (sumℕ_next f k);
    most = omega (arith, mul-add B count c, p.most, b.most);
  }

  pub partial_all : {count k sum : ℕ} (C : ℕ) → Partial B count f n k sum → n ≤ k → count ≤ C → Bounded (B * C) sum (sumℕ n f)
  partial_all {count} {k} {sum} C p l h =
      let e : k ≡ n = omega arith in
      record { is = p.is ∙ ap (λ i. sumℕ i f) e; most = omega (arith, p.most, mul-le-mul_left {m = count} {n = C} B h) }

-- a worked call: one turn of a loop that adds terms of at most 5
one_turn : (f : ℕ → ℕ) (n k sum r : ℕ) → Partial 5 k f n k sum → k < n → Bounded (5 * 1) r (f k) → Partial 5 (k + 1) f n (k + 1) (sum + r)
one_turn f n k sum r p l b = partial_more 1 p l b
