-- Laws of the drawing.
--     run_from_spent                               the moves are at most the budget, and all of it where the weights are not Settled
--     goes_on, stops                              the test for another move
--     start-length, start-total, start_first, start-rest     the places of the first weights, their sum, the first row's and the others
--     drawing_limits, -budget, -drawn             the three answers of a drawing
use Rattle.std.specs.Prelude.{ℕ, ◌≤◌, ◌<◌, ◌≡◌, refl, Bool, true, false, not, ◌&&◌, List, ◌⊎◌, ltb, ℤ, length, replicate}
use Rattle.std.proofs.Common.{◌∙◌, inl, inr, arith, length-set, get_or-set_same, get_or-set_other}
use Rattle.std.proofs.Math.Decide.{dec_lt}
use borrow.Author.Tests.{ltb-true, ltb-false, le-leb, lt-leb, not-true}
use Rattle.std.proofs.lemmas.List.{length-replicate, get_or-replicate}
use Rattle.std.proofs.Math.ListN.{get_or-eq_default}
use Rattle.integers.specs.SumLaws.{sumℕ-set, sumℕ_zero, sumℕ_cong}
use Rattle.refusal.specs.Number.{outside_limits, budget_too_large}
use Rattle.refusal.specs.Outcome.{refused}
use Rattle.geometry.specs.Move.{settled, moved, weight_of}
use Rattle.geometry.specs.Table.{coordinate, rows_within}
use Rattle.limits.specs.Limits.{budget_limit}
use Rattle.geometry.specs.Places.{weights_total}
use Rattle.integers.specs.Tests.{both}
use Rattle.drawing.specs.Draw.{start, run_from, drawn, not_drawn, drawing}
use Rattle.drawing.specs.RunLaws.{Spent, run_spent}

-- ---- the moves of document 01; another move is made where the weights are not Settled and the budget is not used

-- the test for another move
module _ (settles : Bool) (made most : ℕ) where
  pub goes_on : (not settles && ltb made most) ≡ true → (settles ≡ false) × (made < most)
  goes_on h = let t = both (not settles) (ltb made most) h in (not-true settles t.0, ltb-true made most t.1)

  pub stops : (not settles && ltb made most) ≡ false → (settles ≡ true) ⊎ (most ≤ made)
  stops h = either settles h
    where
      either : (s : Bool) → (not s && ltb made most) ≡ false → (s ≡ true) ⊎ (most ≤ made)
      either true h = inl refl
      either false h = inr (ltb-false made most h)

pub run_from_spent : (D m n : ℕ) (a : ℕ → ℕ → ℤ) (b made : ℕ) (ws : List ℕ) → Spent (λ ws. settled D m n a (weight_of ws)) made b (run_from D m n a b made ws)
unfolding run_from
run_from_spent D m n a b made ws = run_spent (λ ws. settled D m n a (weight_of ws)) (moved D m n a) b made ws

-- ---- the start

-- the weights before the first row is given its own
zeros : ℕ → List ℕ
zeros limit = replicate limit 0

zero_at : (limit i : ℕ) → i < limit → weight_of (zeros limit) i ≡ 0
unfolding zeros
zero_at limit i l = get_or-replicate limit i 0 0 l

pub start-length : (limit D : ℕ) → length (start limit D) ≡ limit
unfolding start
start-length limit D = length-set (replicate limit 0) 0 D ∙ length-replicate limit 0

pub start-total : (limit D m : ℕ) → 0 < m → m ≤ limit → weights_total m (start limit D) ≡ D
unfolding start weights_total zeros
start-total limit D m some most =
    let kept = sumℕ-set (zeros limit) m 0 D some (omega (arith, length-replicate {A = ℕ} limit 0)) in
    let none = sumℕ_cong m (λ i l. zero_at limit i (omega arith)) ∙ sumℕ_zero m in
    omega (arith, zero_at limit 0 (omega arith))

pub start_first : (limit D : ℕ) → 0 < limit → weight_of (start limit D) 0 ≡ D
unfolding start
start_first limit D some = get_or-set_same (replicate limit 0) 0 D 0 (omega (arith, length-replicate {A = ℕ} limit 0))

-- all but the first place is 0
pub start-rest : (limit D i : ℕ) → 0 < i → weight_of (start limit D) i ≡ 0
unfolding start zeros
start-rest limit D i past = get_or-set_other (replicate limit 0) 0 i D 0 (λ h. omega arith) ∙ go (dec_lt i limit)
  where
    go : Dec (i < limit) → weight_of (zeros limit) i ≡ 0
    go (yes l) = zero_at limit i l
    go (no l) = get_or-eq_default (zeros limit) 0 (omega (arith, length-replicate {A = ℕ} limit 0))

-- ---- the answers

module _ (D limit : ℕ) (rows : List ℤ) (m n b : ℕ) where
  pub drawing_limits : rows_within limit rows m n ≡ false → drawing D limit rows m n b ≡ not_drawn limit (refused outside_limits)
  unfolding drawing
  drawing_limits h = rw (h, drawing)

  pub drawing_budget : rows_within limit rows m n ≡ true → budget_limit < b → drawing D limit rows m n b ≡ not_drawn limit (refused budget_too_large)
  unfolding drawing
  drawing_budget h k = rw (h, lt-leb b budget_limit k, drawing)

  pub drawing-drawn : rows_within limit rows m n ≡ true → b ≤ budget_limit → drawing D limit rows m n b ≡ drawn D m n (coordinate rows n) (run_from D m n (coordinate rows n) b 0 (start limit D))
  unfolding drawing
  drawing-drawn h k = rw (h, le-leb b budget_limit k, drawing)
