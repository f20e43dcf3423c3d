use Prim.Native.Nat.{ℕ, ◌≤◌, ◌<◌}
use mathlib.Core.Path.{◌≡◌, sym}
use mathlib.Core.List.{List}
use native.Mathlib.Decide.{dec_lt}
use native.Mathlib.Omega.{arith}
use lib.ListN.{length, get_or, get_or-eq_default}
use Rattle.integers.specs.Tests.{refuted}
use Rattle.agreement.specs.AgreementLaws.{all_zero_at, all_zero_by}
use Rattle.agreement.proofs.none_past.Goals as goal

-- at the end every weight from place m on is passed
ended : (ws : List ℕ) (m i : ℕ) → length ws ≤ i → ((j : ℕ) → j < i → m ≤ j → get_or ws j 0 ≡ 0) → (j : ℕ) → m ≤ j → get_or ws j 0 ≡ 0
ended ws m i end passed j a = go (dec_lt j i)
  where
    go : Dec (j < i) → get_or ws j 0 ≡ 0
    go (yes l) = passed j l a
    go (no l) = get_or-eq_default ws 0 (omega arith)

pub returns-then-weight-ne0 : goal.returns-then-weight-ne0
returns-then-weight-ne0 c =
    let l = c.loop-i in
    let a = c.args in
    refuted _ (λ h. c.if-weight-ne0.true (all_zero_at a.weights.now a.m h l.i l.invariant.0))

pub returns : goal.returns
returns c =
    let l = c.loop-i in
    let a = c.args in
    sym (all_zero_by a.weights.now a.m (ended a.weights.now a.m l.i (omega arith) l.invariant.1))
