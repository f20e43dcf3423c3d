-- `checking::check_weights` meets its contract: its tests are those of the definition, in its order, and past them the weights are a
-- set of weights of the rows.
use mathlib.Core.Path.{sym, ◌∙◌, ap, ◌≡◌}
use native.Mathlib.Nat.{le_refl}
use native.Mathlib.Omega.{arith}
use Rattle.geometry.specs.Clauses.{WeightsOf}
use Rattle.limits.specs.Limits.{total}
use Rattle.checking.specs.Check.{not_checked, checking}
use Rattle.checking.specs.CheckLaws.{checking_places, checking_sum, checking-checked}
use Rattle.geometry.specs.TableLaws.{within-table, weights-within}
use Prim.Native.Nat.{ℕ}
use mathlib.Core.Bool.{true}
use mathlib.Core.List.{List}
use lib.IntN.{ℤ}
use lib.ListN.{length}
use Rattle.geometry.specs.Move.{weight_of}
use Rattle.geometry.specs.Table.{coordinate, rows_within}
use Rattle.ball.specs.declared.Ball.{Ball}
use Rattle.ball.specs.Ball.{ball_of}
use Rattle.geometry.specs.Places.{weights_total}
use Rattle.checking.proofs.check_weights.Goals as goal
use Rattle.refusal.specs.Outcome.{Accepted, refusal_outcome}
use Rattle.refusal.specs.declared.Refusal.{Refusal}

-- the answer, put together
weighed : (limit : ℕ) (rows : List ℤ) (m n : ℕ) {D : ℕ} {ws : List ℕ} {b : Ball} → rows_within limit rows m n ≡ true
    → length ws ≡ m
    → WeightsOf D m ws
    → b ≡ ball_of D m n (coordinate rows n) (weight_of ws)
    → record { outcome = Accepted; ball = b } ≡ checking D limit rows m n ws
weighed limit rows m n {D} {ws} within places good balls = cc (checking-checked D limit rows m n ws within places good.sum)

-- past the last test the weights sum to the total
good : {m sum : ℕ} {ws : List ℕ} → length ws ≡ m → sum ≡ weights_total m ws → sum ≡ total → WeightsOf total m ws
good places sum_is passed = record { places = omega (arith, places); sum = sym sum_is ∙ passed }

pub returns-then-weights-m : goal.returns-then-weights-m
returns-then-weights-m c =
    ap (λ (r : Refusal). not_checked (refusal_outcome r)) c.into.ensures
    ∙ sym (checking_places _ _ _ _ _ _ c.requires c.if-weights-m.true)

pub weights_total-requires : goal.weights_total-requires
weights_total-requires c = omega (arith, (within-table _ _ _ c.requires).rows_most, c.if-weights-m.false)

pub returns-then-weights_total : goal.returns-then-weights_total
returns-then-weights_total c =
    ap (λ (r : Refusal). not_checked (refusal_outcome r)) c.into-then-weights_total.ensures
    ∙ sym (checking_sum _ _ _ _ _ _ c.requires c.if-weights-m.false
    (λ e. c.if-weights_total.true (c.weights_total.ensures ∙ e)))

pub scaled_centre-scaled_centre-requires : goal.scaled_centre-scaled_centre-requires
scaled_centre-scaled_centre-requires c = (within-table _ _ _ c.requires, weights-within (le_refl total) (good c.if-weights-m.false c.weights_total.ensures c.if-weights_total.false))

pub pair_of-pair-requires : goal.pair_of-pair-requires
pair_of-pair-requires c = (within-table _ _ _ c.requires, (good c.if-weights-m.false c.weights_total.ensures c.if-weights_total.false, c.scaled_centre-scaled_centre.ensures))

pub ball_of-requires : goal.ball_of-requires
ball_of-requires c = (within-table _ _ _ c.requires, (good c.if-weights-m.false c.weights_total.ensures c.if-weights_total.false, (c.scaled_centre-scaled_centre.ensures, c.pair_of-pair.ensures)))

pub returns : goal.returns
returns c = weighed _ _ _ _ c.requires c.if-weights-m.false (good c.if-weights-m.false c.weights_total.ensures c.if-weights_total.false) c.ball_of.ensures
