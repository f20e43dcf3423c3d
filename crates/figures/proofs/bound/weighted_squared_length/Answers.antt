use mathlib.Core.Path.{ap}
use mathlib.Core.List.{List}
use Prim.Native.Nat.{ℕ, ◌+◌, ◌*◌, ◌≤◌, ◌<◌}
use native.Mathlib.Nat.{mul-le-mul_left}
use native.Mathlib.Omega.{arith}
use Rattle.integers.specs.Sum.{sumℕ}
use Rattle.geometry.specs.Figures.{weighted_squared_length}
use Rattle.geometry.specs.Move.{weight_of}
use Rattle.limits.specs.Limits.{total, length_limit}
use Rattle.integers.specs.Reading.{Bounded}
use Rattle.geometry.specs.Clauses.{WeightsWithin}
use Rattle.geometry.specs.TableLaws.{table-row, weights-passed, weights_next}
use Rattle.integers.specs.Partial.{partial_none, partial_more, partial_all}
use Rattle.integers.specs.SumLaws.{sumℕ_next}
use Rattle.figures.proofs.bound.weighted_squared_length.Goals as goal

-- weight times a bounded number, and the bound of the sum with it
module _ {m : ℕ} {w : List ℕ} (g : WeightsWithin total m w) (i : ℕ) (l : i < m) {r d : ℕ} (b : Bounded length_limit r d) where
  term : Bounded (length_limit * weight_of w i) (weight_of w i * r) (weight_of w i * d)
  term = record { is = ap (λ x. weight_of w i * x) b.is; most = omega (arith, mul-le-mul_left (weight_of w i) b.most) }

  sum-most : length_limit * sumℕ i (weight_of w) + weight_of w i * r ≤ length_limit * total
  sum-most = omega (arith, term.most, weights_next g i l)

pub loop-i-init : goal.loop-i-init
unfolding sumℕ
loop-i-init c = partial_none

pub squared_length-requires : goal.squared_length-requires
squared_length-requires c = table-row c.requires.0 c.loop-i.i (omega arith)

pub overflow_mul-sum : goal.overflow_mul-sum
overflow_mul-sum c =
    let l = c.loop-i in
    omega (arith, sum-most c.requires.1 l.i (omega arith) c.squared_length.ensures)

pub overflow_add-sum : goal.overflow_add-sum
overflow_add-sum c =
    let l = c.loop-i in
    omega (arith, sum-most c.requires.1 l.i (omega arith) c.squared_length.ensures)

pub loop-i-preserved : goal.loop-i-preserved
loop-i-preserved c =
    let l = c.loop-i in
    rw (sumℕ_next (weight_of c.args.weights.now) l.i)
    (partial_more (weight_of c.args.weights.now l.i) l.invariant (omega arith)
    (term c.requires.1 l.i (omega arith) c.squared_length.ensures))

pub returns : goal.returns
unfolding weighted_squared_length
returns c = partial_all total c.loop-i.invariant c.loop-i-test.false (weights-passed c.requires.1 c.loop-i.i (omega arith))
