use mathlib.Core.Path.{◌≡◌, refl, sym, ap, subst, ◌∙◌}
use mathlib.Core.List.{List}
use Prim.Native.Nat.{ℕ, ◌+◌, ◌*◌, ◌^◌, ◌≤◌, ◌<◌}
use native.Mathlib.Omega.{arith}
use lib.Dec.{T, ltb, lt→ltb}
use lib.IntN.{ℤ, pos, nat_abs, ◌+ℤ◌, ◌*ℤ◌}
use lib.ListN.{get_or}
use mir.Syntax.{w32, w64}
use Rattle.integers.specs.Sum.{sumℤ, sumℕ}
use Rattle.geometry.specs.Figures.{scaled_centre}
use Rattle.geometry.specs.Move.{weight_of}
use Rattle.geometry.specs.Table.{coordinate}
use Rattle.limits.specs.Limits.{total, coordinate_limit}
use Rattle.geometry.specs.Clauses.{Table, WeightsWithin}
use Rattle.geometry.specs.TableLaws.{table-row, weight_most_lem, row-held, weights_next}
use Rattle.figures.specs.Clauses.{Weighted}
use Rattle.integers.specs.Reading.{back, Reads, kept, fits, addition, passed}
use Rattle.integers.specs.SumLaws.{sumℤ_next, sumℕ_next}
use Rattle.figures.proofs.centre.centre_of_channel.Invariants.{Passed, term}
use Rattle.figures.proofs.centre.centre_of_channel.Goals as goal

module _ {rows : List ℤ} {m n : ℕ} {w : List ℕ} {k : ℕ} (t : Table rows m n) (g : WeightsWithin total m w) (l : k < n) where
  passed_none : Passed rows m n w k (pos 0) 0
  unfolding sumℤ sumℕ
  passed_none = record { row = omega arith; read = record { is = refl; most = omega arith } }

  module _ {z : ℤ} {i : ℕ} (p : Passed rows m n w k z i) (h : i < m) where
    element : Reads (back w32 (get_or rows (i * n + k) (pos 0))) (coordinate rows n i k) coordinate_limit
    element = row-held (table-row t i h) k l

    module _ {r : ℤ} (q : Weighted (weight_of w i) (back w32 (get_or rows (i * n + k) (pos 0))) r) where
      one : Reads r (term rows n w k i) (coordinate_limit * weight_of w i)
      one =
          let e = q.is ∙ ap (λ a. pos (weight_of w i) *ℤ a) element.is in
          record { is = e; most = subst (λ y. nat_abs y ≤ coordinate_limit * weight_of w i) e q.most }

      next : Reads (z +ℤ back w64 r) (sumℤ i (term rows n w k) +ℤ term rows n w k i)
          (coordinate_limit * sumℕ i (weight_of w) + coordinate_limit * weight_of w i)
      next = addition p.read (kept one (lt→ltb (coordinate_limit * weight_of w i) (2 ^ 63) (omega (arith, weights_next g i h))))

      small : T (ltb (coordinate_limit * sumℕ i (weight_of w) + coordinate_limit * weight_of w i) (2 ^ 63))
      small = lt→ltb (coordinate_limit * sumℕ i (weight_of w) + coordinate_limit * weight_of w i) (2 ^ 63) (omega (arith, weights_next g i h))

      passed-more : Passed rows m n w k (back w64 (z +ℤ back w64 r)) (i + 1)
      passed-more = record {
        row = omega arith;
        read = record {
          is = (kept next small).is ∙ sym (sumℤ_next (term rows n w k) i);
          most = rw (sumℤ_next (term rows n w k) i) (omega (arith, next.most, sumℕ_next (weight_of w) i));
        };
      }

pub loop-i-init : goal.loop-i-init
loop-i-init c = passed_none c.requires.0 c.requires.1.0 c.requires.1.1

pub weighted-sum-requires : goal.weighted-sum-requires
weighted-sum-requires c =
    let s = c.requires in
    let l = c.loop-i in
    (weight_most_lem s.1.0 l.i (omega arith), passed (element s.0 s.1.0 s.1.1 l.invariant (omega arith)))

pub overflow_add-sum : goal.overflow_add-sum
overflow_add-sum c =
    let s = c.requires in
    let l = c.loop-i in
    fits (next s.0 s.1.0 s.1.1 l.invariant (omega arith) c.weighted-sum.ensures)
    (small s.0 s.1.0 s.1.1 l.invariant (omega arith) c.weighted-sum.ensures)

pub loop-i-preserved : goal.loop-i-preserved
loop-i-preserved c =
    let s = c.requires in
    passed-more s.0 s.1.0 s.1.1 c.loop-i.invariant (omega arith) c.weighted-sum.ensures

pub returns : goal.returns
unfolding scaled_centre
returns c =
    let a = c.args in
    let e : c.loop-i.i ≡ a.m = omega arith in
    c.loop-i.invariant.read.is ∙ ap (λ i. sumℤ i (term a.rows.now a.n a.weights.now a.k)) e
