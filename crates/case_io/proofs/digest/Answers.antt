use Rattle.std.proofs.Common.{◌≡◌, sym, ap, ◌∙◌, ℕ, ◌+◌, ◌*◌, ◌≤◌, ◌<◌, List, length, map, get_or, arith, mul-le-mul}
use Rattle.std.proofs.lemmas.List.{get_or-map}
use Rattle.integers.specs.Partial.{partial_none, partial_more}
use Rattle.integers.specs.Reading.{Bounded}
use Rattle.case_io.specs.Clauses.{Number}
use Rattle.case_io.proofs.digest.Invariants.{term}
use Rattle.case_io.proofs.digest.Goals as goal

-- the term of the place at which x stands, of which the number is r
here : {T : Type 0} (worth : T → ℕ) (values : List T) (k r : ℕ) (x : T) → k < length values → length values ≤ 2048 → x ≡ get_or values k x → Number (worth x) r
    → Bounded (8796093022208 * 1) ((k + 1) * r) (term (map worth values) k)
here worth values k r x l few stands number =
    record {
      is = ap (λ v. (k + 1) * v) (number.is ∙ ap worth stands ∙ sym (get_or-map worth values k x 0 l));
      most = omega (arith, mul-le-mul {n₁ = k + 1} {m₁ = r} {n₂ = 2048} {m₂ = 4294967296} (omega arith) (omega (arith, number.small)));
    }

pub loop-k-init : goal.loop-k-init
loop-k-init g c = partial_none

pub loop-k-preserved : goal.loop-k-preserved
loop-k-preserved g c =
    let x = c.index-values-k.result in
    partial_more 1 c.loop-k.invariant c.loop-k-test.true
    (here g.worth c.args.values.now c.loop-k.k c.number.result x c.loop-k-test.true c.requires.1.1.0 c.index-values-k.is
    (c.requires.1.1.1.1 x c.number.result c.number.ensures))
