-- `figures::centre::weighted` meets its contract: the weight is at most `total` and the coordinate within its limit, so that the product
-- fits an i64 and is read back as it is.
use mathlib.Core.Path.{sym, subst}
use Prim.Native.Nat.{◌≤◌, ◌*◌}
use native.Mathlib.Nat.{le_refl}
use native.Mathlib.Omega.{arith}
use lib.IntN.{pos, nat_abs, ◌*ℤ◌}
use mir.Syntax.{w32, w64}
use Rattle.integers.specs.Reading.{back, Reads, held, number, kept, fits, product}
use Rattle.limits.specs.Limits.{total, coordinate_limit, centre_limit}
use Rattle.figures.proofs.centre.weighted.Goals as goal

module _ (c : goal.Start) where
  scaled : Reads (back w64 (pos c.args.weight) *ℤ back w64 (back w32 c.args.a)) (pos c.args.weight *ℤ c.args.a) (centre_limit total)
  scaled = product (kept (number c.args.weight c.requires.0) tt) (kept (held c.ranges.a c.requires.1) tt)

pub overflow_cast-result-2 : goal.overflow_cast-result-2
overflow_cast-result-2 c = fits (held c.ranges.a c.requires.1) tt

pub overflow_mul-result : goal.overflow_mul-result
overflow_mul-result c = fits (scaled c) tt

pub returns : goal.returns
returns c =
    let e = (kept (scaled c) tt).is in
    record {
      is = e;
      most = subst (λ z. nat_abs z ≤ coordinate_limit * c.args.weight) (sym e)
          (omega (arith, (product (number c.args.weight (le_refl c.args.weight)) (held c.ranges.a c.requires.1)).most));
    }
