use mathlib.Core.Path.{refl, sym, ◌∙◌}
use native.Mathlib.Omega.{arith}
use Rattle.text.specs.Clauses.{block_length}
use Rattle.text.specs.PartsLaws.{end_past, end-found}
use Rattle.text.proofs.blocks.part_end.Goals as goal

pub loop-from-init : goal.loop-from-init
loop-from-init c = (omega arith, omega arith, refl)

pub loop-from-preserved : goal.loop-from-preserved
loop-from-preserved c =
    let args = c.args in (
      omega arith,
      omega arith,
      end_past args.byte args.text.now c.loop-from.from block_length (omega arith) (sym c.block_free.ensures ∙ c.if-block_free.true)
          ∙ c.loop-from.invariant.2,
    )

pub returns : goal.returns
returns c =
    let found = end-found _ _ _ _ c.find.ensures.is c.find.ensures.high in
    record {
      is = found.is ∙ c.loop-from.invariant.2;
      low = omega (arith, found.low);
      high = found.high;
    }
