use mathlib.Core.Path.{◌≡◌, refl, ap, ◌∙◌}
use native.Mathlib.Omega.{arith}
use lib.ListN.{take, drop}
use Rattle.text.specs.Parts.{free}
use Rattle.text.specs.Clauses.{block_length}
use Rattle.text.specs.PartsLaws.{free_next}
use Rattle.text.proofs.blocks.block_free.Goals as goal

pub loop-k-init : goal.loop-k-init
unfolding free
loop-k-init c = refl

pub loop-k-preserved : goal.loop-k-preserved
loop-k-preserved c =
    let args = c.args in
    free_next args.byte args.text.now args.at c.loop-k.k (omega arith) c.loop-k.invariant

pub returns : goal.returns
returns c =
    let args = c.args in
    let whole : c.loop-k.k ≡ block_length = omega arith in
    c.loop-k.invariant ∙ ap (λ k. free args.byte (take k (drop args.at args.text.now))) whole
