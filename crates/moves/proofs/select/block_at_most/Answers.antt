use mathlib.Core.Path.{◌≡◌, ◌∙◌, ap}
use native.Mathlib.Omega.{arith}
use Rattle.moves.specs.Clauses.{each_from, block_rows}
use Rattle.moves.specs.ContractLaws.{each_none, each_more}
use Rattle.moves.proofs.select.block_at_most.Invariants.{test}
use Rattle.moves.proofs.select.block_at_most.Goals as goal

pub loop-k-init : goal.loop-k-init
loop-k-init c = (omega arith, each_none _ _)

pub at_most-each-requires : goal.at_most-each-requires
at_most-each-requires c =
    let asked = c.requires in
    (asked.0.most _ (omega arith), asked.1)

pub loop-k-preserved : goal.loop-k-preserved
loop-k-preserved c = (omega arith, each_more _ _ c.loop-k.k c.loop-k.invariant.1 c.at_most-each.ensures)

pub returns : goal.returns
returns c =
    let args = c.args in
    let whole : c.loop-k.k ≡ block_rows = omega arith in
    c.loop-k.invariant.1 ∙ ap (each_from (test args.scores.now args.best) args.at) whole
