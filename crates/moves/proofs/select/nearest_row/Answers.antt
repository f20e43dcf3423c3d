use Prim.Native.Nat.{◌+◌}
use mathlib.Core.Path.{sym, ◌∙◌, subst}
use native.Mathlib.Omega.{arith}
use borrow.Author.Tests.{eqb-true}
use Rattle.geometry.specs.Move.{weight_of}
use Rattle.geometry.specs.Places.{weights_total}
use Rattle.geometry.specs.SelectLaws.{near-start, near-passed, near_among, near_done}
use Rattle.moves.specs.Clauses.{block_rows, NearHeld}
use Rattle.moves.specs.ContractLaws.{each_at}
use Rattle.moves.proofs.Laws.{found}
use Rattle.moves.proofs.select.nearest_row.Goals as goal
use Rattle.moves.proofs.select.nearest_row.Goals.{then-not-block_without_weight, else-not-block_without_weight}

pub loop-at-init : goal.loop-at-init
loop-at-init c = near-start

pub block_without_weight-requires : goal.block_without_weight-requires
block_without_weight-requires c = omega (arith, c.requires.1.places)

pub nearer-held-requires : goal.nearer-held-requires
nearer-held-requires c =
    let asked = c.requires in
    (near_among c.loop-at.invariant _ (omega arith), (record { places = omega (arith, asked.0.places); most = λ i l. asked.0.most i (omega arith) }, omega (arith, asked.1.places)))

pub loop-at-preserved : goal.loop-at-preserved
loop-at-preserved c =
    let scores = c.args.scores.now in
    let weights = c.args.weights.now in
    let m = c.args.m in
    let at = c.loop-at.at in
    elim c.if-not-block_without_weight.branch [
      | then-not-block_without_weight w ↦ near_among (subst (NearHeld scores weights (at + block_rows) (at + block_rows)) (sym w.held-is) w.nearer-held.ensures) m (omega arith)
      | else-not-block_without_weight w ↦
          let each = each_at _ at block_rows (sym c.block_without_weight.ensures ∙ w.if-not-block_without_weight.false) in
          subst (NearHeld scores weights m (at + block_rows)) (sym w.held-is)
          (near-passed block_rows c.loop-at.invariant (omega arith) (λ j l. omega (arith, eqb-true (weight_of weights (at + j)) 0 (each j l))))
    ]

pub nearer-requires : goal.nearer-requires
nearer-requires c =
    let asked = c.requires in
    (c.loop-at.invariant, (asked.0, asked.1.places))

pub returns : goal.returns
unfolding weights_total
returns c = found (near_done c.nearer.ensures (omega arith) (omega (arith, c.requires.1.sum)))
