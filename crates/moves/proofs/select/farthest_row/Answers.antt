use Prim.Native.Nat.{◌+◌}
use mathlib.Core.Path.{refl, sym, ◌∙◌, subst}
use native.Mathlib.Omega.{arith}
use borrow.Author.Tests.{not-true}
use Rattle.geometry.specs.SelectLaws.{far-start, far-passed, far_among, far_within, far_done}
use Rattle.moves.specs.Clauses.{block_rows, FarHeld}
use Rattle.moves.specs.ContractLaws.{each_at}
use Rattle.moves.proofs.Laws.{found}
use Rattle.moves.proofs.select.farthest_row.Goals as goal
use Rattle.moves.proofs.select.farthest_row.Goals.{then-not-block_at_most, else-not-block_at_most}

pub loop-at-init : goal.loop-at-init
loop-at-init c = far-start (omega arith) (omega arith) refl

pub block_at_most-requires : goal.block_at_most-requires
block_at_most-requires c =
    let asked = c.requires in
    let f = c.loop-at.invariant in (
      record { places = omega (arith, asked.1.places); most = λ i l. asked.1.most i (omega arith) },
      omega (arith, f.best_is, asked.1.most _ (far_within f asked.0)),
    )

pub farther-held-requires : goal.farther-held-requires
farther-held-requires c = (far_among c.loop-at.invariant _ (omega arith), omega (arith, c.requires.1.places))

pub loop-at-preserved : goal.loop-at-preserved
loop-at-preserved c =
    let scores = c.args.scores.now in
    let m = c.args.m in
    let at = c.loop-at.at in
    let f = c.loop-at.invariant in
    elim c.if-not-block_at_most.branch [
      | then-not-block_at_most w ↦ far_among (subst (FarHeld scores (at + block_rows) (at + block_rows)) (sym w.held-is) w.farther-held.ensures) m (omega arith)
      | else-not-block_at_most w ↦
          let each = each_at _ at block_rows (sym c.block_at_most.ensures ∙ w.if-not-block_at_most.false) in
          subst (FarHeld scores m (at + block_rows)) (sym w.held-is)
          (far-passed block_rows f (omega arith) (λ j l. not-true _ (each j l)))
    ]

pub farther-requires : goal.farther-requires
farther-requires c = (c.loop-at.invariant, c.requires.1.places)

pub returns : goal.returns
returns c = found (far_done c.farther.ensures (omega arith) c.requires.0)
