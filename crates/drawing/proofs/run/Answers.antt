use mathlib.Core.Path.{refl, sym, ◌∙◌}
use native.Mathlib.Omega.{arith}
use native.Mathlib.Nat.{le_refl}
use lib.Dec.{lit≤}
use Rattle.limits.specs.Limits.{total}
use Rattle.drawing.proofs.Laws.{scores_none, start_good, start_scored, begins, ends, more, apart, can_move, can_carry, moved_good, moved_scored, again}
use Rattle.drawing.proofs.run.Goals as goal

pub first_scores-requires : goal.first_scores-requires
first_scores-requires c =
    let table = c.requires in (
      record { table = table; row = table.some_row; factor = le_refl total; within = scores_none table.rows_most },
      c.new-columns.ensures _ _ _ table.rows_most,
    )

pub pair_of_scores-pair-requires : goal.pair_of_scores-pair-requires
pair_of_scores-pair-requires c =
    let table = c.requires in
    let first = c.all_on_first-weights.ensures in
    (table, (start_good table first, start_scored table first c.first_scores.ensures.scores))

pub loop-scores-init : goal.loop-scores-init
loop-scores-init c =
    let table = c.requires in
    let first = c.all_on_first-weights.ensures in
    let raise = c.first_scores.ensures in (
      begins table first (lit≤ tt) (le_refl total) (omega (arith, raise.scores.same_length)) (start_scored table first raise.scores) c.pair_of_scores-pair.ensures,
      raise.columns,
    )

pub transfer_of-t-requires : goal.transfer_of-t-requires
transfer_of-t-requires c =
    let here = c.loop-scores.invariant.0 in
    (apart c.requires here (sym c.goes_on.ensures ∙ c.loop-scores-test.true), (here.paired.separation_most, here.paired.difference_most))

pub one_move-weights-requires : goal.one_move-weights-requires
one_move-weights-requires c =
    let here = c.loop-scores.invariant.0 in
    can_move c.requires here (sym c.goes_on.ensures ∙ c.loop-scores-test.true) c.transfer_of-t.ensures (omega (arith, here.paired)) (omega (arith, here.paired))

pub carry_scores-requires : goal.carry_scores-requires
carry_scores-requires c =
    let here = c.loop-scores.invariant.0 in (
      can_carry c.requires here (sym c.goes_on.ensures ∙ c.loop-scores-test.true) c.transfer_of-t.ensures (omega (arith, here.paired)) (omega (arith, here.paired)),
      c.loop-scores.invariant.1,
    )

pub pair_of_scores-pair-requires-in-loop-scores : goal.pair_of_scores-pair-requires-in-loop-scores
pair_of_scores-pair-requires-in-loop-scores c =
    let table = c.requires in
    let here = c.loop-scores.invariant.0 in
    let stepped = c.transfer_of-t.ensures in
    let move = c.one_move-weights.ensures in
    let carry = c.carry_scores.ensures.scores in (
      table,
      (
        moved_good table here (sym c.goes_on.ensures ∙ c.loop-scores-test.true) stepped (omega (arith, here.paired)) _ move (omega (arith, here.paired)),
        moved_scored table here (sym c.goes_on.ensures ∙ c.loop-scores-test.true) stepped (omega (arith, here.paired)) _ move (omega (arith, here.paired)) carry,
      ),
    )

pub overflow_add-moves : goal.overflow_add-moves
overflow_add-moves c = omega (arith, more c.requires c.loop-scores.invariant.0 (sym c.goes_on.ensures ∙ c.loop-scores-test.true), c.ranges.budget)

pub loop-scores-smaller : goal.loop-scores-smaller
loop-scores-smaller c = omega (arith, more c.requires c.loop-scores.invariant.0 (sym c.goes_on.ensures ∙ c.loop-scores-test.true))

pub loop-scores-preserved : goal.loop-scores-preserved
loop-scores-preserved c =
    let here = c.loop-scores.invariant.0 in
    let stepped = c.transfer_of-t.ensures in
    let move = c.one_move-weights.ensures in
    let carry = c.carry_scores.ensures in (
      again c.requires here (sym c.goes_on.ensures ∙ c.loop-scores-test.true) stepped (omega (arith, here.paired)) _ move (omega (arith, here.paired)) carry.scores refl refl
          c.pair_of_scores-pair-in-loop-scores.ensures,
      carry.columns,
    )

pub returns : goal.returns
returns c = ends c.requires c.loop-scores.invariant.0 c.goes_on.ensures c.loop-scores-test.false
