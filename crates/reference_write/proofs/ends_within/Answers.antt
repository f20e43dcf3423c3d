use Prim.Native.Nat.{◌+◌}
use mathlib.Core.Path.{sym, ap, ap₂, ◌∙◌}
use mathlib.Core.Bool.{◌&&◌}
use native.Mathlib.Omega.{arith}
use borrow.Author.Tests.{eq-eqb, le-leb, lt-leb}
use lib.ListN.{length, get_or, drop}
use Rattle.reference_write.specs.Labels.{ends_reach}
use Rattle.reference_write.specs.LabelsLaws.{reach-at, reach_done}
use Rattle.reference_write.proofs.ends_within.Goals as goal

pub returns-then-end-reached : goal.returns-then-end-reached
returns-then-end-reached c =
    let args = c.args in
    let loop = c.loop-end in
    let count = length args.labels.now in
    let end = get_or args.ends.now loop.end-index 0 in
    ap₂ ◌&&◌ (sym (eq-eqb (length args.ends.now) args.m (omega arith)))
    (sym
    (loop.invariant ∙ reach-at args.ends.now loop.end-index (omega arith) loop.reached count
    ∙ ap (λ t. t && ends_reach end (drop (loop.end-index + 1) args.ends.now) count) (lt-leb loop.reached end c.if-end-reached.true)))

pub loop-end-preserved : goal.loop-end-preserved
loop-end-preserved c =
    let args = c.args in
    let loop = c.loop-end in
    let count = length args.labels.now in
    let end = get_or args.ends.now loop.end-index 0 in
    loop.invariant ∙ reach-at args.ends.now loop.end-index (omega arith) loop.reached count
    ∙ ap (λ t. t && ends_reach end (drop (loop.end-index + 1) args.ends.now) count) (le-leb loop.reached end (omega arith))

pub returns : goal.returns
returns c =
    let args = c.args in
    let loop = c.loop-end in
    sym
    (ap₂ ◌&&◌ (eq-eqb (length args.ends.now) args.m (omega arith))
    (loop.invariant ∙ reach_done args.ends.now loop.end-index (omega arith) loop.reached (length args.labels.now)))
