-- A text is read line by line; a byte that is missing and a line that is no setting decide the answer.
use mathlib.Core.Path.{sym, ◌∙◌}
use native.Mathlib.Omega.{arith}
use borrow.Author.Tests.{eqb-true, eqb-false}
use lib.ListN.{length}
use Rattle.settings_text.proofs.ReadSteps.{settings_empty, settings_none, settings_many, settings_open, settings_other, settings_next, settings_done}
use Rattle.settings_text.proofs.read_settings.Goals as goal

pub returns-then-is_empty : goal.returns-then-is_empty
returns-then-is_empty c = settings_empty _ _ (eqb-true _ 0 (sym c.is_empty.ensures ∙ c.if-is_empty.true))

pub loop-at-init : goal.loop-at-init
loop-at-init c =
    let some_byte = eqb-false (length c.args.text.now) 0 (sym c.is_empty.ensures ∙ c.if-is_empty.false) in
    settings_none _ _ (omega arith) c.requires

pub returns-then-lines-ge-SETTINGS : goal.returns-then-lines-ge-SETTINGS
returns-then-lines-ge-SETTINGS c = settings_many c.loop-at.invariant c.loop-at-test.true (omega arith)

pub returns-then-end-text : goal.returns-then-end-text
returns-then-end-text c = settings_open c.loop-at.invariant c.loop-at-test.true c.line_end-end.ensures (omega arith)

pub returns-in_err-setting : goal.returns-in_err-setting
returns-in_err-setting c =
    rw c.from_residual.ensures
    (settings_other c.loop-at.invariant c.loop-at-test.true c.line_end-end.ensures (omega arith) (omega arith) c.in_err-setting.ensures)

pub loop-at-preserved : goal.loop-at-preserved
loop-at-preserved c =
    settings_next c.loop-at.invariant c.loop-at-test.true c.line_end-end.ensures (omega arith) (omega arith)
    c.in_ok-setting.setting c.in_ok-setting.ensures

pub returns : goal.returns
returns c = settings_done c.loop-at.invariant c.loop-at-test.false
