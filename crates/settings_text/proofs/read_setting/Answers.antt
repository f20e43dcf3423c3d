-- A line is a setting where it has two fields and both are numbers from 1 to 99; the first test that does not hold decides.
use mathlib.Core.Path.{sym, ap, ◌∙◌}
use native.Mathlib.Omega.{arith}
use Rattle.settings_text.specs.Clauses.{setting_read}
use Rattle.settings_text.proofs.ReadSteps.{setting_one, setting-more, setting_two, first_none, second_none, both_there}
use Rattle.settings_text.proofs.read_setting.Goals as goal

pub returns-then-end-line : goal.returns-then-end-line
returns-then-end-line c = sym (ap setting_read (setting_one _ _ c.field_end-end.ensures c.if-end-line.true))

pub returns-then-last-line : goal.returns-then-last-line
returns-then-last-line c =
    sym (ap setting_read (setting-more _ _ c.field_end-end.ensures _ (omega arith) c.field_end-last.ensures (λ e. omega arith)))

pub returns-in_err-k : goal.returns-in_err-k
returns-in_err-k c =
    c.from_residual.ensures
    ∙ sym (ap setting_read (setting_two _ _ c.field_end-end.ensures _ (omega arith) c.field_end-last.ensures (omega arith) ∙ first_none _ _ c.in_err-k.ensures))

pub returns-in_err-c : goal.returns-in_err-c
returns-in_err-c c =
    c.from_residual-in_err-c.ensures
    ∙ sym (ap setting_read (setting_two _ _ c.field_end-end.ensures _ (omega arith) c.field_end-last.ensures (omega arith) ∙ second_none _ _ c.in_err-c.ensures))

pub returns : goal.returns
returns c =
    sym (ap setting_read (setting_two _ _ c.field_end-end.ensures _ (omega arith) c.field_end-last.ensures (omega arith)
    ∙ both_there _ _ c.in_ok-k.ensures c.in_ok-c.ensures))
