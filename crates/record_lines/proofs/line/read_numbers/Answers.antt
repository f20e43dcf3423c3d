use mathlib.Core.Path.{refl, sym, ap, ◌∙◌}
use native.Mathlib.Omega.{arith}
use mir.Syntax.{w64}
use mir.Facts.{to_z-of_z}
use Rattle.integers.specs.Reading.{back}
use Rattle.record_lines.specs.ContractLaws.{held_fits}
use Rattle.record_lines.proofs.LineSteps.{number_none, number_some, numbers_other, numbers_none, numbers_few, numbers-stop, numbers_next_lem, numbers_done}
use Rattle.record_lines.proofs.line.read_numbers.Goals as goal

pub returns-then-not-same_bytes : goal.returns-then-not-same_bytes
returns-then-not-same_bytes c = numbers_other c.field_end-word_end.ensures (sym c.same_bytes.ensures ∙ c.if-not-same_bytes.true)

pub loop-i-init : goal.loop-i-init
loop-i-init c = numbers_none c.field_end-word_end.ensures (sym c.same_bytes.ensures ∙ c.if-not-same_bytes.false)

pub returns-then-line-from : goal.returns-then-line-from
returns-then-line-from c = numbers_few c.loop-i.invariant c.loop-i-test.true c.if-line-from.true

pub returns-in_err-numbers : goal.returns-in_err-numbers
returns-in_err-numbers c =
    let read = c.read_number_at-read.ensures in
    rw c.from_residual.ensures
    (numbers-stop c.loop-i.invariant c.loop-i-test.true c.if-line-from.false read.ends (number_none _ (sym c.in_err-numbers.was ∙ read.is)))

pub loop-i-preserved : goal.loop-i-preserved
loop-i-preserved c =
    let read = c.read_number_at-read.ensures in
    let told = number_some _ _ (sym c.in_ok-numbers.was ∙ read.is) in
    numbers_next_lem c.loop-i.invariant c.loop-i-test.true c.if-line-from.false read.ends
    told.1 (ap (back w64) told.2 ∙ to_z-of_z (held_fits told.0)) (omega arith) refl

pub returns : goal.returns
returns c = numbers_done c.loop-i.invariant c.loop-i-test.false
