-- Each verdict has its own line, and an excess below 2 ^ 63 is printed as the number that it is.
use mathlib.Core.Path.{◌≡◌, refl, sym, ap, ◌∙◌}
use mathlib.Core.List.{[], ◌∷◌}
use Prim.Native.Nat.{ℕ, ◌^◌, ◌<◌}
use native.Mathlib.Omega.{arith}
use lib.IntN.{pos}
use Rattle.std.proofs.Common.{Ok}
use Rattle.integers.specs.Absolute.{fits64}
use Rattle.printing.specs.ContractLaws.{put_as}
use Rattle.printing.specs.UnsignedLaws.{held_below}
use Rattle.reading.specs.Verdict.{verdict_excess, verdict_outcome, VerdictOutcome, Alarm}
use Rattle.reading.specs.declared.Verdict.{Verdict}
use Rattle.program_lines.specs.Lines.{print_refusal, print_verdict}
use Rattle.program_lines.proofs.LineSteps.{one_below, alarm_put}
use Rattle.program_lines.proofs.put_verdict.Goals as goal

-- a verdict by its outcome, the excess of an Alarm being below the limit
small : (verdict : VerdictOutcome) (excess : ℕ) → verdict ≡ Alarm excess → verdict_excess verdict < 2 ^ 63 → excess < 2 ^ 63
small verdict excess is h = omega (arith, ap verdict_excess is)

pub overflow_cast-excess : goal.overflow_cast-excess
overflow_cast-excess c =
    let is = ap verdict_outcome (c.in-Ok.is ∙ ap (λ (v : Verdict). Ok v) c.in-Alarm.is) in
    fits64 (pos c.in-Alarm.excess) (small _ _ is c.requires.0)

pub put_line-requires-in-Alarm : goal.put_line-requires-in-Alarm
put_line-requires-in-Alarm c =
    let excess = c.in-Alarm.excess in
    let is = ap verdict_outcome (c.in-Ok.is ∙ ap (λ (v : Verdict). Ok v) c.in-Alarm.is) in
    (omega arith, (held_below (excess ∷ []) (one_below excess (small _ _ is c.requires.0)), omega arith))

pub returns-in-Quiet : goal.returns-in-Quiet
returns-in-Quiet c =
    let is = ap verdict_outcome (c.in-Ok.is ∙ ap (λ (v : Verdict). Ok v) c.in-Quiet.is) in
    put_as c.put_line.ensures (ap print_verdict (sym is)) refl

pub returns-in-Alarm : goal.returns-in-Alarm
returns-in-Alarm c =
    let is = ap verdict_outcome (c.in-Ok.is ∙ ap (λ (v : Verdict). Ok v) c.in-Alarm.is) in
    put_as (alarm_put c.in-Alarm.excess (small _ _ is c.requires.0) c.put_line-in-Alarm.ensures) (ap print_verdict (sym is)) refl

pub returns-in-Err : goal.returns-in-Err
returns-in-Err c =
    put_as c.put_refusal.ensures.line
    (ap (λ k. print_refusal k c.in-Err.refusal.line) c.number.ensures ∙ ap (λ v. print_verdict (verdict_outcome v)) (sym c.in-Err.is)) refl
