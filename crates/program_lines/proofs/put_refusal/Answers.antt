-- Number and line are printed as the numbers that they are.
use mathlib.Core.List.{[], ◌∷◌}
use native.Mathlib.Omega.{arith}
use Rattle.printing.specs.UnsignedLaws.{held_below}
use Rattle.program_lines.specs.LineLaws.{refusal_room}
use Rattle.program_lines.proofs.LineSteps.{two_below, refusal_put}
use Rattle.program_lines.proofs.put_refusal.Goals as goal

pub put_line-requires : goal.put_line-requires
put_line-requires c =
    let number = c.args.number in
    let line = c.args.line in
    (omega arith, (held_below (number ∷ line ∷ []) (two_below number line (omega arith) (omega arith)), omega arith))

pub returns : goal.returns
returns c =
    let number = c.args.number in
    let line = c.args.line in
    let put = refusal_put number line (omega arith) (omega arith) c.put_line.ensures in
    record { room = omega (arith, put.next, refusal_room number line (omega arith) (omega arith)); line = put }
