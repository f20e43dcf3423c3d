-- M, L and moves are printed as the numbers that they are, within the room of three numbers, which leaves room for the comma, the letter and
-- byte 10. The letter is that of the ending in both branches.
use mathlib.Core.Path.{◌≡◌, sym, ap, ◌∙◌}
use native.Mathlib.Omega.{arith}
use lib.ListN.{length, length-set}
use Rattle.text.specs.Parts.{comma}
use Rattle.record_lines.specs.Lines.{letter_of}
use Rattle.record_print.specs.PrintedLaws.{letter_length, result_below}
use Rattle.record_print.proofs.PrintSteps.{numbers_put, result_put}
use Rattle.record_print.proofs.put_result.Goals as goal
use Rattle.record_print.proofs.put_result.Goals.{then-settled, else-settled}

pub bounds-out-end : goal.bounds-out-end
bounds-out-end c =
    let args = c.args in
    let below = result_below args.scaled_squared_radius args.scaled_lower_bound args.moves (omega arith) (omega arith) (omega arith) in
    let end = (numbers_put args.scaled_squared_radius args.scaled_lower_bound args.moves below c.put_numbers-end.ensures).0 in
    omega arith

pub put_bytes-next-requires : goal.put_bytes-next-requires
put_bytes-next-requires c =
    let args = c.args in
    let below = result_below args.scaled_squared_radius args.scaled_lower_bound args.moves (omega arith) (omega arith) (omega arith) in
    let end = (numbers_put args.scaled_squared_radius args.scaled_lower_bound args.moves below c.put_numbers-end.ensures).0 in
    let letter : c.if-settled.letter ≡ letter_of args.settled =
    elim c.if-settled.branch [
      | then-settled w ↦ w.letter-is ∙ sym (ap letter_of w.if-settled.true)
      | else-settled w ↦ w.letter-is ∙ sym (ap letter_of w.if-settled.false)
    ] in
    omega (arith, ap length letter ∙ letter_length args.settled, length-set c.put_numbers-end.new.out c.put_numbers-end.result comma)

pub bounds-out-next : goal.bounds-out-next
bounds-out-next c =
    let args = c.args in
    let below = result_below args.scaled_squared_radius args.scaled_lower_bound args.moves (omega arith) (omega arith) (omega arith) in
    let letter : c.if-settled.letter ≡ letter_of args.settled =
    elim c.if-settled.branch [
      | then-settled w ↦ w.letter-is ∙ sym (ap letter_of w.if-settled.true)
      | else-settled w ↦ w.letter-is ∙ sym (ap letter_of w.if-settled.false)
    ] in
    (result_put args.scaled_squared_radius args.scaled_lower_bound args.moves below args.settled _ letter (omega arith) c.put_numbers-end.ensures c.put_bytes-next.ensures).within

pub returns : goal.returns
returns c =
    let args = c.args in
    let below = result_below args.scaled_squared_radius args.scaled_lower_bound args.moves (omega arith) (omega arith) (omega arith) in
    let letter : c.if-settled.letter ≡ letter_of args.settled =
    elim c.if-settled.branch [
      | then-settled w ↦ w.letter-is ∙ sym (ap letter_of w.if-settled.true)
      | else-settled w ↦ w.letter-is ∙ sym (ap letter_of w.if-settled.false)
    ] in
    (result_put args.scaled_squared_radius args.scaled_lower_bound args.moves below args.settled _ letter (omega arith) c.put_numbers-end.ensures c.put_bytes-next.ensures).ended
