-- The number is printed as the number that it is, in its room.
use mathlib.Core.Path.{refl, ap}
use native.Mathlib.Omega.{arith}
use lib.IntN.{pos, nat_abs}
use Rattle.integers.specs.Absolute.{back64}
use Rattle.number.specs.Number.{print}
use Rattle.number.specs.NumberLaws.{print_short}
use Rattle.printing.specs.Clauses.{number_digits, Put}
use Rattle.printing.specs.ContractLaws.{put_then, put_as}
use Rattle.file_name.specs.PutLaws.{put_within}
use Rattle.message.proofs.put_argument.Goals as goal

pub put_number-requires : goal.put_number-requires
put_number-requires c =
    let index = c.args.index in
    (omega (arith, ap nat_abs (back64 (pos index) (omega arith))), omega arith)

pub returns : goal.returns
returns c =
    let index = c.args.index in
    let number : Put (print (pos index)) _ _ _ _ = put_as c.put_number.ensures (ap print (back64 (pos index) (omega arith))) refl in
    let short = print_short number_digits (pos index) (omega arith) (omega arith) in
    put_within (put_then (put_then c.put_program-start.ensures.put c.put_bytes-end.ensures) number) (omega (arith, number.next)) (omega (arith, number.next))
