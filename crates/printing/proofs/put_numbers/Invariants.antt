-- `printing::put_numbers` meets its contract. The loop's invariant: the word and the numbers so far are printed, each number in
-- its room.
use Prim.Native.Nat.{◌+◌, ◌*◌, ◌≤◌}
use mathlib.Core.List.{[]}
use lib.ListN.{take}
use Rattle.printing.specs.Clauses.{field_room, numbers_after, Put}
use Rattle.printing.proofs.put_numbers.Given as goal

abbrev pub invariant-loop-number : goal.invariant-loop-number
invariant-loop-number l = (l.from ≤ l.initial.from + l.number-index * field_room) × Put (numbers_after [] (take l.number-index l.numbers)) l.initial.out l.initial.from l.out l.from
