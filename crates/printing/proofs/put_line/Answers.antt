-- The numbers take no more than their fields' room, so that there is room for byte 10.
use Prim.Native.Nat.{ℕ, ◌+◌, ◌*◌, ◌^◌, ◌≤◌, ◌<◌}
use mathlib.Core.List.{List}
use native.Mathlib.Omega.{arith}
use lib.IntN.{ℤ, pos, nat_abs}
use lib.ListN.{length, get_or, take}
use Rattle.printing.specs.Clauses.{field_room, numbers_after, Put}
use Rattle.printing.specs.ContractLaws.{numbers_room_lem, put_ended}
use Rattle.printing.proofs.put_line.Goals as goal

room : (word : List ℕ) (count : ℕ) (numbers : List ℤ) {out out' : List ℕ} {at end : ℕ} → count ≤ length numbers
    → ((k : ℕ) → k < count → nat_abs (get_or numbers k (pos 0)) < 2 ^ 63) → at + length word + count * field_room < length out
    → Put (numbers_after word (take count numbers)) out at out' end → end < length out'
room word count numbers within small fits line =
    omega (arith, numbers_room_lem word count numbers within small, line.next, line.same_length)

pub bounds-out-end : goal.bounds-out-end
bounds-out-end c = room _ _ _ c.requires.0 c.requires.1.0 c.requires.1.1 c.put_numbers-end.ensures

pub overflow_add-result : goal.overflow_add-result
overflow_add-result c =
    let room_left = room _ _ _ c.requires.0 c.requires.1.0 c.requires.1.1 c.put_numbers-end.ensures in
    omega arith

pub returns : goal.returns
returns c = put_ended c.put_numbers-end.ensures (room _ _ _ c.requires.0 c.requires.1.0 c.requires.1.1 c.put_numbers-end.ensures)
