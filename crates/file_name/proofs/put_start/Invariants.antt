-- The loop's invariant: the bytes so far are printed, each in at most four.
use Prim.Native.Nat.{◌+◌, ◌*◌, ◌≤◌}
use lib.ListN.{take}
use Rattle.printing.specs.Clauses.{Put}
use Rattle.file_name.specs.Name.{escaped}
use Rattle.file_name.specs.Clauses.{byte_room}
use Rattle.file_name.proofs.put_start.Given as goal

abbrev pub invariant-loop-byte : goal.invariant-loop-byte
invariant-loop-byte l =
    (l.end ≤ l.at + byte_room * l.byte-index) × Put (escaped (take l.byte-index (take l.count l.name))) l.fn.out l.at l.out l.end
