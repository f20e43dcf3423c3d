-- Laws of what is printed within a room.
--     put_within     what is printed, up to an index that is within the room and the slice
use Rattle.std.specs.Prelude.{ℕ, ◌+◌, ◌≤◌, List, length}
use Rattle.std.proofs.Common.{sym, length-take-le}
use Rattle.printing.specs.Clauses.{Put}
use Rattle.file_name.specs.Clauses.{PutWithin}

pub put_within : {room : ℕ} {w out₀ out : List ℕ} {at r : ℕ} → Put w out₀ at out r → r ≤ at + room → r ≤ length out
    → PutWithin room w out₀ at out r
put_within {out = out} {r = r} f most within = record { put = f; most = most; part = (within, sym (length-take-le r out within)) }
