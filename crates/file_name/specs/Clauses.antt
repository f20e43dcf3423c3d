-- What the functions of this crate ask and promise besides equations.
--     byte_room, start_room             the most bytes of a byte as it is told, and of the first bytes of a name
--     quoted_room, name_room            those of these in quotes, and of a name
--     ShownLength name r              r is how many bytes of the name are told
--     PutWithin room w out₀ at out r  the bytes w are printed, within this room
use Rattle.std.specs.Prelude.{ℕ, ◌+◌, ◌*◌, ◌≤◌, ◌≡◌, List, length, take}
use Rattle.io.specs.Counts.{IsPrefixLen}
use Rattle.printing.specs.Clauses.{Put}
use Rattle.file_name.specs.Name.{name_limit}

abbrev pub byte_room : ℕ
byte_room = 4

abbrev pub start_room : ℕ
start_room = byte_room * name_limit

abbrev pub quoted_room : ℕ
quoted_room = start_room + 2

abbrev pub name_room : ℕ
name_room = quoted_room + 3

pub record ShownLength (name : List ℕ) (r : ℕ) : Type 0 where
  pub is : r ≡ length (take name_limit name)
  pub within : r ≤ length name
  pub most : r ≤ name_limit

-- the last fact is what a part up to index r asks
pub record PutWithin (room : ℕ) (w out₀ : List ℕ) (at : ℕ) (out : List ℕ) (r : ℕ) : Type 0 where
  pub put : Put w out₀ at out r
  pub most : r ≤ at + room
  pub part : IsPrefixLen r out
