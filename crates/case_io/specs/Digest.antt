-- The digest of a list: the sum of place times number, as the sum of the sums from each place on.
--     Digesting places bound sum tail k     before place k, from the last on: neither sum can wrap, each number being below the bound
--     digest_of numbers                     the sum of place times number, the first place being 1
use Rattle.std.specs.Prelude.{ℕ, ◌+◌, ◌*◌, ◌≤◌, List, length, get_or}
use Rattle.integers.specs.Sum.{sumℕ}

abbrev pub digest_of : List ℕ → ℕ
digest_of numbers = sumℕ (length numbers) (λ k. (k + 1) * get_or numbers k 0)

abbrev pub Digesting : ℕ → ℕ → ℕ → ℕ → ℕ → Type 0
Digesting places bound sum tail k = (k ≤ places) × (tail + bound * k ≤ bound * places) × (sum + bound * places * k ≤ bound * places * places)
