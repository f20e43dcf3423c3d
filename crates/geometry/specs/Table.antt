-- A table of rows, and document 01's limits on what a drawing or a check is lent, for any row limit.
--     coordinate rows n i k                row i's coordinate in channel k of a table of n channels
--     places_within bound c l               the first c places of l are within the bound of 0
--     rows_within limit rows m n            n, m, the places and the coordinates are within limits
use Rattle.std.specs.Prelude.{ℕ, zero, suc, ◌+◌, ◌*◌, Bool, true, ◌&&◌, List, leb, ℤ, pos, nat_abs, length, get_or}
use Rattle.limits.specs.Limits.{channel_limit, coordinate_limit}

-- a table holds its rows one after the other
unfoldable pub coordinate : List ℤ → ℕ → ℕ → ℕ → ℤ
coordinate rows n i k = get_or rows (i * n + k) (pos 0)

unfoldable pub places_within : ℕ → ℕ → List ℤ → Bool
places_within bound zero l = true
places_within bound (suc c) l = places_within bound c l && leb (nat_abs (get_or l c (pos 0))) bound

-- n from 1 to 8, m from 1 to the row limit, at least m times n places, each of those within 4,000 of 0
unfoldable pub rows_within : ℕ → List ℤ → ℕ → ℕ → Bool
rows_within limit rows m n =
    (leb 1 n && leb n channel_limit)
    && ((leb 1 m && leb m limit) && (leb (m * n) (length rows) && places_within coordinate_limit (m * n) rows))
