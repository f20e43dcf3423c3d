-- What the functions below the public calls ask of their arguments, and give. No public call asks anything.
--     CentreWithin n x          there are n coordinates, and they are within the limit on X
--     RowAt rows n i            row i of the table lies in the list and its coordinates are within limits
--     TableWithin l rows m n    n, m, the places and the coordinates are within limits, for a row limit l
--     Table rows m n            the same for the row limit that the contracts fix
--     WeightsWithin B m ws      a list of at least m weights of a sum of at most B
--     WeightsOf D m ws          a list of at least m weights of sum D
--     IsCentre rows m n ws x    x is X of the weights, in its eight places, by equation
use Rattle.std.specs.Prelude.{ℕ, ◌+◌, ◌*◌, ◌≤◌, ◌<◌, ◌≡◌, List, ℤ, pos, nat_abs, length, get_or}
use Rattle.geometry.specs.Places.{centre_list, weights_total}
use Rattle.geometry.specs.Figures.{scaled_centre}
use Rattle.geometry.specs.Move.{weight_of}
use Rattle.geometry.specs.Table.{coordinate}
use Rattle.limits.specs.Limits.{total, row_limit, channel_limit, coordinate_limit, centre_limit}

pub record CentreWithin (n : ℕ) (x : List ℤ) : Type 0 where
  pub places : n ≤ length x
  pub bound : (k : ℕ) → k < n → nat_abs (get_or x k (pos 0)) ≤ centre_limit total

pub record RowAt (rows : List ℤ) (n i : ℕ) : Type 0 where
  pub channels : n ≤ channel_limit
  pub places : i * n + n ≤ length rows
  pub bound : (k : ℕ) → k < n → nat_abs (coordinate rows n i k) ≤ coordinate_limit

pub record TableWithin (limit : ℕ) (rows : List ℤ) (m n : ℕ) : Type 0 where
  pub some_channel : 1 ≤ n
  pub channels : n ≤ channel_limit
  pub some_row : 1 ≤ m
  pub rows_most : m ≤ limit
  pub places : m * n ≤ length rows
  pub bound : (i k : ℕ) → i < m → k < n → nat_abs (coordinate rows n i k) ≤ coordinate_limit

abbrev pub Table : List ℤ → ℕ → ℕ → Type 0
Table rows m n = TableWithin row_limit rows m n

pub record WeightsWithin (B m : ℕ) (ws : List ℕ) : Type 0 where
  pub places : m ≤ length ws
  pub most : weights_total m ws ≤ B

pub record WeightsOf (D m : ℕ) (ws : List ℕ) : Type 0 where
  pub places : m ≤ length ws
  pub sum : weights_total m ws ≡ D

abbrev pub IsCentre : List ℤ → ℕ → ℕ → List ℕ → List ℤ → Type 0
IsCentre rows m n ws x = x ≡ centre_list n (scaled_centre (coordinate rows n) (weight_of ws) m)
