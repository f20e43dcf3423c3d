-- The limit on s.
--     distance-within      s is within its limit
use Rattle.std.specs.Prelude.{ℕ, ◌*◌, ◌≤◌, ◌<◌, ℤ, nat_abs}
use Rattle.std.proofs.Common.{arith, mul-le-mul_right}
use Rattle.geometry.specs.Figures.{scaled_squared_distance}
use Rattle.limits.specs.Limits.{channel_limit, coordinate_limit, centre_limit, distance_limit}
use Rattle.geometry.proofs.FigureLaws.{distance_most}

pub distance-within : (D B n : ℕ) (X p : ℕ → ℤ) → D ≤ B → n ≤ channel_limit → ((k : ℕ) → k < n → nat_abs (p k) ≤ coordinate_limit)
    → ((k : ℕ) → k < n → nat_abs (X k) ≤ centre_limit B) → scaled_squared_distance D n X p ≤ distance_limit B
distance-within D B n X p most channels hp hX =
    let side = 2 * centre_limit B in
    omega (arith, distance_most D B n coordinate_limit X p most hp hX, mul-le-mul_right (side * side) channels)
