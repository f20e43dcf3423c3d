-- Demand 3 of document 01, of the figures of weights, for any total D above 0.
--     ball_tight        it holds of the figures of any weights of sum D
--     weights_tight     and of those of a list of weights for rows within limits, for any row limit
use Rattle.std.specs.Prelude.{ℕ, ◌+◌, ◌*◌, ◌≤◌, ◌<◌, ◌≡◌, true, List, ℤ, nat_abs, ◌-ℤ◌, ◌*ℤ◌}
use Rattle.std.proofs.Common.{◌∙◌, arith, le_of_eq}
use Rattle.std.proofs.Math.Path.{ap}
use Rattle.std.proofs.Math.Nat.{le_trans, mul-le-mul_right, mul_assoc}
use Rattle.std.proofs.Math.IntN.{pos}
use Rattle.integers.specs.Sum.{sumℕ}
use Rattle.geometry.specs.Figures.{scaled_centre, scaled_squared_distance, scaled_lower_bound}
use Rattle.geometry.specs.Move.{weight_of}
use Rattle.geometry.specs.Table.{coordinate, rows_within}
use Rattle.limits.specs.Limits.{channel_limit, coordinate_limit, centre_limit}
use Rattle.geometry.specs.Places.{centre_list, centre_of, weights_total}
use Rattle.geometry.specs.PlacesLaws.{centre_list_at, centre_list_most}
use Rattle.geometry.specs.TableLaws.{within_limits}
use Rattle.geometry.proofs.FigureLaws.{squared_length_cong, distance_centre_list, centre_most_lem}
use Rattle.geometry.proofs.Demand.{rival, holds_every_row, reaches_some_row, floor_below_ball, settled_gap, ball_most}
use Rattle.ball.specs.Ball.{ball_of}
use Rattle.ball.specs.Clauses.{Tight}

module _ (D m n : ℕ) (a : ℕ → ℕ → ℤ) (w : ℕ → ℕ) (positive : 0 < D) (some : 0 < m) (sum : sumℕ m w ≡ D)
    (channels : n ≤ channel_limit) (within : (i k : ℕ) → i < m → k < n → nat_abs (a i k) ≤ coordinate_limit) where
  centre_at : (k : ℕ) → k < n → centre_of (centre_list n (scaled_centre a w m)) k ≡ scaled_centre a w m k
  centre_at k l = centre_list_at n (scaled_centre a w m) k channels l

  distance-at : (i : ℕ) → scaled_squared_distance D n (centre_of (centre_list n (scaled_centre a w m))) (a i) ≡ scaled_squared_distance D n (scaled_centre a w m) (a i)
  distance-at i = distance_centre_list D n (scaled_centre a w m) (a i) channels

  pub ball_tight : Tight D m n a (ball_of D m n a w)
  unfolding ball_of
  ball_tight =
      record {
        rival_bound = λ Y q P r.
            le_trans
            (le_of_eq
            (ap (λ (x : ℕ). q * q * scaled_lower_bound D m n a w + x)
            (squared_length_cong n (λ k l. ap (λ (x : ℤ). pos q *ℤ x -ℤ pos D *ℤ Y k) (centre_at k l)))))
            (rival D m n a w positive some sum Y q P r);
        every_row = λ i l. le_trans (le_of_eq (distance-at i)) (holds_every_row D m n a w positive some sum i l);
        some_row =
            let far = reaches_some_row D m n a w positive some sum in
            (far.0, far.1, distance-at far.0 ∙ far.2);
        floor = floor_below_ball D m n a w positive some sum;
        gap = settled_gap D m n a w positive some sum;
        centre_limit =
            centre_list_most n (centre_limit D) (scaled_centre a w m) channels
            (λ k l. centre_most_lem D m coordinate_limit k a w sum (λ i h. within i k h l));
        radius_limit =
            let side = 2 * (coordinate_limit * D) in
            omega (arith, ball_most D m n a w positive some sum coordinate_limit within, mul-le-mul_right (side * side) channels, mul_assoc channel_limit side side);
      }

-- the figures of weights of sum D for such rows
pub weights_tight : (D limit : ℕ) (rows : List ℤ) (m n : ℕ) (ws : List ℕ) → 0 < D → rows_within limit rows m n ≡ true → weights_total m ws ≡ D
    → Tight D m n (coordinate rows n) (ball_of D m n (coordinate rows n) (weight_of ws))
unfolding weights_total
weights_tight D limit rows m n ws positive within sum =
    let table = within_limits limit rows m n within in
    ball_tight D m n (coordinate rows n) (weight_of ws) positive table.some_row sum table.channels table.bound
