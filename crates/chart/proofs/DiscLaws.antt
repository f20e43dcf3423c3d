-- A disc holds the projection of each row that its ball holds, for any total D above 0.
--     within_disc              a point of the ball is on the disc
--     tight_projected          it holds of every row where demand 3 holds, so of every accepted drawing, check and record
use Rattle.std.specs.Prelude.{ℕ, ◌-◌, ◌*◌, ◌≤◌, ◌<◌, ℤ, pos, ◌-ℤ◌, ◌*ℤ◌}
use Rattle.std.proofs.Common.{arith, le_trans}
use Rattle.integers.specs.Sum.{sumℕ, square}
use Rattle.integers.specs.SumLaws.{sumℕ_term, sumℕ_two}
use Rattle.integers.specs.Absolute.{square_inv}
use Rattle.geometry.specs.Figures.{squared_length, scaled_squared_distance}
use Rattle.geometry.specs.Places.{centre_of}
use Rattle.ball.specs.Clauses.{Tight}
use Rattle.ball.specs.declared.Ball.{Ball}
use Rattle.chart.specs.Root.{ceiling_root}
use Rattle.chart.specs.RootLaws.{root_reaches}
use Rattle.chart.specs.Projection.{projected_squared_distance}
use Rattle.chart.specs.ProjectionLaws.{OnDisc, Projected}

pub within_disc : (D n : ℕ) (X : ℕ → ℤ) (M : ℕ) (p : ℕ → ℤ) → scaled_squared_distance D n X p ≤ M → OnDisc D n X M p
unfolding projected_squared_distance scaled_squared_distance squared_length
within_disc D n X M p ball =
    let term : ℕ → ℕ = λ k. square (pos D *ℤ p k -ℤ X k) in
    let disc : sumℕ n term ≤ ceiling_root M * ceiling_root M = le_trans ball (root_reaches M) in
    record {
      projection_within = λ h v h-some h-most v-some v-most different.
          le_trans (sumℕ_two term n (h - 1) (v - 1) (λ e. different (omega arith)) (omega arith) (omega arith)) disc;
      each_channel_within = λ h some most.
          square_inv (pos D *ℤ p (h - 1) -ℤ X (h - 1)) (ceiling_root M) (le_trans (sumℕ_term term n (h - 1) (omega arith)) disc);
    }

pub tight_projected : (D m n : ℕ) (a : ℕ → ℕ → ℤ) (b : Ball) → Tight D m n a b → (i : ℕ) → i < m → Projected D n b (a i)
tight_projected D m n a b tight i l =
    within_disc D n (centre_of b.scaled_centre) b.scaled_squared_radius (a i) (tight.every_row i l)
