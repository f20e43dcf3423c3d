-- Demand 2, the ball: figures and one move, for any rows, weights and total D.
--     promise_2_1     X, s, M and L of any rows, weights and total (`FiguresOfWeights`)
--     promise_2_2     the two rows of a move, g, d², Settled and t (`MoveChosen`)
--     promise_2_3     what a move changes and keeps, and by how much it raises L (`MoveMade`)
-- Rows and channels count from 0; `a i k` is the coordinate of row i in channel k, `w i` the weight of row i.
use Rattle.std.specs.Prelude.{◌*◌, ◌+◌, ◌-◌, ◌/◌, ◌<◌, ◌≤◌, min, ℕ, ◌≡◌, refl, false, List, leb, ◌*ℤ◌, ◌-ℤ◌, pos, ℤ, length, ◌≢◌}
use Rattle.std.proofs.Common.{sym}
use Rattle.integers.specs.Sum.{square, sumℕ, sumℤ}
use Rattle.geometry.proofs.FigureLaws.{lower_bound_ℤ}
use Rattle.geometry.specs.Figures.{largest, scaled_centre, scaled_lower_bound, scaled_squared_distance, scaled_squared_radius, squared_distance, squared_length, weighted_squared_length}
use Rattle.geometry.specs.Move.{difference, far_row, move_weight, moved, near_row, scaled_squared_distance_of, separation, settled, transfer, weight_of}
use Rattle.geometry.proofs.MoveLaws.{difference_exact, far_within, lower_bound_rises, moved_by, moved-far, moved-near, moved_other, moved-total, near_within, rise_some}
use Rattle.geometry.specs.Places.{weights_total}
use Rattle.geometry.specs.SelectLaws.{farthest_lowestℕ, farthest_mostℕ, ltb_strict, nearest_leastℕ, nearest_lowestℕ, nearest_weighted}
use Rattle.drawing.specs.Demand.{run-total}
use Rattle.drawing.specs.Draw.{run_from}

-- ---- 2.1

module _ (D m n : ℕ) (a : ℕ → ℕ → ℤ) (w : ℕ → ℕ) where
  pub record FiguresOfWeights : Type 0 where
    -- X is the sum of weight times row, channel by channel
    pub centre : (k : ℕ) → scaled_centre a w m k ≡ sumℤ m (λ i. pos (w i) *ℤ a i k)
    -- s of a row p is the squared length of (D times row - X)
    pub distance : (X p : ℕ → ℤ) → scaled_squared_distance D n X p ≡ sumℕ n (λ k. square (pos D *ℤ p k -ℤ X k))
    -- M is the largest s
    pub radius : (X : ℕ → ℤ) → scaled_squared_radius D m n a X ≡ largest m (λ i. scaled_squared_distance D n X (a i))
    -- L is D times the sum of weight times the row's squared length, less the squared length of X, and is cut off nowhere
    pub floor : sumℕ m w ≡ D → 0 < D
        → pos (scaled_lower_bound D m n a w)
        ≡ pos (D * sumℕ m (λ i. w i * squared_length n (a i))) -ℤ pos (squared_length n (scaled_centre a w m))

  pub promise_2_1 : FiguresOfWeights
  unfolding scaled_centre scaled_squared_distance squared_length scaled_squared_radius weighted_squared_length
  promise_2_1 =
      record {
        centre = λ k. refl;
        distance = λ X p. refl;
        radius = λ X. refl;
        floor = lower_bound_ℤ D m n a w;
      }

  -- ---- 2.2

  -- s of row i, the two rows, g, d² and t
  abbrev s : ℕ → ℕ
  s = scaled_squared_distance_of D m n a w

  abbrev far : ℕ
  far = far_row D m n a w

  abbrev near : ℕ
  near = near_row D m n a w

  abbrev g : ℕ
  g = difference D m n a w

  abbrev d² : ℕ
  d² = separation D m n a w

  abbrev t : ℕ
  t = transfer D m n a w

  pub record MoveChosen : Type 0 where
    pub score : (i : ℕ) → s i ≡ scaled_squared_distance D n (scaled_centre a w m) (a i)
    -- both are among the m rows
    pub far_row : 0 < m → far < m
    pub near_row : 0 < m → near < m
    -- the far row has the largest s of all rows; ties go to the lowest row
    pub far_largest : (i : ℕ) → i < m → s i ≤ s far
    pub far_lowest : (i : ℕ) → i < far → s i < s far
    -- the near row has the smallest s among rows of weight above 0; ties go to the lowest row
    pub near_weighted : (i : ℕ) → i < m → 0 < w i → 0 < w near
    pub near_smallest : (i : ℕ) → i < m → 0 < w i → s near ≤ s i
    pub near_lowest : (i : ℕ) → i < near → 0 < w i → s near < s i
    -- g = (s far - s near)/D, always whole; d² is the squared distance between the two rows
    pub difference_whole : 0 < D → 0 < m → s far ≡ s near + D * g
    pub separation_is : d² ≡ squared_distance n (a far) (a near)
    -- Settled where g is at most d²; t is the whole part of (g + d² - 1)/(2d²), never more than the near row's weight
    pub settled_is : settled D m n a w ≡ leb g d²
    pub transfer_is : t ≡ min ((g + d² - 1) / (2 * d²)) (w near)

  pub promise_2_2 : MoveChosen
  unfolding scaled_squared_distance_of far_row near_row separation settled transfer
  promise_2_2 =
      record {
        score = λ i. refl;
        far_row = far_within D m n a w;
        near_row = near_within D m n a w;
        far_largest = farthest_mostℕ s m;
        far_lowest = farthest_lowestℕ s m;
        near_weighted = nearest_weighted ltb_strict w s m;
        near_smallest = nearest_leastℕ w s m;
        near_lowest = nearest_lowestℕ w s m;
        difference_whole = difference_exact D m n a w;
        separation_is = refl;
        settled_is = refl;
        transfer_is = refl;
      }

-- ---- 2.3

module _ (D m n : ℕ) (a : ℕ → ℕ → ℤ) (ws : List ℕ) where
  abbrev after : List ℕ
  after = moved D m n a ws

  -- what t (g - t d²) is, by which L rises
  abbrev rise : ℕ
  rise = t D m n a (weight_of ws) * (g D m n a (weight_of ws) - t D m n a (weight_of ws) * d² D m n a (weight_of ws))

  pub record MoveMade : Type 0 where
    -- t moves from the near row to the far row
    pub moved_is : after ≡ move_weight (t D m n a (weight_of ws)) (near D m n a (weight_of ws)) (far D m n a (weight_of ws)) ws
    -- where these differ, the near row loses t and the far row gains t
    pub near_loses : 0 < m → m ≤ length ws → near D m n a (weight_of ws) ≢ far D m n a (weight_of ws)
        → weight_of after (near D m n a (weight_of ws)) + t D m n a (weight_of ws) ≡ weight_of ws (near D m n a (weight_of ws))
    pub far_gains : 0 < m → m ≤ length ws → near D m n a (weight_of ws) ≢ far D m n a (weight_of ws)
        → weight_of after (far D m n a (weight_of ws)) ≡ weight_of ws (far D m n a (weight_of ws)) + t D m n a (weight_of ws)
    -- the sum of the weights is kept, by any number of moves alike, and two places only change
    pub sum_kept : 0 < m → m ≤ length ws → weights_total m after ≡ weights_total m ws
    pub any_moves : (b made : ℕ) → 0 < m → m ≤ length ws → weights_total m (run_from D m n a b made ws).weights ≡ weights_total m ws
    pub others_kept : (i : ℕ) → i ≢ near D m n a (weight_of ws) → i ≢ far D m n a (weight_of ws) → weight_of after i ≡ weight_of ws i
    -- L rises by t (g - t d²), at least 1
    pub floor_rises : 0 < D → 0 < m → m ≤ length ws → weights_total m ws ≡ D → settled D m n a (weight_of ws) ≡ false
        → (scaled_lower_bound D m n a (weight_of after) ≡ scaled_lower_bound D m n a (weight_of ws) + rise) × (1 ≤ rise)

  pub promise_2_3 : MoveMade
  promise_2_3 =
      record {
        moved_is = sym (moved_by D m n a ws refl refl refl);
        near_loses = moved-near D m n a ws;
        far_gains = moved-far D m n a ws;
        sum_kept = moved-total D m n a ws;
        any_moves = λ b made. run-total D m n a b made ws;
        others_kept = moved_other D m n a ws;
        floor_rises = λ positive some places sum unsettled.
            (lower_bound_rises D m n a ws positive some places sum unsettled, rise_some D m n a ws positive some places sum unsettled);
      }
