-- What the proofs of the two passes and of the two pairs share.
--     found                     the row that a pass has at its end, with its score
-- For any score by which the far and the near row are found, and a list of it:
--     near_most                 the near row's score is at most the far row's
--     far_score, near_score     the scores of the two rows that were found
--     paired                    the two rows with g and d²
use Prim.Native.Nat.{ℕ, ◌≤◌, ◌<◌}
use mathlib.Core.Path.{◌≡◌, refl, sym, ◌∙◌, ap, ap₂, subst}
use mathlib.Core.List.{List}
use native.Mathlib.Omega.{arith}
use lib.Dec.{ltb}
use lib.IntN.{ℤ}
use Rattle.geometry.specs.Figures.{squared_distance}
use Rattle.geometry.specs.Select.{farthest, nearest}
use Rattle.geometry.specs.Move.{far_row, near_row, difference, separation, weight_of}
use Rattle.geometry.specs.Table.{coordinate}
use Rattle.geometry.specs.Clauses.{Table, WeightsOf}
use Rattle.geometry.proofs.MoveLaws.{difference-within}
use Rattle.geometry.specs.SelectLaws.{Picked, farthest_cong, farthest_mostℕ, nearest_cong}
use Rattle.limits.specs.Limits.{total}
use Rattle.scores.specs.Clauses.{score_of}
use Rattle.moves.specs.Clauses.{FoundRow, PairWith, Paired}
use Rattle.moves.specs.declared.Pair.{Pair}
use Rattle.moves.specs.declared.Selected.{Selected}

pub found : {scores : List ℕ} {m pick row score : ℕ} → Picked (score_of scores) m pick row score
    → FoundRow scores m pick record { row = row; score = score }
found p = record { is = p.row_is; within = p.within; score_is = p.best_is }

pub near_most : {m pick : ℕ} {scores : List ℕ} {far near : Selected} → FoundRow scores m (farthest ltb (score_of scores) m) far
    → FoundRow scores m pick near → near.score ≤ far.score
near_most {m} {pick} {scores} {far} {near} f k =
    omega (arith, f.score_is ∙ ap (score_of scores) f.is, k.score_is, farthest_mostℕ (score_of scores) m near.row k.within)

module _ {D : ℕ} (most : D ≤ total) {rows : List ℤ} {m n : ℕ} {ws scores : List ℕ} (t : Table rows m n) (g : WeightsOf D m ws) {score : ℕ → ℕ}
    (are : (i : ℕ) → i < m → score_of scores i ≡ score i)
    (far-by : far_row D m n (coordinate rows n) (weight_of ws) ≡ farthest ltb score m)
    (Near-by : near_row D m n (coordinate rows n) (weight_of ws) ≡ nearest ltb (weight_of ws) score m)
    {far near : Selected} (f : FoundRow scores m (farthest ltb (score_of scores) m) far)
    (k : FoundRow scores m (nearest ltb (weight_of ws) (score_of scores) m) near) where
  found-far : far.row ≡ far_row D m n (coordinate rows n) (weight_of ws)
  found-far = f.is ∙ farthest_cong ltb (score_of scores) score m are ∙ sym far-by

  found-near : near.row ≡ near_row D m n (coordinate rows n) (weight_of ws)
  found-near = k.is ∙ nearest_cong ltb (weight_of ws) (weight_of ws) (score_of scores) score m (λ i l. refl) are ∙ sym Near-by

  pub far_score : far.score ≡ score (far_row D m n (coordinate rows n) (weight_of ws))
  far_score = f.score_is ∙ are far.row f.within ∙ ap score found-far

  pub near_score : near.score ≡ score (near_row D m n (coordinate rows n) (weight_of ws))
  near_score = k.score_is ∙ are near.row k.within ∙ ap score found-near

  pub paired : {gap : ℕ} {r : Pair} → gap ≡ difference D m n (coordinate rows n) (weight_of ws) → PairWith rows n far near gap r → Paired D rows m n ws score r
  unfolding separation
  paired {gap} {r} differs b =
      subst (Paired D rows m n ws score) (sym b.is) record {
        far_is = found-far;
        near_is = found-near;
        score_is = far_score;
        difference_is = differs;
        separation_is = b.separation_is ∙ ap₂ (λ i j. squared_distance n (coordinate rows n i) (coordinate rows n j)) found-far found-near;
        far_within = f.within;
        near_within = k.within;
        difference_most = omega (arith, differs, difference-within t g, most);
        separation_most = b.separation_most;
      }
