-- Tests of the rows of a block; what moving t from one row to another keeps, for any two rows and any t that the first has; and the scores
-- beside the weights.
--     each_none         a test of no row
--     each_more         and of one row more
--     each_at           what holds of each row of a block holds of a row of it
--     movable           weights within the machine's bound can be moved
--     weights-moved     the weights still sum to D
--     scored_within     e is within the limit on s
--     scored_first      the scores of all weight on the first row
--     carriable         t can move in them
--     scored_moved      the scores carried beside the weights are still theirs
use Prim.Native.Nat.{ℕ, zero, suc, ◌+◌, ◌*◌, ◌≤◌, ◌<◌}
use Rattle.std.specs.Prelude.{◌≡◌, Bool, List, ℤ, length}
use Rattle.std.proofs.Math.Path.{refl, ap, ap₂}
use Rattle.std.proofs.Common.{sym, ◌∙◌, add-one, arith, mul-le-mul_right, zero-add}
use Rattle.std.proofs.Math.Bool.{true, ◌&&◌}
use Rattle.std.proofs.Math.Decide.{dec_lt}
use Rattle.geometry.specs.Clauses.{Table, WeightsOf}
use Rattle.geometry.specs.Move.{weight_of, move_weight}
use Rattle.geometry.proofs.MoveLaws.{move_weight_length, move_weight_total}
use Rattle.geometry.proofs.ScoreLaws.{score_part, score_first, score_moved, score_within}
use Rattle.geometry.specs.Scores.{weighted_squared_distance}
use Rattle.geometry.specs.Table.{coordinate}
use Rattle.geometry.specs.TableLaws.{weights-within, weight_most_lem}
use Rattle.integers.specs.Tests.{both}
use Rattle.limits.specs.Limits.{total}
use Rattle.scores.specs.Clauses.{score_of, column_of, ScoresWithin, Raised, Carriable, Carried}
use Rattle.moves.specs.Clauses.{each_from, Movable, Scored}

-- ---- blocks of rows

module _ (test : ℕ → Bool) (at : ℕ) where
  pub each_none : true ≡ each_from test at 0
  unfolding each_from
  each_none = refl

  pub each_more : (k : ℕ) {so_far here : Bool} → so_far ≡ each_from test at k → here ≡ test (at + k) → (so_far && here) ≡ each_from test at (k + 1)
  unfolding each_from
  each_more k e f = ap₂ ◌&&◌ e f ∙ ap (each_from test at) (sym (add-one k))

  pub each_at : (k : ℕ) → each_from test at k ≡ true → (j : ℕ) → j < k → test (at + j) ≡ true
  unfolding each_from
  each_at zero e j l = absurd (omega arith)
  each_at (suc k) e j l =
      let p = both (each_from test at k) (test (at + k)) e in
      go (each_at k p.0 j) p.1 (dec_lt j k)
    where
      go : (j < k → test (at + j) ≡ true) → test (at + k) ≡ true → Dec (j < k) → test (at + j) ≡ true
      go earlier last (yes below) = earlier below
      go earlier last (no past) = ap (λ i. test (at + i)) (omega arith) ∙ last

-- ---- a move

module _ {D m : ℕ} {ws : List ℕ} (g : WeightsOf D m ws) {t from to : ℕ} (hf : from < m) (ht : to < m) (capped : t ≤ weight_of ws from) where
  pub movable : D ≤ total → Movable t from to ws
  movable most =
      let within = weights-within most g in
      record {
        from_within = omega (arith, g.places);
        to_within = omega (arith, g.places);
        lowered = capped;
        raised = omega (arith, weight_most_lem within from hf, weight_most_lem within to ht);
      }

  pub weights-moved : WeightsOf D m (move_weight t from to ws)
  weights-moved =
      record {
        places = omega (arith, move_weight_length t from to ws, g.places);
        sum = move_weight_total ws m t from to g.places hf ht capped ∙ g.sum;
      }

-- ---- scores

pub scored_within : {D : ℕ} {rows : List ℤ} {m n : ℕ} {ws scores : List ℕ} → 0 < D → D ≤ total → Table rows m n → WeightsOf D m ws
    → Scored rows m n ws scores → ScoresWithin m scores
scored_within some most t g s =
    record { places = s.places; most = λ i l. omega (arith, s.are i l, score_within t some g i l, most) }

-- all weight on the first row: the scores have risen from 0 by that weight times its column
pub scored_first : {rows : List ℤ} {m n D : ℕ} {ws before scores : List ℕ} → 0 < m → m ≤ length before → weight_of ws 0 ≡ D
    → ((j : ℕ) → 0 < j → weight_of ws j ≡ 0) → ((i : ℕ) → i < m → score_of before i ≡ 0) → Raised rows m n 0 D before scores → Scored rows m n ws scores
scored_first {rows} {m} {n} {D} {ws} {before} {scores} some places first rest zeros raised =
    record { places = omega (arith, raised.same_length); are = each }
  where
    above : {j : ℕ} → (j ≡ 0 → ⊥) → 0 < j
    above apart = omega arith

    each : (i : ℕ) → i < m → score_of scores i ≡ weighted_squared_distance m n (coordinate rows n) (weight_of ws) i
    each i l =
        raised.are i l ∙ ap₂ (λ (z d : ℕ). z + d * column_of rows n 0 i) (zeros i l) (sym first) ∙ zero-add (weight_of ws 0 * column_of rows n 0 i)
        ∙ sym (score_first m n (coordinate rows n) (weight_of ws) 0 some (λ j h apart. rest j (above apart)) i)

-- e of every row holds its part of the row that loses t, since that row has t
pub carriable : {D : ℕ} {rows : List ℤ} {m n : ℕ} {ws scores : List ℕ} {t from to : ℕ} → 0 < D → D ≤ total → Table rows m n → WeightsOf D m ws
    → Scored rows m n ws scores → from < m → to < m → t ≤ weight_of ws from → Carriable rows m n from to t scores
carriable {D} {rows} {m} {n} {ws} {scores} {t} {from} some most table g s hf ht capped =
    record {
      table = table;
      from_within = hf;
      to_within = ht;
      factor = omega (arith, capped, weight_most_lem (weights-within most g) from hf);
      within = scored_within some most table g s;
      held = λ i l.
          omega (arith, mul-le-mul_right (column_of rows n from i) capped, score_part m n (coordinate rows n) (weight_of ws) i from hf, s.are i l);
    }

pub scored_moved : {rows : List ℤ} {m n : ℕ} {ws scores later : List ℕ} {t from to : ℕ} → m ≤ length ws → from < m → to < m → t ≤ weight_of ws from
    → Scored rows m n ws scores → Carried rows m n from to t scores later → Scored rows m n (move_weight t from to ws) later
scored_moved {rows} {m} {n} {ws} {scores} {later} {t} {from} {to} places hf ht capped s carried =
    record {
      places = omega (arith, carried.same_length, s.places);
      are = λ i l. omega (arith, carried.are i l, s.are i l, score_moved m n (coordinate rows n) ws t from to places hf ht capped i);
    }
