-- What the loop of `run` keeps from its start to its end, and what is made of it.
--     SoFar D rows m n budget weights scores pair moves     the moves so far; the scores and the pair are those of the weights, which sum to D
--     scores_none                                           before the first score
--     start_good, start_scored, begins                      the first weights sum to D, their scores, and all is kept at the start
--     ends                                                  where the test for another move fails, the run is done
--     more, apart                                           where it holds, a move is left and d² is above 0
--     can_move, can_carry                                   what a turn asks of t
--     moved_good, moved_scored, again                       the weights and the scores after a turn, and all is kept
--     drew                                                  what `drawn_within` puts together
use Prim.Native.Nat.{ℕ, ◌+◌, ◌≤◌, ◌<◌}
use mathlib.Core.Path.{◌≡◌, sym, ◌∙◌, ap, ap₂, subst}
use mathlib.Core.Bool.{Bool, true, false, not, ◌&&◌}
use mathlib.Core.Logic.{⊎_elim}
use mathlib.Core.List.{List}
use native.Mathlib.Omega.{arith}
use lib.Dec.{ltb, lit<}
use lib.IntN.{ℤ}
use lib.ListN.{length, replicate, length-replicate, get_or-replicate}
use Rattle.geometry.specs.Move.{is_settled, difference, separation, capped_step, transfer, settled, move_weight, moved, weight_of}
use Rattle.geometry.specs.Scores.{weighted_squared_distance}
use Rattle.geometry.specs.Table.{coordinate}
use Rattle.limits.specs.Limits.{total, row_limit}
use Rattle.integers.specs.Reading.{Bounded}
use Rattle.geometry.specs.Clauses.{Table, WeightsOf}
use Rattle.geometry.proofs.MoveLaws.{separation_positive, move_weight_length, moved_by}
use Rattle.scores.specs.Clauses.{ScoresWithin, Raised, Carriable, Carried}
use Rattle.moves.specs.Clauses.{Paired, Movable, Scored}
use Rattle.moves.specs.ContractLaws.{movable, weights-moved, scored_first, carriable, scored_moved}
use Rattle.moves.specs.declared.Pair.{Pair}
use Rattle.ball.specs.declared.Ball.{Ball}
use Rattle.drawing.specs.declared.Ended.{Ended}
use Rattle.ball.specs.Ball.{ball_of}
use Rattle.drawing.specs.Draw.{start, run_from, drawn}
use Rattle.drawing.specs.Clauses.{Ran}
use Rattle.drawing.specs.RunLaws.{Running, running-start, running_turn, running_stopped, running_spent}
use Rattle.drawing.specs.DrawLaws.{goes_on, stops, start-length, start-total, start_first, start-rest}
use Rattle.refusal.specs.Outcome.{Accepted}

-- D is at most what the machine's numbers hold the figures of
pub record SoFar (D : ℕ) (rows : List ℤ) (m n budget : ℕ) (weights scores : List ℕ) (pair : Pair) (moves : ℕ) : Type 0 where
  pub total_some : 0 < D
  pub total_most : D ≤ total
  pub running : Running (λ ws. settled D m n (coordinate rows n) (weight_of ws)) (moved D m n (coordinate rows n)) budget (start row_limit D) moves weights
  pub places : length weights ≡ row_limit
  pub score_places : length scores ≡ row_limit
  pub scored : Scored rows m n weights scores
  pub weights_good : WeightsOf D m weights
  pub paired : Paired D rows m n weights (weighted_squared_distance m n (coordinate rows n) (weight_of weights)) pair

-- ---- the start

-- no score yet
pub scores_none : {m : ℕ} → m ≤ row_limit → ScoresWithin m (replicate row_limit 0)
scores_none {m} most =
    record {
      places = omega (arith, length-replicate {A = ℕ} row_limit 0);
      most = λ i l. omega (arith, get_or-replicate {A = ℕ} row_limit i 0 0 (omega arith));
    }

module _ {rows : List ℤ} {m n : ℕ} (table : Table rows m n) {D : ℕ} {ws : List ℕ} (first : ws ≡ start row_limit D) where
  pub start_good : WeightsOf D m ws
  start_good =
      subst (WeightsOf D m) (sym first)
      record {
        places = omega (arith, start-length row_limit D, table.rows_most);
        sum = start-total row_limit D m table.some_row table.rows_most;
      }

  pub start_scored : {scores : List ℕ} → Raised rows m n 0 D (replicate row_limit 0) scores → Scored rows m n ws scores
  start_scored {scores} raise =
      subst (λ ws. Scored rows m n ws scores) (sym first)
      (scored_first table.some_row (omega (arith, length-replicate {A = ℕ} row_limit 0, table.rows_most)) (start_first row_limit D (lit< tt)) (start-rest row_limit D)
      (λ i l. get_or-replicate {A = ℕ} row_limit i 0 0 (omega (arith, table.rows_most))) raise)

  pub begins : {budget : ℕ} {scores : List ℕ} {p : Pair} → 0 < D → D ≤ total → length scores ≡ row_limit → Scored rows m n ws scores
      → Paired D rows m n ws (weighted_squared_distance m n (coordinate rows n) (weight_of ws)) p
      → SoFar D rows m n budget ws scores p 0
  begins some most long scores pairs =
      record {
        total_some = some;
        total_most = most;
        running = running-start first;
        places = ap length first ∙ start-length row_limit D;
        score_places = long;
        scored = scores;
        weights_good = start_good;
        paired = pairs;
      }

-- ---- the end, and a turn

module _ {D : ℕ} {rows : List ℤ} {m n budget : ℕ} {weights scores : List ℕ} {pair : Pair} {moves : ℕ}
    (table : Table rows m n) (here : SoFar D rows m n budget weights scores pair moves) where
  abbrev a : ℕ → ℕ → ℤ
  a = coordinate rows n

  abbrev w : ℕ → ℕ
  w = weight_of weights

  abbrev test : Bool
  test = not (is_settled pair.difference pair.separation) && ltb moves budget

  same : test ≡ (not (settled D m n a w) && ltb moves budget)
  unfolding settled
  same = ap₂ (λ g d. not (is_settled g d) && ltb moves budget) here.paired.difference_is here.paired.separation_is

  pub ends : {flag : Bool} → flag ≡ test → flag ≡ false
      → Ran D row_limit rows m n budget record { weights = weights; pair = pair; moves = moves }
  unfolding run_from
  ends tells left =
      let whole = ⊎_elim (running_stopped here.running) (running_spent here.running)
      (stops (settled D m n a w) moves budget (sym same ∙ sym tells ∙ left)) in
      record {
        weights_are = sym (ap (λ r. r.weights) whole);
        moves_are = sym (ap (λ r. r.moves) whole);
        weights_good = here.weights_good;
        paired = here.paired;
      }

  module _ (goes : test ≡ true) where
    both : (settled D m n a w ≡ false) × (moves < budget)
    both = goes_on (settled D m n a w) moves budget (sym same ∙ goes)

    pub more : moves < budget
    more = both.1

    pub apart : 0 < pair.separation
    apart = omega (arith, separation_positive D m n a w here.total_some table.some_row both.0, here.paired)

    -- whatever rows the turn takes, weights and scores stay together; only the near and the far row make it the move
    module _ {t from : ℕ} (stepped : Bounded (w from) t (capped_step pair.difference pair.separation (w from))) (hf : from < m) where
      pub can_move : {to : ℕ} → to < m → Movable t from to weights
      can_move ht = movable here.weights_good hf ht stepped.most here.total_most

      pub can_carry : {to : ℕ} → to < m → Carriable rows m n from to t scores
      can_carry ht = carriable here.total_some here.total_most table here.weights_good here.scored hf ht stepped.most

      module _ (to : ℕ) {later : List ℕ} (move : later ≡ move_weight t from to weights) (ht : to < m) where
        pub moved_good : WeightsOf D m later
        moved_good = subst (WeightsOf D m) (sym move) (weights-moved here.weights_good hf ht stepped.most)

        module _ {after : List ℕ} (carry : Carried rows m n from to t scores after) where
          pub moved_scored : Scored rows m n later after
          moved_scored =
              subst (λ ws. Scored rows m n ws after) (sym move)
              (scored_moved here.weights_good.places hf ht stepped.most here.scored carry)

          transfer_is : from ≡ pair.near → t ≡ transfer D m n a w
          unfolding transfer
          transfer_is e =
              stepped.is
              ∙ ap₂ (λ g d. capped_step g d (w from)) here.paired.difference_is here.paired.separation_is
              ∙ ap (λ j. capped_step (difference D m n a w) (separation D m n a w) (w j)) (e ∙ here.paired.near_is)

          pub again : {p : Pair} → from ≡ pair.near → to ≡ pair.far
              → Paired D rows m n later (weighted_squared_distance m n (coordinate rows n) (weight_of later)) p
              → SoFar D rows m n budget later after p (moves + 1)
          again near far pairs =
              let is_move = moved_by D m n a weights (transfer_is near) (near ∙ here.paired.near_is) (far ∙ here.paired.far_is) in
              record {
                total_some = here.total_some;
                total_most = here.total_most;
                running = running_turn here.running both.0 more (move ∙ is_move);
                places = ap length move ∙ move_weight_length t from to weights ∙ here.places;
                score_places = carry.same_length ∙ here.score_places;
                scored = moved_scored;
                weights_good = moved_good;
                paired = pairs;
              }

-- ---- what is put together

module _ {rows : List ℤ} {m n : ℕ} where
  pub drew : {D limit budget : ℕ} {e : Ended} {b : Ball} → Ran D limit rows m n budget e
      → b ≡ ball_of D m n (coordinate rows n) (weight_of e.weights)
      → record { outcome = Accepted; ball = b; weights = e.weights; moves = e.moves }
      ≡ drawn D m n (coordinate rows n) (run_from D m n (coordinate rows n) budget 0 (start limit D))
  drew ran balls = cc
