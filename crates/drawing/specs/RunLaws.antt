-- Laws of runs, for any test `stop` and any move `next`.
--     ended                                          a run that has ended
--     run_zero, run-stop, run_step                   a run with no move left, from weights that stop it, and from others
--     Spent, run_spent                               its moves are at most its budget, and all of it where nothing stopped it
--     run_keeps                                      what a move keeps, a run keeps
-- What a loop that makes the moves one by one keeps:
--     Running                                        the run from here, with the moves left, is the whole run
--     running-start, running_turn                    at its start, and after one move more
--     running_stopped, running_spent                 its end, where the weights stop it and where no move is left
use Prim.Native.Nat.{ℕ, zero, suc, ◌+◌, ◌-◌, ◌≤◌, ◌<◌, zero-le}
use Rattle.std.specs.Prelude.{◌≡◌, Bool, true, false, List}
use Rattle.std.proofs.Math.Path.{refl}
use Rattle.std.proofs.Common.{sym, ◌∙◌, ap, subst, arith}
use Rattle.drawing.specs.Draw.{Run, run}

-- a run that ends with these weights and this number of moves made
abbrev pub ended : List ℕ → ℕ → Run
ended ws made = record { weights = ws; moves = made }

module _ (stop : List ℕ → Bool) (next : List ℕ → List ℕ) (made : ℕ) (ws : List ℕ) where
  pub run_zero : run stop next 0 made ws ≡ ended ws made
  unfolding run
  run_zero = refl

  pub run-stop : (b : ℕ) → stop ws ≡ true → run stop next b made ws ≡ ended ws made
  unfolding run
  run-stop zero h = refl
  run-stop (suc b) h = rw (h, run)

  pub run_step : (b : ℕ) → stop ws ≡ false → run stop next (suc b) made ws ≡ run stop next b (suc made) (next ws)
  unfolding run
  run_step b h = rw (h, run)

-- the moves of a run are at most its budget, and exactly that where no weights stopped it
pub record Spent (stop : List ℕ → Bool) (made b : ℕ) (r : Run) : Type 0 where
  pub most : r.moves ≤ made + b
  pub all : stop r.weights ≡ false → r.moves ≡ made + b

module _ (stop : List ℕ → Bool) (next : List ℕ → List ℕ) where
  pub run_spent : (b made : ℕ) (ws : List ℕ) → Spent stop made b (run stop next b made ws)
  run_spent zero made ws = subst (Spent stop made 0) (sym (run_zero stop next made ws)) record { most = omega arith; all = λ _. omega arith }
  run_spent (suc b) made ws = go (stop ws) refl (run_spent b (suc made) (next ws))
    where
      go : (s : Bool) → stop ws ≡ s → Spent stop (suc made) b (run stop next b (suc made) (next ws)) → Spent stop made (suc b) (run stop next (suc b) made ws)
      go true e rest =
          subst (Spent stop made (suc b)) (sym (run-stop stop next made ws (suc b) e))
          record { most = omega arith; all = λ f. (let z : ◌≡◌ {A = ℕ} 0 1 = cc in absurd (omega arith)) }
      go false e rest =
          subst (Spent stop made (suc b)) (sym (run_step stop next made ws b e))
          record { most = omega arith; all = λ f. omega (arith, rest.all f) }

module _ (stop : List ℕ → Bool) (next : List ℕ → List ℕ) (P : ℕ → List ℕ → Type 0)
    (step : (k : ℕ) (ws : List ℕ) → stop ws ≡ false → P k ws → P (suc k) (next ws)) where
  pub run_keeps : (b made : ℕ) (ws : List ℕ) → P made ws → P (run stop next b made ws).moves (run stop next b made ws).weights
  run_keeps zero made ws p = subst (λ (r : Run). P r.moves r.weights) (sym (run_zero stop next made ws)) p
  run_keeps (suc b) made ws p = go (stop ws) refl (run_keeps b (suc made) (next ws))
    where
      go : (s : Bool) → stop ws ≡ s → (P (suc made) (next ws) → P (run stop next b (suc made) (next ws)).moves (run stop next b (suc made) (next ws)).weights)
          → P (run stop next (suc b) made ws).moves (run stop next (suc b) made ws).weights
      go true e rest = subst (λ (r : Run). P r.moves r.weights) (sym (run-stop stop next made ws (suc b) e)) p
      go false e rest = subst (λ (r : Run). P r.moves r.weights) (sym (run_step stop next made ws b e)) (rest (step made ws e p))

-- ---- a loop over the moves

-- after `made` of the moves that a run from `first` with a budget of b makes, the weights are ws
pub record Running (stop : List ℕ → Bool) (next : List ℕ → List ℕ) (b : ℕ) (first : List ℕ) (made : ℕ) (ws : List ℕ) : Type 0 where
  pub runs_on : run stop next b 0 first ≡ run stop next (b - made) made ws
  pub within : made ≤ b

module _ {stop : List ℕ → Bool} {next : List ℕ → List ℕ} {b : ℕ} {first : List ℕ} where
  pub running-start : {ws : List ℕ} → ws ≡ first → Running stop next b first 0 ws
  running-start e =
      let all : b ≡ b - 0 = omega arith in
      record { runs_on = ap (λ k. run stop next k 0 first) all ∙ ap (run stop next (b - 0) 0) (sym e); within = zero-le }

  module _ {made : ℕ} {ws : List ℕ} (here : Running stop next b first made ws) where
    pub running_turn : {later : List ℕ} → stop ws ≡ false → made < b → later ≡ next ws → Running stop next b first (made + 1) later
    running_turn goes more e =
        let one_less : b - made ≡ suc (b - (made + 1)) = omega arith in
        let one_more : suc made ≡ made + 1 = omega arith in
        record {
          runs_on =
              here.runs_on
              ∙ ap (λ k. run stop next k made ws) one_less
              ∙ run_step stop next made ws (b - (made + 1)) goes
              ∙ ap (λ k. run stop next (b - (made + 1)) k (next ws)) one_more
              ∙ ap (run stop next (b - (made + 1)) (made + 1)) (sym e);
          within = omega arith;
        }

    pub running_stopped : stop ws ≡ true → run stop next b 0 first ≡ ended ws made
    running_stopped h = here.runs_on ∙ run-stop stop next made ws (b - made) h

    pub running_spent : b ≤ made → run stop next b 0 first ≡ ended ws made
    running_spent h =
        let none : b - made ≡ 0 = omega arith in
        here.runs_on ∙ ap (λ k. run stop next k made ws) none ∙ run_zero stop next made ws
