-- A list of numbers as its places from one on are given numbers, one place after another.
--     Placed F first old new next               the places from `first` to before `next` hold what F says, the others are as they were
--     placed_none, placed_next, placed_done     before the first, after one more, and after the last
--     placed_here                               the place that is given next is as it was
use Rattle.std.specs.Prelude.{ℕ, ◌+◌, ◌≤◌, ◌<◌, ◌≡◌, refl, List, length, get_or, set}
use Rattle.std.proofs.Common.{ap, ◌∙◌, le_refl, arith, length-set, get_or-set_same, get_or-set_other}
use Rattle.std.proofs.Math.Decide.{dec_lt}

pub record Placed (F : ℕ → ℕ) (first : ℕ) (old new : List ℕ) (next : ℕ) : Type 0 where
  pub same_length : length new ≡ length old
  pub given : (p : ℕ) → first ≤ p → p < next → get_or new p 0 ≡ F p
  pub before : (p : ℕ) → p < first → get_or new p 0 ≡ get_or old p 0
  pub after : (p : ℕ) → next ≤ p → get_or new p 0 ≡ get_or old p 0

module _ {F : ℕ → ℕ} {first : ℕ} {old : List ℕ} where
  pub placed_none : Placed F first old old first
  placed_none = record { same_length = refl; given = λ p l h. absurd (omega arith); before = λ p h. refl; after = λ p h. refl }

  module _ {new : List ℕ} {next : ℕ} (l : Placed F first old new next) where
    pub placed_next : (v : ℕ) → first ≤ next → next < length old → v ≡ F next → Placed F first old (set new next v) (next + 1)
    placed_next v from h is =
        record {
          same_length = length-set new next v ∙ l.same_length;
          given = λ p a b. go p a b (dec_lt p next);
          before = λ p b. get_or-set_other new next p v 0 (λ e. omega arith) ∙ l.before p b;
          after = λ p b. get_or-set_other new next p v 0 (λ e. omega arith) ∙ l.after p (omega arith);
        }
      where
        go : (p : ℕ) → first ≤ p → p < next + 1 → Dec (p < next) → get_or (set new next v) p 0 ≡ F p
        go p a b (yes below) = get_or-set_other new next p v 0 (λ e. omega arith) ∙ l.given p a below
        go p a b (no past) =
            let here : p ≡ next = omega arith in
            ap (λ k. get_or (set new next v) k 0) here ∙ get_or-set_same new next v 0 (omega (arith, l.same_length)) ∙ is ∙ ap F (omega arith)

    pub placed_here : get_or new next 0 ≡ get_or old next 0
    placed_here = l.after next (le_refl next)

    pub placed_done : {last : ℕ} → last ≡ next → Placed F first old new last
    placed_done e =
        record {
          same_length = l.same_length;
          given = λ p a b. l.given p a (omega arith);
          before = l.before;
          after = λ p b. l.after p (omega arith);
        }
