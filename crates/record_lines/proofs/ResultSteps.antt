-- An `R` line that is read field by field.
--     ending_in letter                        the ending that the rest of a line states
--     ending_settled, ending_budget          by its comparison with the two letters
--     ResultHeld, result_read_lem                what the machine reads of an `R` line in form, and the answer to it
--     result_no_numbers, result_short        a line without its numbers, or with no letter after them
--     result_no_letter                       a line with another letter
--     result_below, result_above             a line with moves out of their limit
--     result_held                            a line in form
use Prim.Native.Nat.{ℕ, ◌≤◌, ◌<◌, min}
use mathlib.Core.Path.{◌≡◌, refl, sym, ap, ap₂, ◌∙◌}
use mathlib.Core.Bool.{Bool, true, false, cond}
use mathlib.Core.List.{List, [], ◌∷◌}
use mathlib.Core.Option.{Option, none, some}
use Rattle.std.specs.Prelude.{None, Some}
use native.Mathlib.Omega.{arith}
use borrow.Author.Tests.{ltb-true, ltb-false, le-leb, lt-leb}
use lib.Dec.{lit<}
use lib.IntN.{ℤ, pos, negsuc, nat_abs}
use lib.ListN.{length, get_or, drop}
use lib.Signed.{lt_z}
use mir.Syntax.{w64}
use Rattle.integers.specs.Reading.{back}
use Rattle.integers.specs.Tests.{clash, impossible}
use Rattle.limits.specs.Limits.{budget_limit}
use Rattle.text.specs.Parts.{comma, cut, join, same, parts_from}
use Rattle.text.specs.PartsLaws.{same_eq, cut_some, join-cut, parts_within, parts_none}
use Rattle.record_lines.specs.Lines.{settled_letter, budget_letter, ending_of, moves_of, Result, result_word, result_with, result_of, result_fields, result_line}
use Rattle.record_lines.specs.Clauses.{held_limit, held, NumbersRead, result_read}
use Rattle.record_lines.specs.ContractLaws.{held-negative}
use Rattle.record_lines.proofs.LineSteps.{numbers_no, numbers_some, numbers-held, numbers-rest}

-- the ending that the rest of a line states
abbrev pub ending_in : List ℕ → Option Bool
ending_in letter = cond (same letter settled_letter) (some true) (cond (same letter budget_letter) (some false) none)

-- a letter has no comma, so that a rest of more fields is neither
ending_alone : (l : List ℕ) → ending_of (cut comma l) ≡ ending_in l
unfolding join cut
ending_alone l = go (cut comma l) refl
  where
    other : (letter : List ℕ) → cut comma letter ≡ letter ∷ [] → {first next : List ℕ} {fields : List (List ℕ)} → cut comma l ≡ first ∷ next ∷ fields
        → same l letter ≡ false
    other letter alone e = test (same l letter) refl
      where
        test : (t : Bool) → same l letter ≡ t → t ≡ false
        test false h = refl
        test true h =
            let k = ap length (sym e ∙ ap (cut comma) (same_eq l letter h) ∙ alone) in
            absurd (omega arith)

    go : (fields : List (List ℕ)) → cut comma l ≡ fields → ending_of fields ≡ ending_in l
    go [] e = impossible (cc (cut_some comma l).2)
    go (letter ∷ []) e = ap ending_in (ap (join comma) (sym e) ∙ join-cut comma l)
    go (first ∷ next ∷ fields) e =
        sym (ap₂ (λ s b. cond s (some true) (cond b (some false) none)) (other settled_letter refl e) (other budget_letter refl e))

module _ (letter : List ℕ) (settled : Bool) (e : same letter settled_letter ≡ settled) where
  pub ending_settled : settled ≡ true → ending_in letter ≡ some settled
  ending_settled t = ap (λ s. cond s (some true) (cond (same letter budget_letter) (some false) none)) (e ∙ t) ∙ sym (ap some t)

  pub ending_budget : settled ≡ false → same letter budget_letter ≡ true → ending_in letter ≡ some settled
  ending_budget t b = ap₂ (λ s b. cond s (some true) (cond b (some false) none)) (e ∙ t) b ∙ sym (ap some t)

moves_below : (z : ℤ) → lt_z (held z) (pos 0) ≡ true → moves_of z ≡ none
moves_below (pos m) h = absurd (omega (arith, ltb-true (min m held_limit) 0 h))
moves_below (negsuc k) h = refl

moves_above : (z : ℤ) → lt_z (pos budget_limit) (held z) ≡ true → moves_of z ≡ none
moves_above (pos m) h =
    ap (λ t. cond t (some m) none) (lt-leb m budget_limit (omega (arith, ltb-true budget_limit (min m held_limit) h)))
moves_above (negsuc k) h = refl

moves_within : (z : ℤ) → lt_z (held z) (pos 0) ≡ false → lt_z (pos budget_limit) (held z) ≡ false
    → (m : ℕ) × (moves_of z ≡ some m) × (held z ≡ pos m) × (m ≤ budget_limit)
moves_within (pos m) h i =
    let high = ltb-false budget_limit (min m held_limit) i in
    let k : min m held_limit ≡ m = omega arith in
    let l : m ≤ budget_limit = omega arith in
    (m, ap (λ t. cond t (some m) none) (le-leb m budget_limit l), ap pos k, l)
moves_within (negsuc k) h i = clash (ap (λ z. lt_z z (pos 0)) (held-negative k).1) h

-- what the machine reads of an `R` line in form: the moves as they are, the figures as an i64 keeps them
pub record ResultHeld (o : Option Result) (x y z : ℤ) (settled : Bool) : Type 0 where
  pub result : Result
  pub is : o ≡ some result
  pub radius_is : x ≡ held result.scaled_squared_radius
  pub floor_is : y ≡ held result.scaled_lower_bound
  pub moves_is : z ≡ pos result.moves
  pub moves_most : result.moves ≤ budget_limit
  pub settled_is : settled ≡ result.settled

pub result_read_lem : {o : Option Result} {x y z : ℤ} {settled : Bool} → ResultHeld o x y z settled
    → Some (record { scaled_squared_radius = x; scaled_lower_bound = y; moves = nat_abs z; settled = settled }) ≡ result_read o
result_read_lem {o} {x} {y} {z} {settled} f =
    let moves : nat_abs z ≡ f.result.moves = ap nat_abs f.moves_is in
    let read = ap result_read f.is in
    cc (f.radius_is, f.floor_is, f.settled_is)

module _ {line : List ℕ} {lent₀ lent : List ℤ} where
  pub result_no_numbers : NumbersRead result_word 3 line lent₀ lent None → result_line line ≡ none
  unfolding result_line result_fields
  result_no_numbers f = ap (λ o. result_of o (ending_of (drop 4 (cut comma line)))) (numbers_no f)

  module _ {next : ℕ} (f : NumbersRead result_word 3 line lent₀ lent (Some next)) where
    figure : ℕ → ℤ
    figure k = get_or (numbers_some f).0 k (pos 0)

    figure-reads : (k : ℕ) → k < 3 → back w64 (get_or lent k (pos 0)) ≡ held (figure k)
    unfolding figure
    figure-reads k b = numbers-held f k b

    result_is : result_line line ≡ result_with (figure 0) (figure 1) (moves_of (figure 2)) (ending_of (parts_from comma line next))
    unfolding result_line result_fields figure
    result_is = ap₂ (λ o fields. result_of o (ending_of fields)) (numbers_some f).1 (sym (numbers-rest f))

    no_ending : ending_of (parts_from comma line next) ≡ none → result_line line ≡ none
    no_ending e = result_is ∙ ap (result_with (figure 0) (figure 1) (moves_of (figure 2))) e ∙ go (moves_of (figure 2))
      where
        go : (o : Option ℕ) → result_with (figure 0) (figure 1) o none ≡ none
        go none = refl
        go (some m) = refl

    no_moves : moves_of (figure 2) ≡ none → result_line line ≡ none
    no_moves e = result_is ∙ ap (λ o. result_with (figure 0) (figure 1) o (ending_of (parts_from comma line next))) e

    pub result_short : length line < next → result_line line ≡ none
    result_short b = no_ending (ap ending_of (parts_none comma line next b))

    pub result_below : lt_z (back w64 (get_or lent 2 (pos 0))) (pos 0) ≡ true → result_line line ≡ none
    result_below t = no_moves (moves_below (figure 2) (ap (λ z. lt_z z (pos 0)) (sym (figure-reads 2 (lit< tt))) ∙ t))

    pub result_above : lt_z (pos budget_limit) (back w64 (get_or lent 2 (pos 0))) ≡ true → result_line line ≡ none
    result_above t = no_moves (moves_above (figure 2) (ap (lt_z (pos budget_limit)) (sym (figure-reads 2 (lit< tt))) ∙ t))

    module _ (within : next ≤ length line) where
      ending_is : ending_of (parts_from comma line next) ≡ ending_in (drop next line)
      ending_is = ap ending_of (parts_within comma line next within) ∙ ending_alone (drop next line)

      pub result_no_letter : same (drop next line) settled_letter ≡ false → same (drop next line) budget_letter ≡ false → result_line line ≡ none
      result_no_letter s b = no_ending (ending_is ∙ ap₂ (λ s b. cond s (some true) (cond b (some false) none)) s b)

      pub result_held : (settled : Bool) → ending_in (drop next line) ≡ some settled
          → lt_z (back w64 (get_or lent 2 (pos 0))) (pos 0) ≡ false → lt_z (pos budget_limit) (back w64 (get_or lent 2 (pos 0))) ≡ false
          → ResultHeld (result_line line) (back w64 (get_or lent 0 (pos 0))) (back w64 (get_or lent 1 (pos 0))) (back w64 (get_or lent 2 (pos 0))) settled
      result_held settled e t u =
          let reads = figure-reads 2 (lit< tt) in
          let m = moves_within (figure 2) (ap (λ z. lt_z z (pos 0)) (sym reads) ∙ t) (ap (lt_z (pos budget_limit)) (sym reads) ∙ u) in
          record {
            result = record { scaled_squared_radius = figure 0; scaled_lower_bound = figure 1; moves = m.0; settled = settled };
            is = result_is ∙ ap₂ (result_with (figure 0) (figure 1)) m.1 (ending_is ∙ e);
            radius_is = figure-reads 0 (lit< tt);
            floor_is = figure-reads 1 (lit< tt);
            moves_is = reads ∙ m.2;
            moves_most = m.3;
            settled_is = refl;
          }
