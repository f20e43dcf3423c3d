-- The `W` lines of a record and the weights row by row, both ways, for any limit on rows.
--     weights-length     there is a weight for each row
--     listed_placed      the weights of the `W` lines of weights are these
--     placed_listed      the `W` lines of the weights of rising `W` lines are these
--     ShortWeight w      the weight has at most 19 digits
--     listed-within      the `W` lines of weights rise within the number of rows
--     listed_some        there is one where some weight is above 0
--     listed-length      there are at most as many as weights
use Rattle.std.specs.Prelude.{ℕ, zero, suc, ◌+◌, ◌-◌, ◌≤◌, ◌<◌, ◌≡◌, refl, Bool, true, false, List, [], ◌∷◌, ◌++◌, eqb, length, get_or, set, replicate}
use Rattle.std.proofs.Common.{sym, ◌∙◌, ap, ap₂, subst, arith, eqb-true, length-append, length-set}
use Rattle.std.proofs.lemmas.Bool.{eqb-false}
use Rattle.std.proofs.lemmas.List.{length-replicate, set_at}
use Rattle.std.proofs.Math.Seq.{append_snoc}
use Rattle.lists.specs.Each.{Each, each_head, each_tail}
use Rattle.number.specs.Clauses.{magnitude_limit}
use Rattle.record_lines.specs.Lines.{Weight, weight_within}
use Rattle.record_lines.specs.LinesLaws.{weight_within_lem, within_weight}
use Rattle.record_form.specs.Record.{weights_within}
use Rattle.record_form.specs.RecordLaws.{weights_first, first_weights}
use Rattle.record_form.specs.Weights.{placed_in, weights_of, listed}

placed_length : (places : List ℕ) (ws : List Weight) → length (placed_in places ws) ≡ length places
unfolding placed_in
placed_length places [] = refl
placed_length places (w ∷ ws) = placed_length (set places (w.row - 1) w.weight) ws ∙ length-set places (w.row - 1) w.weight

pub weights-length : (limit : ℕ) (ws : List Weight) → length (weights_of limit ws) ≡ limit
unfolding weights_of
weights-length limit ws = placed_length (replicate limit 0) ws ∙ length-replicate limit 0

-- ---- weights, listed and placed

-- one weight more is placed
placed_more : (v : ℕ) (done places rest : List ℕ) (ws : List Weight)
    → placed_in ((done ++ (v ∷ [])) ++ places) ws ≡ (done ++ (v ∷ [])) ++ rest → placed_in (done ++ (v ∷ places)) ws ≡ done ++ (v ∷ rest)
placed_more v done places rest ws h = ap (λ (l : List ℕ). placed_in l ws) (sym (append_snoc done v places)) ∙ h ∙ append_snoc done v rest

-- the weights of the first rows are placed, those of the others are not yet
placed_rest : (row : ℕ) (done rest : List ℕ) → length done ≡ row
    → placed_in (done ++ replicate (length rest) 0) (listed (suc row) rest) ≡ done ++ rest
unfolding placed_in listed
placed_rest row done [] many = refl
placed_rest row done (zero ∷ rest) many =
    placed_more 0 done (replicate (length rest) 0) rest (listed (suc (suc row)) rest)
    (placed_rest (suc row) (done ++ (0 ∷ [])) rest (length-append done (0 ∷ []) ∙ omega arith))
placed_rest row done (suc w ∷ rest) many =
    let places : List ℕ = replicate (length rest) 0 in
    let here : length done ≡ suc row - 1 = omega arith in
    ap (λ (l : List ℕ). placed_in l (listed (suc (suc row)) rest)) (set_at done 0 places (suc w) (suc row - 1) here)
    ∙ placed_more (suc w) done places rest (listed (suc (suc row)) rest)
    (placed_rest (suc row) (done ++ (suc w ∷ [])) rest (length-append done (suc w ∷ []) ∙ omega arith))

pub listed_placed : (limit : ℕ) (weights : List ℕ) → length weights ≡ limit → weights_of limit (listed 1 weights) ≡ weights
unfolding weights_of
listed_placed limit weights many = rw (← many) (placed_rest 0 [] weights refl)

-- ---- `W` lines, placed and listed

-- n weights after this row whose `W` lines are these
record Listed (last n : ℕ) (ws : List Weight) : Type 0 where
  weights : List ℕ
  many : length weights ≡ n
  is : listed (suc last) weights ≡ ws

-- the next row has the weight 0
none_next : {last n : ℕ} {ws : List Weight} → Listed (suc last) n ws → Listed last (suc n) ws
unfolding listed
none_next others = record { weights = 0 ∷ others.weights; many = ap suc others.many; is = others.is }

-- rising `W` lines are those of some weights
listed_by : (limit n last : ℕ) (ws : List Weight) → last + n ≡ limit → weights_within limit last ws ≡ true → Listed last n ws
unfolding listed weights_within
listed_by limit zero last [] e h = record { weights = []; many = refl; is = refl }
listed_by limit zero last (w ∷ ws) e h =
    let bounds = weight_within_lem limit last w (weights_first limit last w ws h).0 in
    absurd (omega (arith, bounds.0, bounds.1))
listed_by limit (suc n) last [] e h =
    none_next (listed_by limit n (suc last) [] (omega arith) refl)
listed_by limit (suc n) last (w ∷ ws) e h =
    go (eqb w.row (suc last)) refl (listed_by limit n (suc last) ws (omega arith)) (listed_by limit n (suc last) (w ∷ ws) (omega arith))
  where
    first : (weight_within limit last w ≡ true) × (w.weight < magnitude_limit) × (weights_within limit w.row ws ≡ true)
    first = weights_first limit last w ws h

    bounds : (last < w.row) × (w.row ≤ limit) × (1 ≤ w.weight)
    bounds = weight_within_lem limit last w first.0

    here : (v : ℕ) → v ≡ w.weight → 1 ≤ v → w.row ≡ suc last → (weights : List ℕ) → listed (suc (suc last)) weights ≡ ws
        → listed (suc last) (v ∷ weights) ≡ w ∷ ws
    here zero stated some_weight next weights e = absurd (omega arith)
    here (suc k) stated some_weight next weights e = ap₂ ◌∷◌ (ap₂ (λ (r v : ℕ). record { row = r; weight = v }) (sym next) stated) e

    go : (t : Bool) → eqb w.row (suc last) ≡ t → (weights_within limit (suc last) ws ≡ true → Listed (suc last) n ws)
        → (weights_within limit (suc last) (w ∷ ws) ≡ true → Listed (suc last) n (w ∷ ws)) → Listed last (suc n) (w ∷ ws)
    go true test after later =
        let next = eqb-true w.row (suc last) test in
        let others = after (subst (λ (row : ℕ). weights_within limit row ws ≡ true) next first.2) in
        record {
          weights = w.weight ∷ others.weights;
          many = ap suc others.many;
          is = here w.weight refl bounds.2 next others.weights others.is;
        }
    go false test after later =
        let past : suc last < w.row = omega (arith, eqb-false w.row (suc last) test, bounds.0) in
        let within = within_weight limit (suc last) w past bounds.1 bounds.2 in
        none_next (later (first_weights limit (suc last) w ws within first.1 first.2))

pub placed_listed : (limit : ℕ) (ws : List Weight) → weights_within limit 0 ws ≡ true → listed 1 (weights_of limit ws) ≡ ws
placed_listed limit ws h =
    let by = listed_by limit limit 0 ws (omega arith) h in
    ap (λ (l : List Weight). listed 1 (weights_of limit l)) (sym by.is) ∙ ap (listed 1) (listed_placed limit by.weights by.many) ∙ by.is

-- ---- what is listed

abbrev pub ShortWeight : ℕ → Type 0
ShortWeight w = w < magnitude_limit

rows-within : (limit last row : ℕ) (weights : List ℕ) → last < row → row + length weights ≤ suc limit → Each ShortWeight 0 weights
    → weights_within limit last (listed row weights) ≡ true
unfolding listed weights_within
rows-within limit last row [] past most short = refl
rows-within limit last row (zero ∷ weights) past most short =
    rows-within limit last (suc row) weights (omega arith) (omega arith) (each_tail ShortWeight 0 0 weights short)
rows-within limit last row (suc w ∷ weights) past most short =
    first_weights limit last (record { row = row; weight = suc w }) (listed (suc row) weights)
    (within_weight limit last (record { row = row; weight = suc w }) past (omega arith) (omega arith))
    (each_head ShortWeight 0 (suc w) weights short)
    (rows-within limit row (suc row) weights (omega arith) (omega arith) (each_tail ShortWeight 0 (suc w) weights short))

pub listed-within : (weights : List ℕ) → Each ShortWeight 0 weights → weights_within (length weights) 0 (listed 1 weights) ≡ true
listed-within weights short = rows-within (length weights) 0 1 weights (omega arith) (omega arith) short

pub listed_some : (row : ℕ) (weights : List ℕ) (i : ℕ) → 1 ≤ get_or weights i 0 → 1 ≤ length (listed row weights)
unfolding listed
listed_some row [] i h = absurd (omega arith)
listed_some row (zero ∷ weights) zero h = absurd (omega arith)
listed_some row (zero ∷ weights) (suc i) h = listed_some (suc row) weights i h
listed_some row (suc w ∷ weights) i h = omega arith

pub listed-length : (row : ℕ) (weights : List ℕ) → length (listed row weights) ≤ length weights
unfolding listed
listed-length row [] = omega arith
listed-length row (zero ∷ weights) = omega (arith, listed-length (suc row) weights)
listed-length row (suc w ∷ weights) = omega (arith, listed-length (suc row) weights)
