-- The first refusal of what is lent, row by row, for any row limit and table of types.
--     row_fault types codes earlier row     the refusal that a row meets after rows with these labels, 0 where there is none
--     fault-form, -range, -label           3, 4, 5, each past the tests before it
--     fault_none, none_fault               none of these, and only there 0
--     lent_row lent i                       the row that is lent at a place
--     lent_fault types lent i               the refusal that it meets
--     lent_within_lem, within_lent             the test for 8, as facts
--     each_text                            what holds of 8, of the first refusal of a row and of the text of what is lent, each where it is
--                                          answered, holds of the answer
--     outside                              8 where something is outside its limits
--     first_fault                          the refusal of the first row that meets one
--     no_fault                             the text of what is lent where no row does
--     text_sound                           and where the answer is a text, no test fails and it is that one
use Prim.Native.Nat.{ℕ, ◌+◌, ◌*◌, ◌≤◌, ◌<◌}
use Rattle.std.specs.Prelude.{◌≡◌, Bool, not, ◌&&◌, ◌⊎◌, eqb, get_or, drop}
use Rattle.std.proofs.Math.Path.{refl, sym, ap}
use Rattle.std.proofs.Common.{ap₂, subst, ◌∙◌, inl, inr, arith, eqb-true, eq-eqb, take_at}
use Rattle.std.proofs.Math.Bool.{true, false}
use mathlib.Core.List.{List, [], ◌∷◌, ◌++◌, append_assoc, append-nil, map-append}
use Rattle.std.proofs.Math.Decide.{dec_lt}
use Rattle.std.proofs.Math.ListN.{length, take, length-append}
use Rattle.std.proofs.lemmas.List.{length-map}
use Rattle.std.proofs.Math.Seq.{get_or-append_seam}
use Rattle.integers.specs.Tests.{both, clash, impossible}
use Rattle.integers.specs.SumLaws.{last_or_below}
use Rattle.refusal.specs.Number.{line_form, value_range, label_repeated, outside_limits}
use Rattle.refusal.specs.Outcome.{require}
use Rattle.refusal.specs.OutcomeLaws.{each_answer}
use Rattle.label.specs.RowLabel.{is_row_label, label_used}
use Rattle.channel.specs.Channel.{Types}
use Rattle.value.specs.Values.{values_in_range}
use Rattle.reference_row.specs.Row.{Row, no_row, row_labels}
use Rattle.reference_rows.specs.ReferenceText.{ReferenceText, of_heading, with_row, codes_of, rows_of, labels_of, row_count}
use Rattle.reference_rows.specs.ReferenceTextLaws.{heading-codes, heading-rows, row-codes, row-rows, lines_before_lem}
use Rattle.reference_rows.specs.Rows.{Content, faulty, sound, next_line}
use Rattle.typed_rows.specs.Given.{given_within}
use Rattle.reference_write.specs.Labels.{ends_reach}
use Rattle.reference_write.specs.Writing.{Lent, labels_lent, lent_within, plain_row, plain_rows, text_from, lent_text}
use Rattle.reference_write.specs.Clauses.{fault_by}
use Rattle.reference_write.specs.Held.{TextOf}
use Rattle.reference_write.specs.LabelsLaws.{labels-count}
use Rattle.reference_write.specs.PlainRowsLaws.{rows-labels, rows-count, rows_at}

-- ---- the refusal of one row

unfoldable pub row_fault : Types → List ℕ → List (List ℕ) → Row → ℕ
row_fault types codes earlier row = fault_by (is_row_label row.label) (values_in_range types codes row.values) (label_used row.label earlier)

module _ (types : Types) (codes : List ℕ) (earlier : List (List ℕ)) (row : Row) where
  pub fault-form : is_row_label row.label ≡ false → row_fault types codes earlier row ≡ line_form
  unfolding row_fault
  fault-form formless = rw formless

  pub fault_range : is_row_label row.label ≡ true → values_in_range types codes row.values ≡ false → row_fault types codes earlier row ≡ value_range
  unfolding row_fault
  fault_range labelled outside = rw (labelled, outside)

  pub fault-label : is_row_label row.label ≡ true → values_in_range types codes row.values ≡ true → label_used row.label earlier ≡ true
      → row_fault types codes earlier row ≡ label_repeated
  unfolding row_fault
  fault-label labelled in_range_lem used = rw (labelled, in_range_lem, used)

  pub none_fault : is_row_label row.label ≡ true → values_in_range types codes row.values ≡ true → label_used row.label earlier ≡ false
      → row_fault types codes earlier row ≡ 0
  unfolding row_fault
  none_fault labelled in_range_lem new = rw (labelled, in_range_lem, new)

  pub fault_none : row_fault types codes earlier row ≡ 0
      → (is_row_label row.label ≡ true) × (values_in_range types codes row.values ≡ true) × (label_used row.label earlier ≡ false)
  unfolding row_fault
  fault_none = go (is_row_label row.label) (values_in_range types codes row.values) (label_used row.label earlier)
    where
      go : (labelled in_range_lem used : Bool) → fault_by labelled in_range_lem used ≡ 0 → (labelled ≡ true) × (in_range_lem ≡ true) × (used ≡ false)
      go false in_range_lem used e = absurd (omega arith)
      go true false used e = absurd (omega arith)
      go true true true e = absurd (omega arith)
      go true true false e = (refl, refl, refl)

-- one row after those so far: its refusal, or what comes after it
abbrev fault : Types → ReferenceText → Row → ℕ
fault types so_far row = row_fault types (codes_of so_far) (labels_of so_far) row

module _ (types : Types) (P : Content → Type 0) (so_far : ReferenceText) (row : Row) (rows : List Row) where
  each_row : (1 ≤ fault types so_far row → P (faulty (fault types so_far row) (next_line so_far))) → (fault types so_far row ≡ 0 → P (text_from types (with_row so_far row) rows))
      → P (text_from types so_far (row ∷ rows))
  unfolding row_fault text_from
  each_row = go (is_row_label row.label) (values_in_range types (codes_of so_far) row.values) (label_used row.label (labels_of so_far))
    where
      line : ℕ
      line = next_line so_far

      rest : Content
      rest = text_from types (with_row so_far row) rows

      go : (labelled in_range_lem used : Bool) → (1 ≤ fault_by labelled in_range_lem used → P (faulty (fault_by labelled in_range_lem used) line))
          → (fault_by labelled in_range_lem used ≡ 0 → P rest)
          → P
          (require labelled (faulty line_form line) (λ _.
          require in_range_lem (faulty value_range line) (λ _.
          require (not used) (faulty label_repeated line) (λ _.
          rest))))
      go false in_range_lem used refused passed = refused (omega arith)
      go true false used refused passed = refused (omega arith)
      go true true true refused passed = refused (omega arith)
      go true true false refused passed = passed refl

-- ---- the first refusal of rows

module _ (types : Types) (codes : List ℕ) (rows : List Row) where
  -- the refusal of row i
  abbrev fault_at : ℕ → ℕ
  fault_at i = row_fault types codes (take i (row_labels rows)) (get_or rows i no_row)

  -- none of the first rows meets one
  abbrev Passed : ℕ → Type 0
  Passed count = (j : ℕ) → j < count → fault_at j ≡ 0

  module _ (so_far : ReferenceText) (same : codes_of so_far ≡ codes) (row : Row) (after : List Row) (is : rows_of so_far ++ (row ∷ after) ≡ rows) where
    fault-here : fault_at (row_count so_far) ≡ fault types so_far row
    fault-here =
        let before = labels_of so_far in
        let count = row_count so_far in
        let labels : take count (row_labels rows) ≡ before =
        ap (λ (l : List Row). take count (row_labels l)) (sym is) ∙ ap (take count) (map-append (λ (r : Row). r.label) (rows_of so_far) (row ∷ after))
        ∙ take_at before (row_labels (row ∷ after)) count (length-map (rows_of so_far) (λ (r : Row). r.label)) in
        let this : get_or rows count no_row ≡ row =
        ap (λ (l : List Row). get_or l count no_row) (sym is) ∙ get_or-append_seam (rows_of so_far) row after no_row in
        rw (labels, this, ← same)

    place : row_count so_far < length rows
    place = omega (arith, ap length is, length-append (rows_of so_far) (row ∷ after))

  module _ (P : Content → Type 0)
      (refused : (i : ℕ) → i < length rows → Passed i → 1 ≤ fault_at i → P (faulty (fault_at i) (i + 2)))
      (accepted : (found : ReferenceText) → codes_of found ≡ codes → rows_of found ≡ rows → Passed (length rows) → P (sound found)) where
    from_here : (after : List Row) (so_far : ReferenceText) → codes_of so_far ≡ codes → rows_of so_far ++ after ≡ rows → Passed (row_count so_far)
        → P (text_from types so_far after)
    unfolding text_from
    from_here [] so_far same is passed =
        let whole = sym (append-nil (rows_of so_far)) ∙ is in
        accepted so_far same whole (λ j l. passed j (omega (arith, ap length whole)))
    from_here (row ∷ after) so_far same is passed =
        let count = row_count so_far in
        let here = fault-here so_far same row after is in
        each_row types P so_far row after
        (λ some.
        let line : count + 2 ≡ next_line so_far = omega (arith, lines_before_lem so_far) in
        rw (← here, ← line) (refused count (place so_far same row after is) passed (rw here some)))
        (λ none.
        from_here after (with_row so_far row) (row-codes so_far row ∙ same)
        (ap (λ (l : List Row). l ++ after) (row-rows so_far row) ∙ append_assoc (rows_of so_far) (row ∷ []) after ∙ is)
        (λ j l. go (here ∙ none) (last_or_below count j (omega (arith, ap length (row-rows so_far row), length-append (rows_of so_far) (row ∷ []))))))
      where
        go : {j : ℕ} → fault_at (row_count so_far) ≡ 0 → (j ≡ row_count so_far) ⊎ (j < row_count so_far) → fault_at j ≡ 0
        go {j} none (inl at) = ap fault_at at ∙ none
        go {j} none (inr below) = passed j below

-- ---- what is lent

-- its label, and n of the places of the table
abbrev pub lent_row : Lent → ℕ → Row
lent_row lent i = plain_row (get_or (labels_lent lent) i []) (take lent.n (drop (i * lent.n) lent.rows))

abbrev pub lent_fault : Types → Lent → ℕ → ℕ
lent_fault types lent i = row_fault types (take lent.n lent.codes) (take i (labels_lent lent)) (lent_row lent i)

-- none of the first rows meets a refusal
abbrev pub NoFault : Types → Lent → ℕ → Type 0
NoFault types lent count = (i : ℕ) → i < count → lent_fault types lent i ≡ 0

module _ (limit : ℕ) (types : Types) (lent : Lent) where
  abbrev given : Bool
  given = given_within limit types lent.rows lent.m lent.n lent.codes

  abbrev reach : Bool
  reach = ends_reach 0 lent.ends (length lent.labels)

  pub lent_within_lem : lent_within limit types lent ≡ true → (given ≡ true) × (length lent.ends ≡ lent.m) × (reach ≡ true)
  lent_within_lem h =
      let count = eqb (length lent.ends) lent.m in
      let parts = both given (count && reach) h in
      let ends = both count reach parts.1 in
      (parts.0, eqb-true (length lent.ends) lent.m ends.0, ends.1)

  pub within_lent : given ≡ true → length lent.ends ≡ lent.m → reach ≡ true → lent_within limit types lent ≡ true
  within_lent within count reaches = ap₂ ◌&&◌ within (ap₂ ◌&&◌ (eq-eqb (length lent.ends) lent.m count) reaches)

  abbrev labels : List (List ℕ)
  labels = labels_lent lent

  abbrev rows : List Row
  rows = plain_rows lent.n labels lent.rows

  module _ (count : length lent.ends ≡ lent.m) where
    labels_many : length labels ≡ lent.m
    labels_many = labels-count lent.labels 0 lent.ends ∙ count

    rows_many : length rows ≡ lent.m
    rows_many = rows-count lent.n labels lent.rows ∙ labels_many

    fault-at : (i : ℕ) → i < lent.m → fault_at types (take lent.n lent.codes) rows i ≡ lent_fault types lent i
    fault-at i l =
        ap₂ (λ earlier row. row_fault types (take lent.n lent.codes) (take i earlier) row)
        (rows-labels lent.n labels lent.rows) (rows_at lent.n labels lent.rows i (omega (arith, labels_many)))

  module _ (P : Content → Type 0)
      (outside-is : lent_within limit types lent ≡ false → P (faulty outside_limits 0))
      (fault_is : lent_within limit types lent ≡ true → (i : ℕ) → i < lent.m → NoFault types lent i → 1 ≤ lent_fault types lent i
      → P (faulty (lent_fault types lent i) (i + 2)))
      (text_is : lent_within limit types lent ≡ true → NoFault types lent lent.m → (found : ReferenceText) → TextOf lent found → P (sound found)) where
    pub each_text : P (lent_text limit types lent)
    unfolding lent_text
    each_text =
        let codes = take lent.n lent.codes in
        each_answer P (lent_within limit types lent) outside-is (λ within.
        let count = (lent_within_lem within).1 in
        let many = rows_many count in
        from_here types codes rows P
        (λ i l passed some.
        let here = fault-at count i (omega arith) in
        rw here (fault_is within i (omega arith) (λ j b. sym (fault-at count j (omega arith)) ∙ passed j b) (rw (← here) some)))
        (λ found same are passed.
        text_is within (λ j b. sym (fault-at count j b) ∙ passed j (omega arith)) found record { codes = same; all_rows = are })
        rows (of_heading codes) (heading-codes codes) (ap (λ (l : List Row). l ++ rows) (heading-rows codes))
        (λ j l. absurd (omega (arith, ap length (heading-rows codes)))))

  pub outside : lent_within limit types lent ≡ false → lent_text limit types lent ≡ faulty outside_limits 0
  unfolding lent_text
  outside h = rw h

  module _ (within : lent_within limit types lent ≡ true) where
    pub first_fault : (i : ℕ) → i < lent.m → NoFault types lent i → 1 ≤ lent_fault types lent i
        → lent_text limit types lent ≡ faulty (lent_fault types lent i) (i + 2)
    first_fault i l passed some =
        each_text (λ c. c ≡ faulty (lent_fault types lent i) (i + 2)) (λ h. clash within h)
        (λ _ j b before fault. same j (order j before fault))
        (λ _ none found is. absurd (omega (arith, none i l)))
      where
        order : (j : ℕ) → NoFault types lent j → 1 ≤ lent_fault types lent j → j ≡ i
        order j before fault = go (dec_lt j i) (dec_lt i j)
          where
            go : Dec (j < i) → Dec (i < j) → j ≡ i
            go (yes b) d = absurd (omega (arith, passed j b))
            go (no b) (yes d) = absurd (omega (arith, before i d))
            go (no b) (no d) = omega arith

        same : (j : ℕ) → j ≡ i → faulty (lent_fault types lent j) (j + 2) ≡ faulty (lent_fault types lent i) (i + 2)
        same j e = ap (λ k. faulty (lent_fault types lent k) (k + 2)) e

    pub no_fault : NoFault types lent lent.m → (found : ReferenceText) × (lent_text limit types lent ≡ sound found) × TextOf lent found
    no_fault none =
        each_text (λ c. (found : ReferenceText) × (c ≡ sound found) × TextOf lent found) (λ h. clash within h)
        (λ _ i l before some. absurd (omega (arith, none i l))) (λ _ _ found is. (found, refl, is))

  pub text_sound : (found : ReferenceText) → lent_text limit types lent ≡ sound found
      → (lent_within limit types lent ≡ true) × NoFault types lent lent.m × TextOf lent found
  text_sound found =
      each_text (λ c. c ≡ sound found → (lent_within limit types lent ≡ true) × NoFault types lent lent.m × TextOf lent found)
      (λ _ e. refused_not e) (λ _ _ _ _ _ e. refused_not e)
      (λ within none text is e. let same : text ≡ found = cc in (within, none, subst (TextOf lent) same is))
    where
      refused_not : {Q : Type 0} {number line : ℕ} → faulty number line ≡ sound found → Q
      refused_not e = impossible cc
