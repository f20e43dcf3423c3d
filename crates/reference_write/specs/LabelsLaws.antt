-- Labels as they are lent. Every list of labels is lent in exactly one way.
--     labels-count, ends_count      there are as many labels as ends, and as many ends as labels
--     lent_labels                   labels that are lent one after another are found again
--     lent_reach                    their ends are right
--     labels_lent_lem                   bytes with right ends are those of the labels that are found in them
-- In the turns of a loop over the ends:
--     reach_most                    no end is above the number of bytes
--     labels_next                   the label that ends at the next end, and those after it
--     reach-at                      the test of the ends, by the next one
--     reach_done                    and where none is left
--     reach_next                    the next end is not below the one before it, and those after it are right too
use Rattle.std.specs.Prelude.{ℕ, suc, ◌+◌, ◌-◌, ◌≤◌, ◌<◌, ◌≡◌, refl, true, ◌&&◌, eqb, leb, get_or}
use Rattle.std.proofs.Math.Path.{sym, ap}
use Rattle.std.proofs.Common.{ap₂, ◌∙◌, add-one, length-append, drop_of_length-le, drop_at, drop-cons, drop-drop, take_at}
use mathlib.Core.List.{List, [], ◌∷◌, ◌++◌, append_assoc}
use native.Mathlib.Omega.{arith}
use borrow.Author.Tests.{leb-true, le-leb, eqb-true, eq-eqb}
use Rattle.std.proofs.Math.ListN.{length, take, drop, length-drop, take-append-drop}
use Rattle.std.proofs.Math.Seq.{length-take-le}
use Rattle.integers.specs.Tests.{both}
use Rattle.reference_write.specs.Labels.{labels_from, ends_reach, labels_joined, ends_from}

-- ---- how many

pub labels-count : (bytes : List ℕ) (from : ℕ) (ends : List ℕ) → length (labels_from bytes from ends) ≡ length ends
unfolding labels_from
labels-count bytes from [] = refl
labels-count bytes from (end ∷ ends) = ap suc (labels-count bytes end ends)

pub ends_count : (from : ℕ) (labels : List (List ℕ)) → length (ends_from from labels) ≡ length labels
unfolding ends_from
ends_count from [] = refl
ends_count from (label ∷ labels) = ap suc (ends_count (from + length label) labels)

-- ---- labels, lent and found again

-- labels that stand after other bytes
found_after : (labels : List (List ℕ)) (before : List ℕ) (from : ℕ) → length before ≡ from
    → labels_from (before ++ labels_joined labels) from (ends_from from labels) ≡ labels
unfolding labels_from labels_joined ends_from
found_after [] before from e = refl
found_after (label ∷ labels) before from e =
    let others = labels_joined labels in
    let end = from + length label in
    let size : end - from ≡ length label = omega arith in
    ap₂ ◌∷◌
    (ap (take (end - from)) (drop_at before (label ++ others) from e) ∙ take_at label others (end - from) (sym size))
    (ap (λ bytes. labels_from bytes end (ends_from end labels)) (sym (append_assoc before label others))
    ∙ found_after labels (before ++ label) end (length-append before label ∙ ap (λ k. k + length label) e))

pub lent_labels : (labels : List (List ℕ)) → labels_from (labels_joined labels) 0 (ends_from 0 labels) ≡ labels
lent_labels labels = found_after labels [] 0 refl

reach-after : (labels : List (List ℕ)) (from count : ℕ) → from + length (labels_joined labels) ≡ count → ends_reach from (ends_from from labels) count ≡ true
unfolding ends_reach labels_joined ends_from
reach-after [] from count e = eq-eqb from count (omega arith)
reach-after (label ∷ labels) from count e =
    let end = from + length label in
    ap₂ ◌&&◌ (le-leb from end (omega arith))
    (reach-after labels end count (omega (arith, length-append label (labels_joined labels))))

pub lent_reach : (labels : List (List ℕ)) → ends_reach 0 (ends_from 0 labels) (length (labels_joined labels)) ≡ true
lent_reach labels = reach-after labels 0 (length (labels_joined labels)) (omega arith)

pub reach_most : (from : ℕ) (ends : List ℕ) (count : ℕ) → ends_reach from ends count ≡ true → from ≤ count
unfolding ends_reach
reach_most from [] count h = omega (arith, eqb-true from count h)
reach_most from (end ∷ ends) count h =
    let tests = both (leb from end) (ends_reach end ends count) h in
    omega (arith, leb-true from end tests.0, reach_most end ends count tests.1)

module _ (bytes : List ℕ) where
  -- those that are found from an index on
  lent_from : (ends : List ℕ) (from : ℕ) → ends_reach from ends (length bytes) ≡ true
      → (labels_joined (labels_from bytes from ends) ≡ drop from bytes) × (ends_from from (labels_from bytes from ends) ≡ ends)
  unfolding labels_from ends_reach labels_joined ends_from
  lent_from [] from h = (sym (drop_of_length-le bytes {i = from} (omega (arith, eqb-true from (length bytes) h))), refl)
  lent_from (end ∷ ends) from h =
      let tests = both (leb from end) (ends_reach end ends (length bytes)) h in
      let rises = leb-true from end tests.0 in
      let most = reach_most end ends (length bytes) tests.1 in
      let size = end - from in
      let rest = drop from bytes in
      let others = lent_from ends end tests.1 in
      let place : from + size ≡ end = omega arith in
      let room : size ≤ length rest = omega (arith, length-drop from bytes) in
      let reached : from + length (take size rest) ≡ end = omega (arith, length-take-le size rest room) in (
        ap (λ l. take size rest ++ l) (others.0 ∙ ap (λ k. drop k bytes) (sym place) ∙ sym (drop-drop size from bytes)) ∙ take-append-drop size rest,
        ap (λ k. k ∷ ends_from k (labels_from bytes end ends)) reached ∙ ap (λ l. end ∷ l) others.1,
      )

  pub labels_lent_lem : (ends : List ℕ) → ends_reach 0 ends (length bytes) ≡ true
      → (labels_joined (labels_from bytes 0 ends) ≡ bytes) × (ends_from 0 (labels_from bytes 0 ends) ≡ ends)
  labels_lent_lem ends = lent_from ends 0

-- ---- the turns of a loop over the ends

module _ (ends : List ℕ) (i : ℕ) (below : i < length ends) (from : ℕ) where
  -- the end at place i, and those after it
  ends_at : drop i ends ≡ get_or ends i 0 ∷ drop (i + 1) ends
  ends_at = drop-cons ends i 0 below ∙ ap (λ j. get_or ends i 0 ∷ drop j ends) (sym (add-one i))

  pub labels_next : (bytes : List ℕ)
      → labels_from bytes from (drop i ends) ≡ take (get_or ends i 0 - from) (drop from bytes) ∷ labels_from bytes (get_or ends i 0) (drop (i + 1) ends)
  unfolding labels_from
  labels_next bytes = ap (labels_from bytes from) ends_at

  pub reach-at : (count : ℕ)
      → ends_reach from (drop i ends) count ≡ (leb from (get_or ends i 0) && ends_reach (get_or ends i 0) (drop (i + 1) ends) count)
  unfolding ends_reach
  reach-at count = ap (λ l. ends_reach from l count) ends_at

  pub reach_next : (count : ℕ) → ends_reach from (drop i ends) count ≡ true
      → (from ≤ get_or ends i 0) × (ends_reach (get_or ends i 0) (drop (i + 1) ends) count ≡ true)
  reach_next count h =
      let end = get_or ends i 0 in
      let tests = both (leb from end) (ends_reach end (drop (i + 1) ends) count) (sym (reach-at count) ∙ h) in
      (leb-true from end tests.0, tests.1)

pub reach_done : (ends : List ℕ) (i : ℕ) → length ends ≤ i → (from count : ℕ) → ends_reach from (drop i ends) count ≡ eqb from count
unfolding ends_reach
reach_done ends i h from count = ap (λ l. ends_reach from l count) (drop_of_length-le ends {i = i} h)
