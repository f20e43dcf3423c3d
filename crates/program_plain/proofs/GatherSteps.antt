-- Labels as they are gathered one by one.
--     Gathering                                   before the label of a row: those so far, and where each ends
--     gathering_none, -next, -done                no label, one more, and all
use Prim.Native.Nat.{ℕ, ◌+◌, ◌*◌, ◌≤◌, ◌<◌}
use mathlib.Core.Path.{◌≡◌, refl, sym, ap, ap₂, ◌∙◌}
use mathlib.Core.List.{List, [], ◌∷◌, ◌++◌}
use native.Mathlib.Numerals.{add-one}
use native.Mathlib.Omega.{arith}
use lib.ListN.{length, get_or, set, take, length-append, length-set}
use lib.Seq.{take-suc-set}
use Rattle.limits.specs.Limits.{row_limit, label_limit}
use Rattle.printing.specs.Clauses.{Put}
use Rattle.reference_write.specs.Labels.{labels_joined, ends_from}
use Rattle.program_plain.specs.Clauses.{label_from, labels_at, Gathered}
use Rattle.program_plain.specs.ContractLaws.{joined_more, ends_more}

pub record Gathering (text starts labels₀ ends₀ labels ends : List ℕ) (size row : ℕ) : Type 0 where
  pub most : size ≤ row * label_limit
  pub size_is : size ≡ length (labels_joined (labels_at text starts row))
  pub all_bytes : take size labels ≡ labels_joined (labels_at text starts row)
  pub all_ends : take row ends ≡ ends_from 0 (labels_at text starts row)
  pub same_labels : length labels ≡ length labels₀
  pub same_ends : length ends ≡ length ends₀

module _ {text starts labels₀ ends₀ : List ℕ} where
  pub gathering_none : Gathering text starts labels₀ ends₀ labels₀ ends₀ 0 0
  unfolding labels_at labels_joined ends_from
  gathering_none = record { most = omega arith; size_is = refl; all_bytes = refl; all_ends = refl; same_labels = refl; same_ends = refl }

  pub gathering_next : {labels labels' ends : List ℕ} {size size' row : ℕ} → Gathering text starts labels₀ ends₀ labels ends size row
      → row < length ends₀ → length (label_from text (get_or starts row 0)) ≤ label_limit
      → Put (label_from text (get_or starts row 0)) labels size labels' size'
      → Gathering text starts labels₀ ends₀ labels' (set ends row size') size' (row + 1)
  unfolding labels_at
  gathering_next {labels} {labels'} {ends} {size} {size'} {row} g room short put =
      let label = label_from text (get_or starts row 0) in
      let so_far = labels_at text starts row in
      let more = so_far ++ (label ∷ []) in
      let labels_are : labels_at text starts (row + 1) ≡ more = ap (labels_at text starts) (add-one row) in
      let bytes-are : labels_joined (labels_at text starts (row + 1)) ≡ labels_joined so_far ++ label = ap labels_joined labels_are ∙ joined_more so_far label in
      let size-more : size' ≡ length (labels_joined more) =
      omega (arith, put.next, g.size_is, ap length (joined_more so_far label), length-append (labels_joined so_far) label) in
      let size-from : size' ≡ 0 + length (labels_joined more) = omega (arith, size-more) in
      record {
        most = omega (arith, put.next, g.most);
        size_is = size-more ∙ ap (λ (ls : List (List ℕ)). length (labels_joined ls)) (sym labels_are);
        all_bytes = put.is ∙ ap (λ (l : List ℕ). l ++ label) g.all_bytes ∙ sym bytes-are;
        all_ends =
            ap (λ (k : ℕ). take k (set ends row size')) (add-one row) ∙ take-suc-set ends row size' (omega (arith, g.same_ends))
            ∙ ap₂ (λ (l : List ℕ) (k : ℕ). l ++ (k ∷ [])) g.all_ends size-from ∙ sym (ends_more 0 so_far label)
            ∙ ap (ends_from 0) (sym labels_are);
        same_labels = put.same_length ∙ g.same_labels;
        same_ends = length-set ends row size' ∙ g.same_ends;
      }

  pub gathering_done : {labels ends : List ℕ} {size row m : ℕ} → Gathering text starts labels₀ ends₀ labels ends size row → row ≡ m
      → m ≤ row_limit → row_limit * label_limit ≤ length labels₀ → Gathered (labels_at text starts m) labels m ends size
  gathering_done {labels} {ends} {size} {row} {m} g all most room =
      record {
        within = omega (arith, g.most, g.same_labels);
        all_bytes = g.all_bytes ∙ ap (λ (k : ℕ). labels_joined (labels_at text starts k)) all;
        all_ends = ap (λ (k : ℕ). take k ends) (sym all) ∙ g.all_ends ∙ ap (λ (k : ℕ). ends_from 0 (labels_at text starts k)) all;
      }
