-- The labels of a text as they are gathered.
--     label-part                  the part from an index up to the comma after it
--     joined_more, ends_more      the bytes of one label more, and its end
-- Of an accepted text:
--     labels-start                its labels stand where its rows start
--     labels-found                and they are what is gathered
use Rattle.std.specs.Prelude.{ℕ, zero, suc, ◌+◌, ◌-◌, ◌≤◌, ◌<◌, ◌≡◌, refl, List, [], ◌∷◌, ◌++◌, length, get_or, take, drop}
use Rattle.std.proofs.Common.{sym, ap, ap₂, ◌∙◌, append-nil, append_assoc, arith, length-append, take-suc}
use Rattle.std.proofs.lemmas.List.{length-map}
use Rattle.std.proofs.Math.Seq.{take-length}
use Rattle.text.specs.Bytes.{index_of}
use Rattle.limits.specs.Limits.{row_limit}
use Rattle.text.specs.Parts.{comma, part_end}
use Rattle.text.specs.Clauses.{PartEnd}
use Rattle.label.specs.LabelLaws.{label_short}
use Rattle.label.specs.RowLabelLaws.{row_label}
use Rattle.channel.specs.Channel.{Types}
use Rattle.reference_row.specs.Row.{Row}
use Rattle.reference_rows.specs.ReferenceText.{ReferenceText, rows_of, row_count, row_at, labels_of, label_at}
use Rattle.reference_rows.specs.ReferenceTextLaws.{label-at}
use Rattle.reference_rows.specs.Rows.{sound, row_start}
use Rattle.reference.specs.Reference.{content}
use Rattle.reference.specs.ReferenceLaws.{accepted-within}
use Rattle.reference.specs.LineLaws.{line_from, label_is, label-end, label_in-text}
use Rattle.reference_write.specs.Labels.{labels_joined, ends_from}
use Rattle.program_plain.specs.Clauses.{label_from, labels_at, LabelsStart}

pub label-part : (text : List ℕ) (start e : ℕ) → PartEnd comma text start e → take (e - start) (drop start text) ≡ label_from text start
unfolding part_end
label-part text start e end =
    let long : e - start ≡ index_of comma (drop start text) = omega (arith, end.is) in
    ap (λ (k : ℕ). take k (drop start text)) long

-- ---- one label more

pub joined_more : (labels : List (List ℕ)) (label : List ℕ) → labels_joined (labels ++ (label ∷ [])) ≡ labels_joined labels ++ label
unfolding labels_joined
joined_more [] label = append-nil label
joined_more (first ∷ labels) label =
    ap (λ (l : List ℕ). first ++ l) (joined_more labels label) ∙ sym (append_assoc first (labels_joined labels) label)

pub ends_more : (from : ℕ) (labels : List (List ℕ)) (label : List ℕ)
    → ends_from from (labels ++ (label ∷ [])) ≡ ends_from from labels ++ ((from + length (labels_joined (labels ++ (label ∷ [])))) ∷ [])
unfolding labels_joined ends_from
ends_more from [] label =
    let same : from + length label ≡ from + length (label ++ []) = ap (λ (l : List ℕ). from + length l) (sym (append-nil label)) in
    ap (λ (k : ℕ). k ∷ []) same
ends_more from (first ∷ labels) label =
    let others = labels_joined (labels ++ (label ∷ [])) in
    let same : from + length first + length others ≡ from + length (first ++ others) = omega (arith, length-append first others) in
    ap (λ (l : List ℕ). (from + length first) ∷ l)
    (ends_more (from + length first) labels label
    ∙ ap (λ (k : ℕ). ends_from (from + length first) labels ++ (k ∷ [])) same)

-- ---- the labels of an accepted text

gathered_take : (text starts : List ℕ) (labels : List (List ℕ)) (count : ℕ) → count ≤ length labels
    → ((k : ℕ) → k < count → label_from text (get_or starts k 0) ≡ get_or labels k []) → labels_at text starts count ≡ take count labels
unfolding labels_at
gathered_take text starts labels zero h each = refl
gathered_take text starts labels (suc count) h each =
    ap₂ (λ (ls : List (List ℕ)) (l : List ℕ). ls ++ (l ∷ []))
    (gathered_take text starts labels count (omega arith) (λ k l. each k (omega arith))) (each count (omega arith))
    ∙ sym (take-suc labels count [] (omega arith))

module _ (types : Types) (text : List ℕ) (found : ReferenceText) (e : content row_limit types text ≡ sound found) (starts : List ℕ)
    (lines : (k : ℕ) → k < row_count found → get_or starts k 0 ≡ row_start found text k) where
  own-label : (k : ℕ) → k < row_count found → label_from text (get_or starts k 0) ≡ label_at found k
  own-label k h =
      ap (label_from text) (lines k h) ∙ ap (λ (i : ℕ). take i (line_from found text k)) (label-end row_limit types text found e k h)
      ∙ label_is row_limit types text found e k h

  pub labels-found : labels_at text starts (row_count found) ≡ labels_of found
  labels-found =
      let count : length (labels_of found) ≡ row_count found = length-map (rows_of found) (λ (row : Row). row.label) in
      gathered_take text starts (labels_of found) (row_count found) (omega arith) own-label
      ∙ ap (λ (k : ℕ). take k (labels_of found)) (sym count) ∙ take-length (labels_of found)

  pub labels-start : LabelsStart text starts (row_count found)
  labels-start =
      let within = (accepted-within row_limit types text found e).all_rows in
      record {
        most = within.most;
        each_start = λ k h. omega (arith, lines k h, label_in-text row_limit types text found e k h);
        each_short = λ k h.
            omega (
              arith,
              ap length (own-label k h ∙ label-at found k),
              label_short (row_at found k).label (row_label (row_at found k).label (within.each k h).labelled),
            );
      }
