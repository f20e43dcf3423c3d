-- The walk over the rows that are lent, row by row.
--     told                            a refusal of the code, in numbers
--     found_key, no_key               the number of a label that is found, and where none is
--     Taken                           what is lent is within its limits, as facts
--     Walk                            what holds before a row: no row passed has a fault, and the text has them
--     heading-within, walk_start      the heading has room for its byte 10; before the first row
--     walk_label, walk_places         the label and the places of a row are within what is lent
--     Turn                            what a turn learns of a row
--     fault_form, -range, -repeated, -none     the refusal that it meets
--     turn_room                       a row without a fault has room
--     walk_stops, walk_next           the refusal of a row with a fault, and what holds after one without
--     walk_done                       after the last row
use Prim.Native.Nat.{ℕ, zero, suc, ◌+◌, ◌-◌, ◌*◌, ◌≤◌, ◌<◌}
use mathlib.Core.Path.{◌≡◌, refl, sym, ap, ap₂, subst, ◌∙◌}
use mathlib.Core.Bool.{Bool, true, false}
use mathlib.Core.List.{List, [], ◌∷◌, ◌++◌, map, map-append}
use mathlib.Core.Logic.{◌⊎◌, inl, inr}
use native.Mathlib.Numerals.{add-one}
use native.Mathlib.Omega.{arith}
use borrow.Author.Tests.{le-leb}
use lib.Dec.{leb}
use lib.IntN.{ℤ, pos, nat_abs}
use lib.ListN.{length, get_or, set, take, drop, length-append, length-drop, length-set}
use lib.Seq.{drop-cons, get_or-drop, get_or-take, length-take-le, take-length, take-suc, take-suc-set, take-take}
use Rattle.integers.specs.SumLaws.{last_or_below}
use Rattle.refusal.specs.Number.{line_form, value_range, label_repeated}
use Rattle.refusal.specs.Outcome.{refused_at, kind_number}
use Rattle.refusal.specs.declared.Kind.{Kind}
use Rattle.refusal.specs.declared.Refusal.{Refusal}
use Rattle.std.specs.Prelude.{None, Some, Err}
use Rattle.integers.specs.Tests.{impossible}
use Rattle.number.specs.Clauses.{above_zero}
use Rattle.limits.specs.Limits.{row_limit}
use Rattle.geometry.specs.Table.{coordinate}
use Rattle.lent.specs.Clauses.{not_written, written, text_outcome, TextWritten}
use Rattle.text.specs.Parts.{line_end}
use Rattle.text.specs.Lines.{print_lines}
use Rattle.text.specs.LinesLaws.{printed-more}
use Rattle.label.specs.LabelLaws.{label_short}
use Rattle.label.specs.RowLabel.{is_row_label, row_label_key, label_used, key_used}
use Rattle.label.specs.RowLabelLaws.{row_label, row_key-label, Labelled, labelled_more, key_used_lem}
use Rattle.label.specs.Marks.{mark_count, mark_place, Marked}
use Rattle.label.specs.MarksLaws.{marked_none, marked_more}
use Rattle.printing.specs.Clauses.{Put}
use Rattle.printing.specs.ContractLaws.{put_as, put_ended}
use Rattle.channel.specs.Channel.{channel_types}
use Rattle.channel.specs.ChannelLaws.{house_sound}
use Rattle.channel.specs.ContractLaws.{house_short}
use Rattle.value.specs.Value.{number}
use Rattle.value.specs.Values.{values_in_range}
use Rattle.heading.specs.Heading.{print_heading}
use Rattle.heading.specs.HeadingLaws.{heading_most_lem}
use Rattle.reference_row.specs.Row.{Row, no_row, print_row}
use Rattle.reference_rows.specs.Rows.{Content, faulty}
use Rattle.reference.specs.Reference.{reference_word}
use Rattle.reference.specs.Printing.{print_text, reference_most}
use Rattle.reference.specs.PrintedLaws.{row_short}
use Rattle.reference_write.specs.Labels.{labels_from, ends_reach}
use Rattle.reference_write.specs.LabelsLaws.{labels_next, reach_most, reach_next}
use Rattle.reference_write.specs.Writing.{Lent, labels_lent, plain_row, plain_rows, lent_text}
use Rattle.reference_write.specs.Clauses.{fault_by, RowRoom, text_room, TextPut}
use Rattle.reference_write.specs.PlainRowsLaws.{rows-count, rows_at}
use Rattle.reference_write.specs.FaultLaws.{row_fault, fault_none as unfaulted, lent_row, lent_fault, NoFault, first_fault, no_fault}
use Rattle.reference_write.specs.LendingLaws.{Lending, row_places, row_within}

-- a refusal of the code, in numbers
pub told : {r : Refusal} (kind : Kind) {line : ℕ} → r ≡ record { kind = kind; line = line }
    → text_outcome (Err r) ≡ not_written (refused_at (kind_number kind) line)
told kind e = ap (λ (r : Refusal). text_outcome (Err r)) e

-- the number of a label that is found, and where none is
pub found_key : (n : ℕ) {key : ℕ} → Some key ≡ above_zero n → (key ≡ n) × (key ≡ 0 → ⊥)
found_key zero e = impossible cc
found_key (suc k) {key} e = let is : key ≡ suc k = cc in (is, λ z. omega arith)

pub no_key : (n : ℕ) → None ≡ above_zero n → n ≡ 0
no_key zero e = refl
no_key (suc k) e = impossible cc

-- ---- what is lent

abbrev pub Taken : Lent → Type 0
Taken lent = Lending row_limit channel_types lent

-- the codes of the channels, the rows as they are written, and the text of the heading and the first i of them
abbrev codes_in : Lent → List ℕ
codes_in lent = take lent.n lent.codes

abbrev rows_in : Lent → List Row
rows_in lent = plain_rows lent.n (labels_lent lent) lent.rows

abbrev text_of : Lent → List Row → List ℕ
text_of lent rows = print_lines (print_heading reference_word channel_types (codes_in lent) ∷ map print_row rows)

pub record Walk (lent : Lent) (out keys : List ℕ) (marks : List Bool) (at from place i : ℕ) : Type 0 where
  pub most : i ≤ lent.m
  pub none : NoFault channel_types lent i
  pub placed : place ≡ i * lent.n
  pub reaches : ends_reach from (drop i lent.ends) (length lent.labels) ≡ true
  pub left : labels_from lent.labels from (drop i lent.ends) ≡ drop i (labels_lent lent)
  pub labelled : Labelled (take i (labels_lent lent))
  pub keyed : take i keys ≡ map row_label_key (take i (labels_lent lent))
  pub key_places : length keys ≡ row_limit
  pub marked : Marked marks (take i keys)
  pub printed : take at out ≡ text_of lent (take i (rows_in lent))
  pub ends_at : at ≡ length (text_of lent (take i (rows_in lent)))
  pub room : at ≤ reference_most i
  pub places : text_room ≤ length out

module _ {lent : Lent} (l : Taken lent) where
  abbrev n : ℕ
  n = lent.n

  -- ---- the start

  module _ {out out' : List ℕ} {r : ℕ} (room : text_room ≤ length out) (put : Put (print_heading reference_word channel_types (codes_in lent)) out 0 out' r) where
    heading_short : r + 1 ≤ reference_most 0
    heading_short =
        omega (
          arith,
          put.next,
          l.coded,
          l.table.channels,
          heading_most_lem channel_types house_short reference_word (codes_in lent) (omega (arith, l.coded, l.table.channels)),
        )

    pub heading-within : r < length out'
    heading-within = omega (arith, heading_short, put.same_length)

    pub walk_start : (keys : List ℕ) (marks : List Bool) → length keys ≡ row_limit → length marks ≡ mark_count
        → Walk lent (set out' r line_end) keys marks (r + 1) 0 0 0
    unfolding print_lines
    walk_start keys marks long marks-long =
        let heading = print_heading reference_word channel_types (codes_in lent) in
        let line = put_ended put heading-within in
        record {
          most = omega arith;
          none = λ i h. absurd (omega arith);
          placed = omega arith;
          reaches = l.reaches;
          left = refl;
          labelled = λ i h. absurd (omega arith);
          keyed = refl;
          key_places = long;
          marked = marked_none marks marks-long;
          printed = line.is;
          ends_at = (let whole : r + 1 ≡ length (heading ++ (line_end ∷ [])) = omega (arith, line.next) in whole);
          room = heading_short;
          places = omega (arith, line.same_length);
        }

  -- ---- the places of a row

  -- row i of the table, from its place on
  module _ (i : ℕ) (below : i < lent.m) where
    abbrev row : Row
    row = lent_row lent i

    line_short : lent_fault channel_types lent i ≡ 0 → length (print_row row ++ (line_end ∷ [])) ≤ 61
    line_short none =
        omega (
          arith,
          length-append (print_row row) (line_end ∷ []),
          row_short channel_types house_sound (codes_in lent) (omega (arith, l.coded, l.table.channels)) row (row_within l i below none),
        )

    text_next : text_of lent (take (i + 1) (rows_in lent)) ≡ text_of lent (take i (rows_in lent)) ++ (print_row row ++ (line_end ∷ []))
    text_next =
        let rows = rows_in lent in
        let heading = print_heading reference_word channel_types (codes_in lent) in
        let many : length rows ≡ lent.m = rows-count n (labels_lent lent) lent.rows ∙ l.labelled in
        ap (λ (k : ℕ). text_of lent (take k rows)) (add-one i)
        ∙ ap (text_of lent) (take-suc rows i no_row (omega arith) ∙ ap (λ (r : Row). take i rows ++ (r ∷ [])) (rows_at n (labels_lent lent) lent.rows i (omega (arith, l.labelled))))
        ∙ ap (λ (lines : List (List ℕ)). print_lines (heading ∷ lines)) (map-append print_row (take i rows) (row ∷ []))
        ∙ printed-more (heading ∷ map print_row (take i rows)) (print_row row)

-- ---- a row

-- what a turn learns of a row: the number of its label
pub record Turn (lent : Lent) (from i key : ℕ) : Type 0 where
  pub below : i < lent.m
  pub is_key : key ≡ row_label_key (take (get_or lent.ends i 0 - from) (drop from lent.labels))

module _ {lent : Lent} (l : Taken lent) {out keys : List ℕ} {marks : List Bool} {at from place i : ℕ}
    (w : Walk lent out keys marks at from place i) where
  -- where the label of row i ends
  abbrev end : ℕ
  end = get_or lent.ends i 0

  -- its bytes, and the places of its numbers, as the code has them
  abbrev part : List ℕ
  part = take (end - from) (drop from lent.labels)

  abbrev numbers : List ℤ
  numbers = take (place + lent.n - place) (drop place lent.rows)

  module _ (below : i < lent.m) where
    pub walk_label : (from ≤ end) × (end ≤ length lent.labels)
    walk_label =
        let next = reach_next lent.ends i (omega (arith, l.counted)) from (length lent.labels) w.reaches in
        (next.0, reach_most end (drop (i + 1) lent.ends) (length lent.labels) next.1)

    pub walk_places : place + lent.n ≤ length lent.rows
    walk_places = omega (arith, row_places l i below, w.placed)

    labels-left : part ∷ labels_from lent.labels end (drop (i + 1) lent.ends) ≡ get_or (labels_lent lent) i [] ∷ drop (i + 1) (labels_lent lent)
    labels-left =
        sym (labels_next lent.ends i (omega (arith, l.counted)) from lent.labels) ∙ w.left
        ∙ drop-cons (labels_lent lent) i [] (omega (arith, l.labelled))
        ∙ ap (λ (k : ℕ). get_or (labels_lent lent) i [] ∷ drop k (labels_lent lent)) (sym (add-one i))

    label_is : part ≡ get_or (labels_lent lent) i []
    label_is = ap (λ (labels : List (List ℕ)). get_or labels 0 []) labels-left

    numbers_are : take lent.n numbers ≡ take lent.n (drop (i * lent.n) lent.rows)
    numbers_are =
        take-take lent.n (place + lent.n - place) (drop place lent.rows) (omega arith)
        ∙ ap (λ (k : ℕ). take lent.n (drop k lent.rows)) w.placed

  module _ {key : ℕ} (t : Turn lent from i key) where
    -- whether its values are within their ranges, whether an earlier row has its label, and the refusal that it meets
    abbrev within : Bool
    within = values_in_range channel_types (codes_in lent) (map number (take lent.n numbers))

    abbrev repeated : Bool
    repeated = key_used key (take i keys)

    abbrev fault : ℕ
    fault = fault_by (leb 1 key) within repeated

    pub fault_form : key ≡ 0 → fault ≡ line_form
    fault_form e = ap (λ (k : ℕ). fault_by (leb 1 k) within repeated) e

    module _ (labelled : key ≡ 0 → ⊥) where
      has_label : leb 1 key ≡ true
      has_label = le-leb 1 key (omega arith)

      pub fault_range : false ≡ within → fault ≡ value_range
      fault_range e = ap₂ (λ (x y : Bool). fault_by x y repeated) has_label (sym e)

      module _ (in_ranges : true ≡ within) where
        pub fault_repeated : true ≡ repeated → fault ≡ label_repeated
        fault_repeated e = ap₂ (λ (x y : Bool). fault_by x y repeated) has_label (sym in_ranges) ∙ ap (fault_by true true) (sym e)

        pub fault_none : false ≡ repeated → fault ≡ 0
        fault_none e = ap₂ (λ (x y : Bool). fault_by x y repeated) has_label (sym in_ranges) ∙ ap (fault_by true true) (sym e)

    abbrev label : List ℕ
    label = get_or (labels_lent lent) i []

    abbrev earlier : List (List ℕ)
    earlier = take i (labels_lent lent)

    key_is : key ≡ row_label_key label
    key_is = t.is_key ∙ ap row_label_key (label_is t.below)

    fault_is : fault ≡ lent_fault channel_types lent i
    unfolding row_fault
    fault_is = go (is_row_label label) refl
      where
        values : within ≡ values_in_range channel_types (codes_in lent) (lent_row lent i).values
        values = ap (λ (zs : List ℤ). values_in_range channel_types (codes_in lent) (map number zs)) (numbers_are t.below)

        used_is : is_row_label label ≡ true → repeated ≡ label_used label earlier
        used_is labelled =
            ap₂ key_used key_is w.keyed ∙ key_used_lem label labelled earlier w.labelled

        by_label : (b : Bool) → is_row_label label ≡ b → fault ≡ fault_by b (values_in_range channel_types (codes_in lent) (lent_row lent i).values) repeated
        by_label b e =
            ap₂ (λ (x y : Bool). fault_by x y repeated) (ap (leb 1) key_is ∙ row_key-label label ∙ e) values

        go : (b : Bool) → is_row_label label ≡ b → fault ≡ fault_by b (values_in_range channel_types (codes_in lent) (lent_row lent i).values) (label_used label earlier)
        go true e = by_label true e ∙ ap (fault_by true (values_in_range channel_types (codes_in lent) (lent_row lent i).values)) (used_is e)
        go false e = by_label false e

    pub walk_stops : (out : List ℕ) (r : TextWritten) (k : ℕ) → fault ≡ suc k → r ≡ not_written (refused_at (suc k) (2 + i))
        → TextPut (lent_text row_limit channel_types lent) out r
    walk_stops out r k is-fault e =
        let line : i + 2 ≡ 2 + i = omega arith in
        let is = first_fault row_limit channel_types lent l.within i t.below w.none (omega (arith, fault_is, is-fault))
        ∙ ap₂ faulty (sym fault_is ∙ is-fault) line in
        subst (λ (c : Content). TextPut c out r) (sym is)
        record { is = e; within = omega (arith, ap (λ (x : TextWritten). x.length) e); text = ap (λ (x : TextWritten). take x.length out) e }

    module _ (fine : fault ≡ 0) where
      none_here : lent_fault channel_types lent i ≡ 0
      none_here = sym fault_is ∙ fine

      labelled_here : is_row_label label ≡ true
      labelled_here = (unfaulted channel_types (codes_in lent) earlier (lent_row lent i) none_here).0

      pub turn_room : RowRoom part numbers lent.n out at
      unfolding coordinate
      turn_room =
          let short = label_short label (row_label label labelled_here) in
          record {
            channels = l.table.channels;
            places =
                omega (
                  arith,
                  length-take-le (place + lent.n - place) (drop place lent.rows) (omega (arith, length-drop place lent.rows, walk_places t.below)),
                );
            small = λ k h.
                (let same : get_or numbers k (pos 0) ≡ get_or lent.rows (i * lent.n + k) (pos 0) =
                get_or-take (place + lent.n - place) (drop place lent.rows) k (pos 0) (omega arith) ∙ get_or-drop place lent.rows k (pos 0)
                ∙ ap (λ (j : ℕ). get_or lent.rows (j + k) (pos 0)) w.placed in
                omega (arith, ap nat_abs same, l.table.bound i k t.below h));
            room = omega (arith, ap length (label_is t.below), short, w.room, w.places, l.table.channels, l.table.rows_most, t.below);
          }

      label-more : take (i + 1) (labels_lent lent) ≡ earlier ++ (label ∷ [])
      label-more =
          ap (λ (k : ℕ). take k (labels_lent lent)) (add-one i)
          ∙ take-suc (labels_lent lent) i [] (omega (arith, t.below, l.labelled))

      none_more : (j : ℕ) → (j ≡ i) ⊎ (j < i) → lent_fault channel_types lent j ≡ 0
      none_more j (inl e) = ap (lent_fault channel_types lent) e ∙ none_here
      none_more j (inr h) = w.none j h

      pub walk_next : {out' : List ℕ} {r : ℕ} → Put (print_row (plain_row part (take lent.n numbers)) ++ (line_end ∷ [])) out at out' r
          → {marked : List Bool} → marked ≡ set marks (mark_place key) true → Walk lent out' (set keys i key) marked r end (place + lent.n) (i + 1)
      walk_next {r = r} p is-marked =
          let key_room : i < length keys = omega (arith, w.key_places, t.below, l.table.rows_most) in
          let line = print_row (lent_row lent i) ++ (line_end ∷ []) in
          let put = put_as p
          (ap₂ (λ (l : List ℕ) (zs : List ℤ). print_row (plain_row l zs) ++ (line_end ∷ [])) (label_is t.below) (numbers_are t.below)) refl in
          let text = text_of lent (take i (rows_in lent)) in
          let next = text_next l i t.below in
          record {
            most = omega (arith, t.below);
            none = λ j h. none_more j (last_or_below i j (omega arith));
            placed = omega (arith, w.placed);
            reaches = (reach_next lent.ends i (omega (arith, t.below, l.counted)) from (length lent.labels) w.reaches).1;
            left = ap (drop 1) (labels-left t.below);
            labelled = rw label-more (labelled_more earlier label w.labelled labelled_here);
            keyed =
                ap (λ (k : ℕ). take k (set keys i key)) (add-one i) ∙ take-suc-set keys i key key_room
                ∙ ap₂ (λ (ks : List ℕ) (k : ℕ). ks ++ (k ∷ [])) w.keyed key_is
                ∙ sym (ap (map row_label_key) label-more ∙ map-append row_label_key earlier (label ∷ []));
            key_places = length-set keys i key ∙ w.key_places;
            marked = marked_more marks keys i key key_room w.marked is-marked;
            printed = put.is ∙ ap (λ (b : List ℕ). b ++ line) w.printed ∙ sym next;
            ends_at = omega (arith, put.next, w.ends_at, ap length next, length-append text line);
            room = omega (arith, put.next, w.room, line_short l i t.below none_here);
            places = omega (arith, put.same_length, w.places);
          }

  pub walk_done : lent.m ≤ i → TextPut (lent_text row_limit channel_types lent) out (written at)
  unfolding print_text
  walk_done h =
      let done : i ≡ lent.m = omega (arith, w.most) in
      let text = no_fault row_limit channel_types lent l.within (subst (NoFault channel_types lent) done w.none) in
      let rows = rows_in lent in
      let many : i ≡ length rows =
      omega (arith, rows-count lent.n (labels_lent lent) lent.rows, l.labelled) in
      let all : take i rows ≡ rows = ap (λ (k : ℕ). take k rows) many ∙ take-length rows in
      let whole : text_of lent (take i rows) ≡ print_text channel_types text.0 =
      ap (text_of lent) all
      ∙ sym (ap₂ (λ (codes : List ℕ) (l : List Row). print_lines (print_heading reference_word channel_types codes ∷ map print_row l)) text.2.codes text.2.all_rows) in
      subst (λ (c : Content). TextPut c out (written at)) (sym text.1)
      record {
        is = ap written (w.ends_at ∙ ap length whole);
        within = omega (arith, w.room, w.places, w.most, l.table.rows_most);
        text = w.printed ∙ whole;
      }
