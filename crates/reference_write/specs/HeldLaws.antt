-- What is lent and the texts that hold it, both ways, for any row limit and sound table of types.
--     text-labels, text-label     the text of what is lent has the labels that are lent
--     text_holds                  it holds what is lent
--     text-within                 it is within the limits
--     text-plain                  each of its values is plain
--     text-read                   so that its printing is accepted as it
--     read-text                   what an accepted text holds has a text too: that one in plain values
--     read_same                   and where no `<` stands in it, it is that one
--     own_holds                   an accepted text holds what it lends
--     own-text                    and where no `<` stands in it, it is the text of what it lends
--     held_exactly                there is a text of what is lent exactly when an accepted text holds it
--     text_exactly                a text is that of what is lent exactly when it is accepted as one that holds it and no `<` stands in it
use Rattle.std.specs.Prelude.{ℕ, ◌*◌, ◌≤◌, ◌<◌, ◌≡◌, refl, true, List, [], ◌++◌, map, ◌↔◌, ℤ, length, get_or, drop}
use Rattle.std.proofs.Common.{sym, ap₂, ◌∙◌, arith, length-take, take-append-drop, get_or-take, length-take-le, take_all}
use Rattle.std.proofs.Math.Path.{ap}
use Rattle.std.proofs.Math.ListN.{take, get_or-map}
use Rattle.std.proofs.lemmas.List.{length-map}
use Rattle.std.proofs.Math.Seq.{take-length}
use Rattle.limits.specs.Limits.{text_limit}
use Rattle.text.specs.Parts.{free}
use Rattle.label.specs.RowLabelLaws.{label_new, new_label}
use Rattle.channel.specs.Channel.{Types}
use Rattle.channel.specs.ChannelLaws.{SoundTypes}
use Rattle.channel.specs.ContractLaws.{ShortTags}
use Rattle.channel.specs.CodesLaws.{codes_each, each_codes}
use Rattle.value.specs.Value.{less_than}
use Rattle.value.specs.ValuesLaws.{range_in}
use Rattle.reference_row.specs.Row.{Row, no_row, row_labels}
use Rattle.reference_rows.specs.ReferenceText.{ReferenceText, codes_of, channel_count, rows_of, row_count, row_at, labels_of, label_at, row_numbers, table_of}
use Rattle.reference_rows.specs.ReferenceTextLaws.{text_same, label-at}
use Rattle.reference_rows.specs.Rows.{sound}
use Rattle.reference.specs.Reference.{content}
use Rattle.reference.specs.Printing.{print_text, Within}
use Rattle.reference.specs.ReferenceLaws.{accepted-within, accepted-printed, accepted-labels, printed-accepted}
use Rattle.reference.specs.PrintedLaws.{text_short}
use Rattle.reference.specs.TableLaws.{table_length}
use Rattle.reference_table.specs.AcceptedTable.{accepted-table}
use Rattle.typed_rows.specs.GivenLaws.{within-given}
use Rattle.reference_write.specs.Labels.{labels_from, labels_joined, ends_from}
use Rattle.reference_write.specs.Writing.{Lent, labels_lent, lent_within, plain_rows, lent_text}
use Rattle.reference_write.specs.Held.{Holds, lent_of, TextOf, plain_of, Plain}
use Rattle.reference_write.specs.LabelsLaws.{ends_count, lent_labels, lent_reach, labels_lent_lem}
use Rattle.reference_write.specs.PlainRowsLaws.{rows-labels, rows-count, rows_at, rows-numbers, rows-plain, rows_again}
use Rattle.reference_write.specs.PlainLaws.{free-plain, plain-free, plain-within}
use Rattle.reference_write.specs.FaultLaws.{fault_none, none_fault, lent_row, NoFault, within_lent, no_fault, text_sound}
use Rattle.reference_write.specs.LendingLaws.{Lending, lending, row_within}

-- ---- the text of what is lent

module _ (lent : Lent) (found : ReferenceText) (is : TextOf lent found) where
  abbrev n : ℕ
  n = lent.n

  same_labels : labels_of found ≡ labels_lent lent
  same_labels = ap row_labels is.all_rows ∙ rows-labels n (labels_lent lent) lent.rows

  row_is : (i : ℕ) → i < row_count found → row_at found i ≡ lent_row lent i
  row_is i l =
      ap (λ (rows : List Row). get_or rows i no_row) is.all_rows
      ∙ rows_at n (labels_lent lent) lent.rows i (omega (arith, ap length is.all_rows, rows-count n (labels_lent lent) lent.rows))

  module _ (limit : ℕ) (types : Types) (within : lent_within limit types lent ≡ true) where
    facts : Lending limit types lent
    facts = lending limit types lent within

    many : row_count found ≡ lent.m
    many = ap length is.all_rows ∙ rows-count n (labels_lent lent) lent.rows ∙ facts.labelled

    channels : channel_count found ≡ n
    channels = ap length is.codes ∙ facts.coded

    of_holds : Holds found lent
    unfolding table_of
    of_holds =
        let bytes = labels_lent_lem lent.labels lent.ends facts.reaches in
        record {
          row_count = many;
          channels = channels;
          codes = is.codes;
          table = ap row_numbers is.all_rows ∙ rows-numbers n (labels_lent lent) lent.rows ∙ ap (λ k. take (k * n) lent.rows) facts.labelled;
          labels = ap labels_joined same_labels ∙ bytes.0;
          ends = ap (ends_from 0) same_labels ∙ bytes.1;
        }

    module _ (none : NoFault types lent lent.m) where
      label_other : (i j : ℕ) → i < lent.m → j < i → get_or (labels_lent lent) j [] ≡ get_or (labels_lent lent) i [] → ⊥
      label_other i j l below same =
          label_new (get_or (labels_lent lent) i []) (take i (labels_lent lent))
          (fault_none types (take n lent.codes) (take i (labels_lent lent)) (lent_row lent i) (none i l)).2 j
          (omega (arith, length-take-le i (labels_lent lent) (omega (arith, facts.labelled))))
          (get_or-take i (labels_lent lent) j [] below ∙ same)

      of_within : Within limit types found
      of_within =
          record {
            heading =
                record {
                  some_channel = omega (arith, channels, facts.table.some_channel);
                  channels = omega (arith, channels, facts.table.channels);
                  each_known = rw is.codes (codes_each types (take n lent.codes) facts.known);
                };
            some_row = omega (arith, many, facts.table.some_row);
            all_rows =
                record {
                  most = omega (arith, many, facts.table.rows_most);
                  each = λ i l.
                      (let below : i < lent.m = omega (arith, many) in
                      rw (is.codes, row_is i l) (row_within facts i below (none i below)));
                  different = λ i j below l same.
                      label_other j i (omega (arith, many)) below
                      (sym (ap (λ (row : Row). row.label) (row_is i (omega arith))) ∙ same ∙ ap (λ (row : Row). row.label) (row_is j l));
                };
          }

module _ (limit : ℕ) (types : Types) (lent : Lent) (found : ReferenceText) (e : lent_text limit types lent ≡ sound found) where
  -- what the answer says
  abbrev answer : (lent_within limit types lent ≡ true) × NoFault types lent lent.m × TextOf lent found
  answer = text_sound limit types lent found e

  pub text-labels : labels_of found ≡ labels_lent lent
  text-labels = same_labels lent found answer.2

  pub text-label : (k : ℕ) → label_at found k ≡ get_or (labels_lent lent) k []
  text-label k = ap (λ labels. get_or labels k []) text-labels

  pub text_holds : Holds found lent
  text_holds = of_holds lent found answer.2 limit types answer.0

  pub text-within : Within limit types found
  text-within = of_within lent found answer.2 limit types answer.0 answer.1

  pub text-plain : Plain found
  text-plain = rw answer.2.all_rows (rows_again lent.n (labels_lent lent) lent.rows)

  pub text-read : SoundTypes types → length (print_text types found) ≤ text_limit → content limit types (print_text types found) ≡ sound found
  text-read types_sound short = printed-accepted limit types types_sound text-within short

-- ---- the text of what an accepted text holds

module _ (limit : ℕ) (types : Types) (text : List ℕ) (found : ReferenceText) (e : content limit types text ≡ sound found) where
  abbrev bounds : Within limit types found
  bounds = accepted-within limit types text found e

  pub own_holds : Holds found (lent_of found)
  own_holds =
      record {
        row_count = refl;
        channels = refl;
        codes = sym (take-length (codes_of found));
        table = sym (take_all (row_count found * channel_count found) (table_of found) (omega (arith, table_length limit types text found e)));
        labels = refl;
        ends = refl;
      }

  module _ (types_sound : SoundTypes types) (lent : Lent) (holds : Holds found lent) where
    -- the places past those that count
    abbrev more : List ℤ
    more = drop (lent.m * lent.n) lent.rows

    labels_are : labels_lent lent ≡ labels_of found
    labels_are = ap₂ (λ bytes ends. labels_from bytes 0 ends) (sym holds.labels) (sym holds.ends) ∙ lent_labels (labels_of found)

    table_is : table_of found ++ more ≡ lent.rows
    table_is = ap (λ l. l ++ more) holds.table ∙ take-append-drop (lent.m * lent.n) lent.rows

    rows_are : plain_rows lent.n (labels_lent lent) lent.rows ≡ map plain_of (rows_of found)
    unfolding table_of
    rows_are =
        rw (labels_are, ← holds.channels, ← table_is)
        (rows-plain (channel_count found) (rows_of found) (λ i l. (bounds.all_rows.each i l).complete) more)

    within_is : lent_within limit types lent ≡ true
    within_is =
        within_lent limit types lent
        (within-given limit types lent.rows lent.m lent.n lent.codes
        (rw (← holds.row_count, ← holds.channels, ← table_is) (accepted-table limit types text found e types_sound more))
        (omega (arith, length-take lent.n lent.codes, ap length holds.codes, holds.channels))
        (rw (← holds.codes) (each_codes types (codes_of found) bounds.heading.each_known)))
        (ap length (sym holds.ends) ∙ ends_count 0 (labels_of found) ∙ length-map (rows_of found) (λ (row : Row). row.label) ∙ holds.row_count)
        (rw (← holds.labels, ← holds.ends) (lent_reach (labels_of found)))

    -- the rows that are lent are those of the text, in plain values
    lent_row_lem : (i : ℕ) → i < lent.m → lent_row lent i ≡ plain_of (row_at found i)
    lent_row_lem i l =
        sym (rows_at lent.n (labels_lent lent) lent.rows i (omega (arith, ap length labels_are, length-map (rows_of found) (λ (row : Row). row.label), holds.row_count)))
        ∙ ap (λ (rows : List Row). get_or rows i no_row) rows_are ∙ get_or-map plain_of (rows_of found) i no_row

    none_is : NoFault types lent lent.m
    none_is i l =
        let here : i < row_count found = omega (arith, holds.row_count) in
        let row = plain_of (row_at found i) in
        let right = plain-within types types_sound (codes_of found) (row_at found i) (bounds.all_rows.each i here) in
        let many : length (labels_of found) ≡ row_count found = length-map (rows_of found) (λ (r : Row). r.label) in
        let new = new_label row.label (take i (labels_of found))
        (λ j b same.
        let below : j < i = omega (arith, length-take-le i (labels_of found) (omega arith)) in
        accepted-labels limit types text found e j i below here
        (sym (get_or-take i (labels_of found) j [] below) ∙ same ∙ sym (label-at found i))) in
        rw (lent_row_lem i l, labels_are, ← holds.codes)
        (none_fault types (codes_of found) (take i (labels_of found)) row right.labelled
        (range_in types (codes_of found) row.values right.each_in_range) new)

    pub read-text : (plain : ReferenceText) × (lent_text limit types lent ≡ sound plain) × Holds plain lent × (rows_of plain ≡ map plain_of (rows_of found))
    read-text =
        let given = no_fault limit types lent within_is none_is in
        (given.0, given.1, of_holds lent given.0 given.2 limit types within_is, given.2.all_rows ∙ rows_are)

    pub read_same : free less_than text ≡ true → lent_text limit types lent ≡ sound found
    read_same h =
        let plain = read-text in
        let rows = plain.3 ∙ free-plain limit types text found e h in
        plain.1 ∙ ap sound (text_same plain.0 found (plain.2.codes ∙ sym holds.codes) rows)

  pub own-text : SoundTypes types → free less_than text ≡ true → lent_text limit types (lent_of found) ≡ sound found
  own-text types_sound = read_same types_sound (lent_of found) own_holds

-- ---- exactly

module _ (limit : ℕ) (most : limit ≤ 1024) (types : Types) (types_sound : SoundTypes types) (short : ShortTags types) (lent : Lent) where
  printed : (found : ReferenceText) → lent_text limit types lent ≡ sound found → content limit types (print_text types found) ≡ sound found
  printed found e =
      text-read limit types lent found e types_sound
      (text_short types types_sound short limit (text-within limit types lent found e) most)

  pub held_exactly : ((found : ReferenceText) × (lent_text limit types lent ≡ sound found))
      ↔ ((text : List ℕ) × (found : ReferenceText) × (content limit types text ≡ sound found) × Holds found lent)
  held_exactly = (
    λ given. (print_text types given.0, given.0, printed given.0 given.1, text_holds limit types lent given.0 given.1),
    λ held.
        let plain = read-text limit types held.0 held.1 held.2 types_sound lent held.3 in
        (plain.0, plain.1),
  )

  pub text_exactly : (text : List ℕ) (found : ReferenceText)
      → ((lent_text limit types lent ≡ sound found) × (text ≡ print_text types found))
      ↔ ((content limit types text ≡ sound found) × Holds found lent × (free less_than text ≡ true))
  text_exactly text found = (
    λ given.
        let e = given.0 in
        rw given.1 (
          printed found e,
          text_holds limit types lent found e,
          plain-free types types_sound limit found (text-within limit types lent found e) (text-plain limit types lent found e),
        ),
    λ held. (
      read_same limit types text found held.0 types_sound lent held.1 held.2,
      (accepted-printed limit types text found held.0 types_sound).0,
    ),
  )
