-- A reading's text, both ways: it is read as a reading exactly when it is the reading's printing.
--     InForm n reading            a reading of n channels that may be written: no comma and no byte 10 stands in the place of a tag
--     line-text, text-line        a text of one line is the line and its byte 10
--     form_printed                a text that is read as a reading is its printing, and the reading is in form
--     printed_form                the printing of a reading in form is read as it
--     tags_agree_lem, agree_tags      tags agree exactly where they are those of the codes
--     agreed_free                 a line whose tags are those of known codes has no byte 10
--     own-form                    the reading with the tags of known codes is in form
--     own-length                  its printing has a length within the limits, where the values are in their ranges
use Rattle.std.specs.Prelude.{ℕ, zero, suc, ◌+◌, ◌*◌, ◌≤◌, ◌≡◌, true, false, ◌&&◌, eqb, length}
use Rattle.std.proofs.Math.Path.{refl, ap, ap₂}
use Rattle.std.proofs.Common.{sym, ◌∙◌}
use mathlib.Core.List.{List, [], ◌∷◌, ◌++◌, map}
use Rattle.std.proofs.Math.Option
use Rattle.std.proofs.Math.Option.{Option, none, some}
use native.Mathlib.Omega.{arith}
use borrow.Author.Tests.{eqb-true, eq-eqb}
use Rattle.std.proofs.Math.ListN.{length-append}
use Rattle.std.proofs.lemmas.List.{length-map}
use Rattle.integers.specs.Tests.{both, clash, unlike, impossible, cond_some, range_in}
use Rattle.lists.specs.Each.{Each, each_head, each_tail}
use Rattle.limits.specs.Limits.{channel_limit, text_limit, label_limit}
use Rattle.text.specs.Parts.{comma, line_end, text_within, cut, join, same, free, all_free}
use Rattle.text.specs.PartsLaws.{same_eq, same_refl, join-cut, cut-join, cut-free, cut_keeps_free, join_free, join-length}
use Rattle.label.specs.Label.{is_label, is_label_byte}
use Rattle.label.specs.LabelLaws.{label-free, label_short, no_digit, no_hyphen}
use Rattle.channel.specs.Channel.{Types, tag_of, codes_known}
use Rattle.channel.specs.Clauses.{range_of}
use Rattle.channel.specs.ChannelLaws.{SoundTypes, Known, tag_label, tags_free}
use Rattle.value.specs.Value.{Written, less_than, value_in_range, print_value}
use Rattle.value.specs.ValueLaws.{value-free, value_limit, value_short}
use Rattle.value.specs.Values.{values_of, values_in_range}
use Rattle.value.specs.ValuesLaws.{values_printed, printed_values}
use Rattle.channel.specs.CodesLaws.{codes_each}
use Rattle.reading_line.specs.Reading.{Reading, tag_fields, value_fields, reading_fields, one_line, reading_line, reading_of, tags_agree, pair_fields, print_reading, own_reading}

-- what stands in the place of a tag may be anything that leaves the fields and the line as they are
pub record InForm (n : ℕ) (reading : Reading) : Type 0 where
  pub labelled : is_label reading.label ≡ true
  pub tag_count : length reading.tags ≡ n
  pub value_count : length reading.values ≡ n
  pub no_comma : all_free comma reading.tags ≡ true
  pub no_line_end : all_free line_end reading.tags ≡ true

-- ---- one line

one_line_lem : (parts : List (List ℕ)) (line : List ℕ) → one_line parts ≡ some line → parts ≡ line ∷ [] ∷ []
one_line_lem [] line e = unlike e
one_line_lem (first ∷ []) line e = unlike e
one_line_lem (first ∷ [] ∷ []) line e = cc
one_line_lem (first ∷ [] ∷ next ∷ parts) line e = unlike e
one_line_lem (first ∷ (b ∷ part) ∷ parts) line e = unlike e

pub line-text : (text line : List ℕ) → one_line (cut line_end text) ≡ some line → (line ++ (line_end ∷ []) ≡ text) × (free line_end line ≡ true)
unfolding join all_free
line-text text line e =
    let are = one_line_lem (cut line_end text) line e in
    let none-ends : all_free line_end (line ∷ [] ∷ []) ≡ true = rw are at (cut-free line_end text) in
    (ap (join line_end) (sym are) ∙ join-cut line_end text, (both (free line_end line) (all_free line_end ([] ∷ [])) none-ends).0)

pub text-line : (line : List ℕ) → free line_end line ≡ true → one_line (cut line_end (line ++ (line_end ∷ []))) ≡ some line
unfolding join all_free free
text-line line h = ap one_line (cut-join line_end line ([] ∷ []) (rw h))

-- ---- the fields after the label

-- what is read from n pairs of fields
record Pairs (n : ℕ) (fields : List (List ℕ)) (values : List Written) : Type 0 where
  tag_count : length (tag_fields fields) ≡ n
  value_count : length values ≡ n
  printed : pair_fields (tag_fields fields) values ≡ fields

pairs_printed : (n : ℕ) (fields : List (List ℕ)) (values : List Written) → length fields ≡ n + n → map print_value values ≡ value_fields fields
    → Pairs n fields values
unfolding tag_fields value_fields pair_fields
pairs_printed n [] [] many e = record { tag_count = omega arith; value_count = omega arith; printed = refl }
pairs_printed n [] (v ∷ values) many e = impossible (cc)
pairs_printed n (tag ∷ []) values many e = absurd (omega arith)
pairs_printed zero (tag ∷ value ∷ fields) values many e = absurd (omega arith)
pairs_printed (suc n) (tag ∷ value ∷ fields) [] many e = impossible (cc)
pairs_printed (suc n) (tag ∷ value ∷ fields) (v ∷ values) many e =
    let first : print_value v ≡ value = cc in
    let others : map print_value values ≡ value_fields fields = cc in
    let pairs = pairs_printed n fields values (omega arith) others in
    record {
      tag_count = ap suc pairs.tag_count;
      value_count = ap suc pairs.value_count;
      printed = ap₂ (λ (a : List ℕ) (l : List (List ℕ)). tag ∷ a ∷ l) first pairs.printed;
    }

-- what stands in no field stands in none of those in the places of tags
tag_fields-free : (c : ℕ) (fields : List (List ℕ)) → all_free c fields ≡ true → all_free c (tag_fields fields) ≡ true
unfolding tag_fields all_free
tag_fields-free c [] h = refl
tag_fields-free c (tag ∷ []) h = h
tag_fields-free c (tag ∷ value ∷ fields) h =
    let tests = both (free c tag) (free c value && all_free c fields) h in
    rw tests.0 (tag_fields-free c fields (both (free c value) (all_free c fields) tests.1).1)

-- the fields of n pairs
record Printed (n : ℕ) (tags : List (List ℕ)) (values : List Written) : Type 0 where
  count : length (pair_fields tags values) ≡ n + n
  tag_places : tag_fields (pair_fields tags values) ≡ tags
  value_places : value_fields (pair_fields tags values) ≡ map print_value values

printed_pairs : (n : ℕ) (tags : List (List ℕ)) (values : List Written) → length tags ≡ n → length values ≡ n → Printed n tags values
unfolding tag_fields value_fields pair_fields
printed_pairs n [] [] t v = record { count = omega arith; tag_places = refl; value_places = refl }
printed_pairs n [] (value ∷ values) t v = absurd (omega arith)
printed_pairs n (tag ∷ tags) [] t v = absurd (omega arith)
printed_pairs zero (tag ∷ tags) (value ∷ values) t v = absurd (omega arith)
printed_pairs (suc n) (tag ∷ tags) (value ∷ values) t v =
    let others = printed_pairs n tags values (omega arith) (omega arith) in
    record {
      count = omega (arith, others.count);
      tag_places = ap (λ (l : List (List ℕ)). tag ∷ l) others.tag_places;
      value_places = ap (λ (l : List (List ℕ)). print_value value ∷ l) others.value_places;
    }

pairs_free : (c : ℕ) → is_label_byte c ≡ false → eqb c less_than ≡ false → (tags : List (List ℕ)) (values : List Written) → all_free c tags ≡ true
    → all_free c (pair_fields tags values) ≡ true
unfolding pair_fields all_free
pairs_free c h other [] values k = refl
pairs_free c h other (tag ∷ tags) [] k = refl
pairs_free c h other (tag ∷ tags) (v ∷ values) k =
    let tests = both (free c tag) (all_free c tags) k in
    rw (tests.0, value-free c (no_digit c h) (no_hyphen c h) other v) (pairs_free c h other tags values tests.1)

-- ---- the text

-- what is read from the fields of a line, whatever stands in the places of tags
record FieldsRead (n : ℕ) (fields : List (List ℕ)) (reading : Reading) : Type 0 where
  labelled : is_label reading.label ≡ true
  tag_count : length reading.tags ≡ n
  value_count : length reading.values ≡ n
  printed : reading.label ∷ pair_fields reading.tags reading.values ≡ fields

fields_read : (n : ℕ) (fields : List (List ℕ)) (reading : Reading) → reading_fields n fields ≡ some reading → FieldsRead n fields reading
unfolding reading_fields
fields_read n [] reading e = unlike e
fields_read n (label ∷ fields) reading e =
    let read = cond_some (is_label label && eqb (length fields) (n + n)) e in
    let tests = both (is_label label) (eqb (length fields) (n + n)) read.0 in
    go (values_of (value_fields fields)) refl read.1 tests.0 (eqb-true (length fields) (n + n) tests.1)
  where
    go : (o : Option (List Written)) → values_of (value_fields fields) ≡ o
        → Option.map (λ (l : List Written). record { label = label; tags = tag_fields fields; values = l }) o ≡ some reading
        → is_label label ≡ true → length fields ≡ n + n → FieldsRead n (label ∷ fields) reading
    go none h is labelled many = unlike is
    go (some values) h is labelled many =
        let made : record { label = label; tags = tag_fields fields; values = values } ≡ reading = cc in
        let pairs = pairs_printed n fields values many (values_printed (value_fields fields) values h) in
        rw (← made) (
        record {
          labelled = labelled;
          tag_count = pairs.tag_count;
          value_count = pairs.value_count;
          printed = ap (λ (l : List (List ℕ)). label ∷ l) pairs.printed;
        }
        )

-- what stands in no field stands in no tag
read-free : {n : ℕ} {fields : List (List ℕ)} {reading : Reading} → FieldsRead n fields reading → (c : ℕ) → all_free c fields ≡ true
    → all_free c reading.tags ≡ true
unfolding all_free
read-free {n} {reading = reading} read c h =
    let pairs = pair_fields reading.tags reading.values in
    let places = (printed_pairs n reading.tags reading.values read.tag_count read.value_count).tag_places in
    let after-label = (both (free c reading.label) (all_free c pairs) (ap (all_free c) read.printed ∙ h)).1 in
    ap (all_free c) (sym places) ∙ tag_fields-free c pairs after-label

pub form_printed : (n : ℕ) (text : List ℕ) (reading : Reading) → reading_of n text ≡ some reading → InForm n reading × (print_reading reading ≡ text)
unfolding reading_of print_reading
form_printed n text reading e = go (one_line (cut line_end text)) refl e
  where
    go : (o : Option (List ℕ)) → one_line (cut line_end text) ≡ o → reading_line n o ≡ some reading → InForm n reading × (print_reading reading ≡ text)
    go none h is = unlike is
    go (some line) h is =
        let whole = line-text text line h in
        let read = fields_read n (cut comma line) reading is in (
          record {
            labelled = read.labelled;
            tag_count = read.tag_count;
            value_count = read.value_count;
            no_comma = read-free read comma (cut-free comma line);
            no_line_end = read-free read line_end (cut_keeps_free comma line_end line whole.1);
          },
          ap (λ (l : List ℕ). l ++ (line_end ∷ [])) (ap (join comma) read.printed ∙ join-cut comma line) ∙ whole.0,
        )

fields_free : (reading : Reading) → is_label reading.label ≡ true → (c : ℕ) → is_label_byte c ≡ false → eqb c less_than ≡ false
    → all_free c reading.tags ≡ true → all_free c (reading.label ∷ pair_fields reading.tags reading.values) ≡ true
unfolding all_free
fields_free reading labelled c h other k =
    rw (label-free c reading.label h labelled) (pairs_free c h other reading.tags reading.values k)

-- a reading's line, without its byte 10
line-free : (reading : Reading) → is_label reading.label ≡ true → all_free line_end reading.tags ≡ true
    → free line_end (join comma (reading.label ∷ pair_fields reading.tags reading.values)) ≡ true
line-free reading labelled h =
    join_free comma line_end (reading.label ∷ pair_fields reading.tags reading.values) (λ e. omega arith)
    (fields_free reading labelled line_end refl refl h)

module _ {n : ℕ} {reading : Reading} (form : InForm n reading) where
  read_fields : reading_fields n (reading.label ∷ pair_fields reading.tags reading.values) ≡ some reading
  unfolding reading_fields
  read_fields =
      let pairs = printed_pairs n reading.tags reading.values form.tag_count form.value_count in
      rw (
        form.labelled,
        eq-eqb (length (pair_fields reading.tags reading.values)) (n + n) pairs.count,
        pairs.tag_places,
        pairs.value_places,
        printed_values reading.values,
      )

  pub printed_form : reading_of n (print_reading reading) ≡ some reading
  unfolding reading_of print_reading
  printed_form =
      let fields = pair_fields reading.tags reading.values in
      let line = join comma (reading.label ∷ fields) in
      ap (reading_line n) (text-line line (line-free reading form.labelled form.no_line_end))
      ∙ ap (reading_fields n) (cut-join comma reading.label fields (fields_free reading form.labelled comma refl refl form.no_comma))
      ∙ read_fields

-- ---- the tags of the channels

module _ (types : Types) where
  pub tags_agree_lem : (codes : List ℕ) (tags : List (List ℕ)) → tags_agree types codes tags ≡ true → tags ≡ map (tag_of types) codes
  unfolding tags_agree
  tags_agree_lem [] [] h = refl
  tags_agree_lem [] (tag ∷ tags) h = clash h refl
  tags_agree_lem (code ∷ codes) [] h = clash h refl
  tags_agree_lem (code ∷ codes) (tag ∷ tags) h =
      let tests = both (same (tag_of types code) tag) (tags_agree types codes tags) h in
      ap₂ ◌∷◌ (sym (same_eq (tag_of types code) tag tests.0)) (tags_agree_lem codes tags tests.1)

  pub agree_tags : (codes : List ℕ) → tags_agree types codes (map (tag_of types) codes) ≡ true
  unfolding tags_agree
  agree_tags [] = refl
  agree_tags (code ∷ codes) = rw (same_refl (tag_of types code)) (agree_tags codes)

  module _ (sound : SoundTypes types) where
    pairs_short : (codes : List ℕ) (values : List Written) → Each (Known types) 0 codes → values_in_range types codes values ≡ true → (first : List ℕ)
        → length (join comma (first ∷ pair_fields (map (tag_of types) codes) values)) ≤ length first + length codes * (label_limit + value_limit + 2)
    unfolding values_in_range pair_fields join
    pairs_short [] values known-each h first = omega arith
    pairs_short (code ∷ codes) [] known-each h first = omega arith
    pairs_short (code ∷ codes) (v ∷ values) known-each h first =
        let tests = both (value_in_range (range_of types code) v) (values_in_range types codes values) h in
        let fields = pair_fields (map (tag_of types) codes) values in
        let tag = label_short (tag_of types code) (tag_label types sound code (each_head (Known types) 0 code codes known-each)) in
        let value = value_short types sound code v tests.0 in
        let others = pairs_short codes values (each_tail (Known types) 0 code codes known-each) tests.1 (print_value v) in
        omega (arith, join-length comma first (tag_of types code) (print_value v ∷ fields), join-length comma (tag_of types code) (print_value v) fields)

    pub agreed_free : (codes : List ℕ) → codes_known types codes ≡ true → (n : ℕ) (line : List ℕ) (reading : Reading)
        → reading_fields n (cut comma line) ≡ some reading → tags_agree types codes reading.tags ≡ true → free line_end line ≡ true
    agreed_free codes codes-are n line reading e agree =
        let read = fields_read n (cut comma line) reading e in
        let tags =
        ap (all_free line_end) (tags_agree_lem codes reading.tags agree) ∙ tags_free types sound line_end refl codes (codes_each types codes codes-are) in
        ap (free line_end) (sym (join-cut comma line) ∙ ap (join comma) (sym read.printed)) ∙ line-free reading read.labelled tags

    module _ (codes label : List ℕ) (values : List Written) (codes-are : codes_known types codes ≡ true) (labelled : is_label label ≡ true)
        (complete : length values ≡ length codes) where
      pub own-form : InForm (length codes) (own_reading types codes label values)
      own-form =
          record {
            labelled = labelled;
            tag_count = length-map codes (tag_of types);
            value_count = complete;
            no_comma = tags_free types sound comma refl codes (codes_each types codes codes-are);
            no_line_end = tags_free types sound line_end refl codes (codes_each types codes codes-are);
          }

      pub own-length : length codes ≤ channel_limit → values_in_range types codes values ≡ true
          → text_within (print_reading (own_reading types codes label values)) ≡ true
      unfolding print_reading
      own-length most in_ranges =
          let line = join comma (label ∷ pair_fields (map (tag_of types) codes) values) in
          let long = pairs_short codes values (codes_each types codes codes-are) in_ranges label in
          range_in 1 text_limit (length (line ++ (line_end ∷ []))) (omega (arith, length-append line (line_end ∷ [])))
          (omega (arith, length-append line (line_end ∷ []), label_short label labelled))
