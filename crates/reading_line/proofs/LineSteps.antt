-- A reading's line that is read pair by pair.
--     two_fields                                     the fields from an index on, where there are two
--     PairsSoFar, pairs_none, pairs_next             the pairs of a line as they are read, none and one more
--     value-here                                     the value of a pair, as the walk over the values meets it
--     pairs_malformed, pairs_few, pairs_many         what stops their walk
--     pairs_done                                     what it ends with
--     FieldsRead, fields_no_label, fields_pairs      a line from its label and what its pairs are, whether or not a byte 10 stands in it
--     line-ended, line_whole                         a line with a byte 10 in it, and one without
--     line_malformed, line_agreed                    a line not in form, and one whose tags are those of the channels
use Prim.Native.Nat.{ℕ, ◌+◌, ◌≤◌, ◌<◌}
use mathlib.Core.Path.{◌≡◌, refl, sym, ap, ap₂, ◌∙◌}
use mathlib.Core.Bool.{Bool, true, false, not, cond, ◌&&◌, and-true, and_assoc, and_comm}
use mathlib.Core.List.{List, [], ◌∷◌, ◌++◌, map}
use mathlib.Core.Option
use mathlib.Core.Option.{Option, none, some}
use native.Mathlib.Numerals.{add-one}
use native.Mathlib.Omega.{arith}
use borrow.Author.Tests.{eq-eqb, ne_eqb}
use lib.Dec.{eqb}
use lib.IntN.{ℤ}
use lib.ListN.{length, get_or, drop, drop_of_length-le}
use lib.Seq.{drop-cons}
use Rattle.integers.specs.Tests.{cond_same, impossible}
use Rattle.text.specs.Parts.{comma, line_end, free, cut, same, parts_from}
use Rattle.text.specs.Clauses.{PartEnd}
use Rattle.text.specs.PartsLaws.{parts_from_lem, part_at}
use Rattle.label.specs.Label.{is_label}
use Rattle.channel.specs.Channel.{Types, tag_of, codes_known}
use Rattle.channel.specs.ChannelLaws.{SoundTypes}
use Rattle.value.specs.Value.{Written, value_of, reads}
use Rattle.value.specs.Values.{values_of, values_in_range}
use Rattle.value.proofs.ValuesSteps.{ValuesSoFar, values_none, values_stop, values_whole}
use Rattle.reading_line.specs.Reading.{Reading, tag_fields, value_fields, reading_fields, reading_line, tags_agree}
use Rattle.reading_line.specs.ReadingLaws.{agreed_free}
use Rattle.reading_line.specs.Clauses.{Line, Malformed, TagDiffers, OutOfRange, Within, line_pairs, pairs_read, PairsRead, line_read, line_alone, LineRead}

-- ---- the fields from an index on

pub two_fields : (line : List ℕ) (at : ℕ) {e end : ℕ} → at ≤ length line → PartEnd comma line at e → (length line ≡ e → ⊥)
    → PartEnd comma line (e + 1) end
    → parts_from comma line at ≡ part_at line at e ∷ part_at line (e + 1) end ∷ parts_from comma line (end + 1)
two_fields line at {e} {end} h p more q =
    parts_from_lem comma line at e h p
    ∙ ap (λ l. part_at line at e ∷ l) (parts_from_lem comma line (e + 1) end (omega (arith, p.high)) q)

-- ---- the pairs

-- before turn i of the walk over the pairs: the values so far, and all tags agree where those so far do and those of the rest
pub record PairsSoFar (types : Types) (codes : List ℕ) (fields rest : List (List ℕ)) (lent₀ lent : List ℤ) (agree outside : Bool)
    (i : ℕ) : Type 0 where
  pub values : ValuesSoFar types codes (value_fields fields) (value_fields rest) lent₀ lent outside i
  pub counts : length fields ≡ i + i + length rest
  pub tags : tags_agree types codes (tag_fields fields) ≡ (agree && tags_agree types (drop i codes) (tag_fields rest))

module _ (types : Types) (codes : List ℕ) (fields : List (List ℕ)) (lent₀ : List ℤ) where
  pub pairs_none : PairsSoFar types codes fields fields lent₀ lent₀ true false 0
  pairs_none = record { values = values_none types codes (value_fields fields) lent₀; counts = omega arith; tags = refl }

module _ {types : Types} {codes : List ℕ} {fields rest : List (List ℕ)} {lent₀ lent : List ℤ} {agree outside : Bool} {i : ℕ}
    (f : PairsSoFar types codes fields rest lent₀ lent agree outside i) where
  pub value-here : {tag value : List ℕ} {further : List (List ℕ)} → rest ≡ tag ∷ value ∷ further
      → value_fields rest ≡ value ∷ value_fields further
  unfolding value_fields
  value-here e = ap value_fields e

  pub pairs_next : {tag value : List ℕ} {further : List (List ℕ)} {code : ℕ} {lent' : List ℤ} {agree' outside' : Bool} → i < length codes
      → rest ≡ tag ∷ value ∷ further → get_or codes i 0 ≡ code → agree' ≡ (same (tag_of types code) tag && agree)
      → ValuesSoFar types codes (value_fields fields) (value_fields further) lent₀ lent' outside' (i + 1)
      → PairsSoFar types codes fields further lent₀ lent' agree' outside' (i + 1)
  unfolding tag_fields tags_agree
  pairs_next {tag} {value} {further} {code} h e d a v =
      let here = same (tag_of types code) tag in
      let after = tags_agree types (drop (i + 1) codes) (tag_fields further) in
      let c : drop i codes ≡ code ∷ drop (i + 1) codes = drop-cons codes i 0 h ∙ ap₂ (λ k j. k ∷ drop j codes) d (sym (add-one i)) in
      record {
        values = v;
        counts = f.counts ∙ ap (λ l. i + i + length l) e ∙ omega arith;
        tags =
            f.tags ∙ ap₂ (λ k l. agree && tags_agree types k (tag_fields l)) c e ∙ sym (and_assoc agree here after)
            ∙ ap (λ b. b && after) (and_comm agree here ∙ sym a);
      }

  not_read_lem : pairs_read types codes fields ≡ Malformed → PairsRead types codes fields lent₀ lent Malformed
  not_read_lem e =
      record {
        is = sym e;
        same_length = f.values.same_length;
        written = λ vs u w. impossible (cc);
      }

  other_count : (length fields ≡ length codes + length codes → ⊥) → PairsRead types codes fields lent₀ lent Malformed
  other_count h =
      not_read_lem
      (ap (λ t. cond t (line_pairs types codes (tag_fields fields) (values_of (value_fields fields))) Malformed)
      (ne_eqb (length fields) (length codes + length codes) h))

  pub pairs_malformed : {tag value : List ℕ} {further : List (List ℕ)} → rest ≡ tag ∷ value ∷ further → value_of value ≡ none
      → PairsRead types codes fields lent₀ lent Malformed
  pairs_malformed e k =
      let t = eqb (length fields) (length codes + length codes) in
      not_read_lem
      (ap (λ o. cond t (line_pairs types codes (tag_fields fields) o) Malformed) (values_stop f.values (value-here e) k)
      ∙ cond_same t Malformed)

  pub pairs_few : {left : List (List ℕ)} → i < length codes → rest ≡ left → length left ≤ 1 → PairsRead types codes fields lent₀ lent Malformed
  pairs_few h e few = other_count (λ c. omega (arith, f.counts, ap (length {A = List ℕ}) e))

  pub pairs_many : {field : List ℕ} {further : List (List ℕ)} → length codes ≤ i → rest ≡ field ∷ further
      → PairsRead types codes fields lent₀ lent Malformed
  pairs_many h e = other_count (λ c. omega (arith, f.counts, ap (length {A = List ℕ}) e))

  pub pairs_done : (a o : Bool) → agree ≡ a → outside ≡ o → length codes ≤ i → rest ≡ []
      → PairsRead types codes fields lent₀ lent (cond a (cond o OutOfRange Within) TagDiffers)
  unfolding tag_fields value_fields tags_agree
  pairs_done a o k u h e =
      let count : length fields ≡ length codes + length codes =
      omega (arith, f.counts, f.values.within, ap (length {A = List ℕ}) e) in
      let whole = values_whole f.values h (ap value_fields e) in
      let tags : tags_agree types codes (tag_fields fields) ≡ a =
      f.tags ∙ ap (λ l. agree && tags_agree types (drop i codes) (tag_fields l)) e ∙ ap (λ l. agree && tags_agree types l []) (drop_of_length-le codes h)
      ∙ and-true agree ∙ k in
      record {
        is =
            sym
            (ap₂ (λ t v. cond t (line_pairs types codes (tag_fields fields) v) Malformed)
            (eq-eqb (length fields) (length codes + length codes) count) whole.are
            ∙ ap₂ (λ t v. cond t (cond v Within OutOfRange) TagDiffers) tags (whole.ranged ∙ ap not u)
            ∙ ap (λ l. cond a l TagDiffers) (turned o));
        same_length = f.values.same_length;
        written = λ vs q w.
            let v : f.values.values ≡ vs = cc whole.are in
            whole.placed (u ∙ none_outside a o w) ∙ ap (λ l. map reads l ++ drop (length codes) lent₀) v;
      }
    where
      turned : (t : Bool) → cond (not t) Within OutOfRange ≡ cond t OutOfRange Within
      turned true = refl
      turned false = refl

      none_outside : (a o : Bool) → cond a (cond o OutOfRange Within) TagDiffers ≡ Within → o ≡ false
      none_outside a false w = refl
      none_outside true true w = impossible (cc)
      none_outside false true w = impossible (cc)

-- ---- the line

-- what stands before a text's last byte 10, whether or not there is a byte 10 in it
pub record FieldsRead (types : Types) (codes line : List ℕ) (lent₀ lent : List ℤ) (r : Line) : Type 0 where
  pub is : r ≡ line_read types codes (reading_fields (length codes) (cut comma line))
  pub same_length : length lent ≡ length lent₀
  pub written : (reading : Reading) → reading_fields (length codes) (cut comma line) ≡ some reading → r ≡ Within
      → lent ≡ map reads reading.values ++ drop (length codes) lent₀

module _ (types : Types) (codes line : List ℕ) {lent₀ lent : List ℤ} where
  pub line-ended : free line_end line ≡ false → length lent ≡ length lent₀ → LineRead types codes line lent₀ lent Malformed
  line-ended h l =
      let o : reading_line (length codes) (line_alone line) ≡ none = ap (λ t. reading_line (length codes) (cond t (some line) none)) h in
      record {
        is = sym (ap (line_read types codes) o);
        same_length = l;
        written = λ reading u w. impossible (cc);
      }

  pub line_whole : {r : Line} → FieldsRead types codes line lent₀ lent r → free line_end line ≡ true → LineRead types codes line lent₀ lent r
  line_whole f h =
      let o : reading_line (length codes) (line_alone line) ≡ reading_fields (length codes) (cut comma line) =
      ap (λ t. reading_line (length codes) (cond t (some line) none)) h in
      record {
        is = f.is ∙ sym (ap (line_read types codes) o);
        same_length = f.same_length;
        written = λ reading u w. f.written reading (sym o ∙ u) w;
      }

  pub line_malformed : FieldsRead types codes line lent₀ lent Malformed → LineRead types codes line lent₀ lent Malformed
  line_malformed f = go (free line_end line) refl
    where
      go : (t : Bool) → free line_end line ≡ t → LineRead types codes line lent₀ lent Malformed
      go true h = line_whole f h
      go false h = line-ended h f.same_length

  pub line_agreed : {r : Line} → FieldsRead types codes line lent₀ lent r → SoundTypes types → codes_known types codes ≡ true
      → (r ≡ Malformed → ⊥) → (r ≡ TagDiffers → ⊥) → LineRead types codes line lent₀ lent r
  line_agreed {r} f sound codes-are formed agreed = line_whole f (go (reading_fields (length codes) (cut comma line)) refl f.is)
    where
      tags : (reading : Reading) → reading_fields (length codes) (cut comma line) ≡ some reading
          → (t : Bool) → tags_agree types codes reading.tags ≡ t
          → r ≡ cond t (cond (values_in_range types codes reading.values) Within OutOfRange) TagDiffers → free line_end line ≡ true
      tags reading e true h is = agreed_free types sound codes codes-are (length codes) line reading e h
      tags reading e false h is = absurd (agreed is)

      go : (o : Option Reading) → reading_fields (length codes) (cut comma line) ≡ o → r ≡ line_read types codes o → free line_end line ≡ true
      go none e is = absurd (formed is)
      go (some reading) e is = tags reading e (tags_agree types codes reading.tags) refl is

module _ (types : Types) (codes line label : List ℕ) {fields : List (List ℕ)} (e : cut comma line ≡ label ∷ fields) {lent₀ : List ℤ} where
  pub fields_no_label : is_label label ≡ false → FieldsRead types codes line lent₀ lent₀ Malformed
  unfolding reading_fields
  fields_no_label h =
      let o : reading_fields (length codes) (cut comma line) ≡ none = ap (reading_fields (length codes)) e ∙ rw h in
      record {
        is = sym (ap (line_read types codes) o);
        same_length = refl;
        written = λ reading u w. impossible (cc);
      }

  pub fields_pairs : {lent : List ℤ} {r : Line} → is_label label ≡ true → PairsRead types codes fields lent₀ lent r
      → FieldsRead types codes line lent₀ lent r
  unfolding reading_fields
  fields_pairs {r = r} h f =
      let all = eqb (length fields) (length codes + length codes) in
      let o : reading_fields (length codes) (cut comma line) ≡ reading_when all (values_of (value_fields fields)) =
      ap (reading_fields (length codes)) e ∙ rw h in
      record {
        is = f.is ∙ line_is all (values_of (value_fields fields)) ∙ sym (ap (line_read types codes) o);
        same_length = f.same_length;
        written = λ reading u w. f.written reading.values (values_are all (values_of (value_fields fields)) reading (sym o ∙ u)) w;
      }
    where
      with_label : List Written → Reading
      with_label vs = record { label = label; tags = tag_fields fields; values = vs }

      reading_when : Bool → Option (List Written) → Option Reading
      reading_when t o = cond t (Option.map with_label o) none

      line_is : (t : Bool) (o : Option (List Written))
          → cond t (line_pairs types codes (tag_fields fields) o) Malformed ≡ line_read types codes (reading_when t o)
      line_is false o = refl
      line_is true none = refl
      line_is true (some vs) = refl

      values_are : (t : Bool) (o : Option (List Written)) (reading : Reading) → reading_when t o ≡ some reading → o ≡ some reading.values
      values_are false o reading u = impossible (cc)
      values_are true none reading u = impossible (cc)
      values_are true (some vs) reading u =
          let r : with_label vs ≡ reading = cc in
          ap (λ (r : Reading). some r.values) r
