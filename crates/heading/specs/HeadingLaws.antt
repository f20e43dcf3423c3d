-- The heading's line, both ways: it is read as codes exactly when it is their printing.
--     heading-within     the codes that a line is read as are within the limit
--     heading_printed    the line is their printing
--     printed-heading    the printing of codes within the limit is read as them
--     heading-free       no byte that stands in no label stands in the printing of codes, the comma apart
--     heading-length     how many bytes the printing of codes has at most, where no tag has more than three
--     heading_most_lem       the same where there are no more codes than channels
use Prim.Native.Nat.{ℕ, zero, suc, ◌+◌, ◌*◌, ◌^◌, ◌≤◌, ◌<◌}
use Rattle.std.specs.Prelude.{◌≡◌, Bool, ◌&&◌, ℤ, pos, negsuc, get_or}
use Rattle.std.proofs.Math.Path.{refl, sym, ap, ap₂}
use Rattle.std.proofs.Common.{◌∙◌, arith}
use Rattle.std.proofs.Math.Bool.{true, false, cond}
use mathlib.Core.List.{List, [], ◌∷◌, map}
use Rattle.std.proofs.Math.Option.{Option, none, some}
use borrow.Author.Tests.{leb-true, le-leb, eqb-true, eq-eqb}
use Rattle.std.proofs.Math.Dec.{eqb, leb}
use Rattle.std.proofs.Math.ListN.{length, length-map}
use Rattle.text.specs.Parts.{comma, cut, join, same, free, all_free}
use Rattle.integers.specs.Tests.{both, unlike, cond_some}
use Rattle.lists.specs.Each.{Each, each_cons, each_head, each_tail}
use Rattle.text.specs.PartsLaws.{same_eq, same_refl, join-cut, cut-join, join_free, join-length, join_short}
use Rattle.number.specs.Number.{plain, print}
use Rattle.number.specs.NumberLaws.{plain-print, print-plain, print-free, magnitude_short}
use Rattle.label.specs.Label.{is_label, is_label_byte}
use Rattle.label.specs.LabelLaws.{label-free, no_digit, no_hyphen}
use Rattle.channel.specs.Channel.{Types, code_of, tag_of}
use Rattle.limits.specs.Limits.{channel_limit, tag_limit, channel_digits}
use Rattle.limits.specs.LimitLaws.{channel_digits_lem}
use Rattle.channel.specs.ContractLaws.{ShortTags, type_short}
use Rattle.channel.specs.ChannelLaws.{SoundTypes, Known, code_tag, tag_code, known_code, known_some, tags_free}
use Rattle.heading.specs.Clauses.{heading_most}
use Rattle.heading.specs.Heading.{count_within, stated_count, and_code, codes_of_tags, heading_fields, heading_of, print_heading, CodesWithin}

module _ (limit : ℕ) where
  -- a count from 1 to the limit is the printing of its number
  count-printed : (field : List ℕ) → 1 ≤ stated_count limit field
      → (print (pos (stated_count limit field)) ≡ field) × (stated_count limit field ≤ limit)
  unfolding stated_count
  count-printed field = go (plain field) refl
    where
      within : (n : ℕ) (b : Bool) → leb n limit ≡ b → plain field ≡ some (pos n) → 1 ≤ cond b n 0
          → (print (pos (cond b n 0)) ≡ field) × (cond b n 0 ≤ limit)
      within n true t e h = (print-plain field (pos n) e, leb-true n limit t)
      within n false t e h = absurd (omega arith)

      go : (o : Option ℤ) → plain field ≡ o → 1 ≤ count_within limit o
          → (print (pos (count_within limit o)) ≡ field) × (count_within limit o ≤ limit)
      go none e h = absurd (omega arith)
      go (some (pos n)) e h = within n (leb n limit) refl e h
      go (some (negsuc k)) e h = absurd (omega arith)

  printed-count : (n : ℕ) → n ≤ limit → stated_count limit (print (pos n)) ≡ n
  unfolding stated_count
  printed-count n h = rw (plain-print, le-leb n limit h)

and_code_some : (c : ℕ) (o : Option (List ℕ)) (codes : List ℕ) → and_code c o ≡ some codes
    → (k : ℕ) × (rest : List ℕ) × (c ≡ suc k) × (o ≡ some rest) × (codes ≡ suc k ∷ rest)
and_code_some zero o codes e = unlike e
and_code_some (suc k) none codes e = unlike e
and_code_some (suc k) (some rest) codes e = (k, rest, refl, refl, cc)

module _ (types : Types) where
  codes_known_lem : (tags : List (List ℕ)) (codes : List ℕ) → codes_of_tags types tags ≡ some codes → (length codes ≡ length tags) × Each (Known types) 0 codes
  unfolding codes_of_tags
  codes_known_lem [] codes e = let empty : [] ≡ codes = cc in rw (← empty) (refl, λ k h. absurd (omega arith))
  codes_known_lem (tag ∷ tags) codes e =
      let first = and_code_some (code_of types tag) (codes_of_tags types tags) codes e in
      let others = codes_known_lem tags first.1 first.3 in
      rw first.4
      (ap suc others.0, each_cons (Known types) 0 (suc first.0) first.1 (known_code types tag first.0 first.2) others.1)

  fields_sound : (word : List ℕ) (limit : ℕ) (first count : List ℕ) (tags : List (List ℕ)) (codes : List ℕ)
      → heading_fields word limit types (first ∷ count ∷ tags) ≡ some codes
      → (first ≡ word) × (print (pos (length codes)) ≡ count) × (codes_of_tags types tags ≡ some codes) × CodesWithin limit types codes
  unfolding heading_fields
  fields_sound word limit first count tags codes e =
      let n = stated_count limit count in
      let read = cond_some (same first word && (leb 1 n && eqb n (length tags))) e in
      let parts = both (same first word) (leb 1 n && eqb n (length tags)) read.0 in
      let numbers = both (leb 1 n) (eqb n (length tags)) parts.1 in
      let some_channel = leb-true 1 n numbers.0 in
      let counted = count-printed limit count some_channel in
      let listed = codes_known_lem tags codes read.1 in
      let as_many : length codes ≡ n = listed.0 ∙ sym (eqb-true n (length tags) numbers.1) in (
        same_eq first word parts.0,
        ap (λ (m : ℕ). print (pos m)) as_many ∙ counted.0,
        read.1,
        record { some_channel = omega arith; channels = omega arith; each_known = listed.1 },
      )

  fields_within : (word : List ℕ) (limit : ℕ) (fields : List (List ℕ)) (codes : List ℕ) → heading_fields word limit types fields ≡ some codes → CodesWithin limit types codes
  unfolding heading_fields
  fields_within word limit [] codes e = unlike e
  fields_within word limit (first ∷ []) codes e = unlike e
  fields_within word limit (first ∷ count ∷ tags) codes e = (fields_sound word limit first count tags codes e).3

  pub heading-within : (word : List ℕ) (limit : ℕ) (line codes : List ℕ) → heading_of word limit types line ≡ some codes → CodesWithin limit types codes
  unfolding heading_of
  heading-within word limit line codes e = fields_within word limit (cut comma line) codes e

module _ (types : Types) (types_sound : SoundTypes types) where
  codes-printed : (tags : List (List ℕ)) (codes : List ℕ) → codes_of_tags types tags ≡ some codes → map (tag_of types) codes ≡ tags
  unfolding codes_of_tags
  codes-printed [] codes e = let empty : [] ≡ codes = cc in rw (← empty)
  codes-printed (tag ∷ tags) codes e =
      let first = and_code_some (code_of types tag) (codes_of_tags types tags) codes e in
      rw first.4 (ap₂ ◌∷◌ (tag_code types types_sound tag first.0 first.2) (codes-printed tags first.1 first.3))

  printed-codes : (codes : List ℕ) → Each (Known types) 0 codes
      → codes_of_tags types (map (tag_of types) codes) ≡ some codes
  unfolding codes_of_tags
  printed-codes [] known-each = refl
  printed-codes (code ∷ codes) known-each =
      let here = each_head (Known types) 0 code codes known-each in
      rw (code_tag types types_sound code here, printed-codes codes (each_tail (Known types) 0 code codes known-each))
      (coded code (known_some types types_sound code here))
    where
      coded : (c : ℕ) → 1 ≤ c → and_code c (some codes) ≡ some (c ∷ codes)
      coded zero h = absurd (omega arith)
      coded (suc k) h = refl

  module _ (word : List ℕ) (limit : ℕ) where
    fields_printed : (fields : List (List ℕ)) (codes : List ℕ) → heading_fields word limit types fields ≡ some codes
        → word ∷ print (pos (length codes)) ∷ map (tag_of types) codes ≡ fields
    unfolding heading_fields
    fields_printed [] codes e = unlike e
    fields_printed (first ∷ []) codes e = unlike e
    fields_printed (first ∷ count ∷ tags) codes e =
        let read = fields_sound types word limit first count tags codes e in
        ap₂ ◌∷◌ (sym read.0) (ap₂ ◌∷◌ read.1 (codes-printed tags codes read.2))

    pub heading_printed : (line codes : List ℕ) → heading_of word limit types line ≡ some codes → print_heading word types codes ≡ line
    unfolding heading_of print_heading
    heading_printed line codes e = ap (join comma) (fields_printed (cut comma line) codes e) ∙ join-cut comma line

    fields_free : is_label word ≡ true → (c : ℕ) → is_label_byte c ≡ false → (codes : List ℕ) → CodesWithin limit types codes
        → all_free c (word ∷ print (pos (length codes)) ∷ map (tag_of types) codes) ≡ true
    unfolding all_free
    fields_free labelled c h codes within =
        rw (label-free c word h labelled, print-free c (no_digit c h) (no_hyphen c h) (pos (length codes)))
        (tags_free types types_sound c h codes within.each_known)

    pub heading-free : is_label word ≡ true → (c : ℕ) → is_label_byte c ≡ false → (comma ≡ c → ⊥) → (codes : List ℕ) → CodesWithin limit types codes
        → free c (print_heading word types codes) ≡ true
    unfolding print_heading
    heading-free labelled c h other codes within =
        join_free comma c (word ∷ print (pos (length codes)) ∷ map (tag_of types) codes) other (fields_free labelled c h codes within)

    pub printed-heading : is_label word ≡ true → (codes : List ℕ) → CodesWithin limit types codes → heading_of word limit types (print_heading word types codes) ≡ some codes
    unfolding heading_of print_heading heading_fields
    printed-heading labelled codes within =
        rw (cut-join comma word (print (pos (length codes)) ∷ map (tag_of types) codes) (fields_free labelled comma refl codes within))
        (rw (
          same_refl word,
          printed-count limit (length codes) within.channels,
          le-leb 1 (length codes) within.some_channel,
          length-map codes (tag_of types),
          eq-eqb (length codes) (length codes) refl,
        )
        (printed-codes codes within.each_known))

module _ (types : Types) (short : ShortTags types) where
  tags_length : (first codes : List ℕ) → length (join comma (first ∷ map (tag_of types) codes)) ≤ length first + suc tag_limit * length codes
  tags_length first codes = join_short (tag_of types) 0 comma tag_limit first codes (λ j h. type_short types short (get_or codes j 0))

  pub heading-length : (k : ℕ) (word codes : List ℕ) → 1 ≤ k → length codes < 10 ^ k
      → length (print_heading word types codes) ≤ length word + suc k + suc tag_limit * length codes
  unfolding print_heading print
  heading-length k word codes some-digit below =
      let count = print (pos (length codes)) in
      omega (arith, join-length comma word count (map (tag_of types) codes), magnitude_short k (length codes) some-digit below, tags_length count codes)

  pub heading_most_lem : (word codes : List ℕ) → length codes ≤ channel_limit → length (print_heading word types codes) ≤ heading_most word (length codes)
  heading_most_lem word codes within =
      omega (arith, heading-length channel_digits word codes (omega arith) (omega (arith, channel_digits_lem.below)))
