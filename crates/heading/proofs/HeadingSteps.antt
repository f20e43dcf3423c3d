-- A heading that is read field by field.
--     no_count, some_count, count_most        the number of channels from what is read of it; it is within the limit
--     TagsSoFar, tags_none, tags_next         the tags of a heading as they are read
--     tags_unknown, tags_few, tags_many       what stops their walk
--     tags_done                               the heading that it ends with
--     heading_other_word, heading_short       a line with another first field, or with no other
--     heading_no_count, heading_tags          a heading without its n, and with it
use Prim.Native.Nat.{ℕ, zero, suc, ◌+◌, ◌≤◌, ◌<◌}
use mathlib.Core.Path.{◌≡◌, refl, sym, ap, ap₂, ◌∙◌}
use mathlib.Core.Bool.{Bool, true, false, cond, ◌&&◌, and-false}
use mathlib.Core.List.{List, [], ◌∷◌, ◌++◌, append-nil}
use mathlib.Core.Option.{Option, none, some, map}
use Rattle.std.specs.Prelude.{None, Some}
use native.Mathlib.Omega.{arith}
use borrow.Author.Tests.{le-leb, eq-eqb, ne_eqb, leb-true}
use lib.Dec.{eqb, leb}
use lib.IntN.{ℤ, pos, negsuc}
use lib.ListN.{length, set, length-append}
use Rattle.limits.specs.Limits.{channel_limit}
use Rattle.text.specs.Parts.{comma, cut, same}
use Rattle.number.specs.Number.{plain}
use Rattle.number.specs.Clauses.{above_zero, count_read, count_field}
use Rattle.channel.specs.Channel.{Types, code_of}
use Rattle.heading.specs.Heading.{count_within, stated_count, and_code, codes_of_tags, heading_fields, heading_of}
use Rattle.integers.specs.Tests.{cond_same}
use Rattle.lists.specs.Gathered.{gathered_none, gathered_next}
use Rattle.lists.specs.Padded.{padded, padded_next}
use Rattle.heading.specs.Clauses.{heading_read, tags_read}
use Rattle.heading.specs.declared.Heading.{Heading}

-- ---- what is read of a number above 0

none_zero : (n : ℕ) → None ≡ above_zero n → n ≡ 0
none_zero zero h = refl
none_zero (suc n) h = cc

some_above : (n : ℕ) {k : ℕ} → Some k ≡ above_zero n → (n ≡ k) × (k ≡ 0 → ⊥)
some_above zero h = cc
some_above (suc n) {k} h = let e : k ≡ suc n = cc in (sym e, λ z. omega arith)

-- ---- the number of channels

counted : (limit : ℕ) (field : List ℕ) → count_field limit field ≡ above_zero (stated_count limit field)
unfolding stated_count
counted limit field = go (plain field)
  where
    within : (n : ℕ) (t : Bool) → cond (leb 1 n && t) (Some n) None ≡ above_zero (cond t n 0)
    within zero true = refl
    within zero false = refl
    within (suc n) true = rw (le-leb 1 (suc n) (omega arith))
    within (suc n) false = ap (λ t. cond t (Some (suc n)) None) (and-false (leb 1 (suc n)))

    go : (o : Option ℤ) → count_read limit o ≡ above_zero (count_within limit o)
    go none = refl
    go (some (negsuc k)) = refl
    go (some (pos n)) = within n (leb n limit)

module _ (limit : ℕ) (field : List ℕ) where
  pub no_count : None ≡ count_field limit field → stated_count limit field ≡ 0
  no_count h = none_zero (stated_count limit field) (h ∙ counted limit field)

  pub some_count : {n : ℕ} → Some n ≡ count_field limit field → (stated_count limit field ≡ n) × (n ≡ 0 → ⊥)
  some_count h = some_above (stated_count limit field) (h ∙ counted limit field)

pub count_most : (limit : ℕ) (field : List ℕ) → stated_count limit field ≤ limit
unfolding stated_count
count_most limit field = go (plain field)
  where
    go : (o : Option ℤ) → count_within limit o ≤ limit
    go none = omega arith
    go (some (negsuc k)) = omega arith
    go (some (pos n)) = within (leb n limit) refl
      where
        within : (t : Bool) → leb n limit ≡ t → cond t n 0 ≤ limit
        within true e = leb-true n limit e
        within false e = omega arith

-- ---- the tags

abbrev heading : ℕ → List ℕ → Heading
heading n types = record { n = n; codes = types }

-- before turn i of the walk over n tags: the codes so far stand in the first places, and the codes of all tags are they with
-- those of the rest
pub record TagsSoFar (types : Types) (n : ℕ) (tags rest : List (List ℕ)) (places : List ℕ) (i : ℕ) : Type 0 where
  pub codes : List ℕ
  pub passed : length codes ≡ i
  pub within : i ≤ n
  pub placed : places ≡ padded channel_limit codes
  pub counts : length tags ≡ i + length rest
  pub continues : codes_of_tags types tags ≡ map (λ (l : List ℕ). codes ++ l) (codes_of_tags types rest)

module _ (types : Types) (n : ℕ) (tags : List (List ℕ)) where
  pub tags_none : TagsSoFar types n tags tags (padded channel_limit []) 0
  tags_none =
      record {
        codes = [];
        passed = refl;
        within = omega arith;
        placed = refl;
        counts = omega arith;
        continues = gathered_none (codes_of_tags types tags);
      }

module _ {types : Types} {n : ℕ} {tags rest : List (List ℕ)} {places : List ℕ} {i : ℕ} (f : TagsSoFar types n tags rest places i) where
  pub tags_next : {tag : List ℕ} {further : List (List ℕ)} {code : ℕ} → n ≤ channel_limit → i < n → rest ≡ tag ∷ further
      → Some code ≡ above_zero (code_of types tag) → TagsSoFar types n tags further (set places i code) (i + 1)
  unfolding codes_of_tags
  tags_next {tag} {further} {code} m h e k =
      record {
        codes = f.codes ++ (code ∷ []);
        passed = length-append f.codes (code ∷ []) ∙ omega (arith, f.passed);
        within = omega arith;
        placed = ap₂ (λ l j. set l j code) f.placed (sym f.passed) ∙ padded_next channel_limit f.codes code (omega (arith, f.passed));
        counts = f.counts ∙ ap (λ l. i + length l) e ∙ omega arith;
        continues =
            f.continues ∙ ap (λ l. map (λ (l : List ℕ). f.codes ++ l) (codes_of_tags types l)) e
            ∙ go (code_of types tag) k (codes_of_tags types further);
      }
    where
      go : (d : ℕ) → Some code ≡ above_zero d → (o : Option (List ℕ))
          → map (λ (l : List ℕ). f.codes ++ l) (and_code d o) ≡ map (λ (l : List ℕ). (f.codes ++ (code ∷ [])) ++ l) o
      go zero z o = cc
      go (suc d) z o = let is : code ≡ suc d = cc in rw is (gathered_next f.codes (suc d) o)

  pub tags_unknown : {tag : List ℕ} {further : List (List ℕ)} → rest ≡ tag ∷ further → None ≡ above_zero (code_of types tag) → None ≡ tags_read types n tags
  unfolding codes_of_tags
  tags_unknown {tag} {further} e k =
      let o : codes_of_tags types tags ≡ none =
      f.continues ∙ ap (λ l. map (λ (l : List ℕ). f.codes ++ l) (codes_of_tags types l)) e
      ∙ ap (λ d. map (λ (l : List ℕ). f.codes ++ l) (and_code d (codes_of_tags types further))) (none_zero (code_of types tag) k) in
      sym (ap (λ o. heading_read (cond (eqb n (length tags)) o none)) o ∙ ap heading_read (cond_same (eqb n (length tags)) none))

  other_count : (length tags ≡ n → ⊥) → None ≡ tags_read types n tags
  other_count h =
      sym (ap (λ t. heading_read (cond t (codes_of_tags types tags) none)) (ne_eqb n (length tags) (λ e. h (sym e))))

  pub tags_few : i < n → rest ≡ [] → None ≡ tags_read types n tags
  tags_few h e = other_count (λ c. omega (arith, f.counts, ap (length {A = List ℕ}) e))

  pub tags_many : {tag : List ℕ} {further : List (List ℕ)} → n ≤ i → rest ≡ tag ∷ further → None ≡ tags_read types n tags
  tags_many h e = other_count (λ c. omega (arith, f.counts, ap (length {A = List ℕ}) e))

  pub tags_done : n ≤ i → rest ≡ [] → Some (record { n = n; codes = places }) ≡ tags_read types n tags
  unfolding codes_of_tags
  tags_done h e =
      let a : length f.codes ≡ n = omega (arith, f.passed) in
      let b : length tags ≡ n = omega (arith, f.counts, ap (length {A = List ℕ}) e) in
      let o : codes_of_tags types tags ≡ some f.codes =
      f.continues ∙ ap (λ l. map (λ (l : List ℕ). f.codes ++ l) (codes_of_tags types l)) e ∙ ap some (append-nil f.codes) in
      ap₂ (λ n codes. Some (heading n codes)) (sym a) f.placed ∙ sym (ap₂ (λ t o. heading_read (cond t o none)) (eq-eqb n (length tags) (sym b)) o)

-- ---- the line

module _ (word : List ℕ) (limit : ℕ) (types : Types) (line : List ℕ) where
  pub heading_other_word : {first : List ℕ} {rest : List (List ℕ)} → cut comma line ≡ first ∷ rest → same first word ≡ false
      → heading_of word limit types line ≡ none
  unfolding heading_of heading_fields
  heading_other_word {first} {rest} e h = ap (heading_fields word limit types) e ∙ go rest
    where
      go : (rest : List (List ℕ)) → heading_fields word limit types (first ∷ rest) ≡ none
      go [] = refl
      go (count ∷ tags) = rw h

  pub heading_short : {first : List ℕ} → cut comma line ≡ first ∷ [] → heading_of word limit types line ≡ none
  unfolding heading_of heading_fields
  heading_short e = ap (heading_fields word limit types) e

  module _ {first count : List ℕ} {tags : List (List ℕ)} (e : cut comma line ≡ first ∷ count ∷ tags) where
    pub heading_no_count : stated_count limit count ≡ 0 → heading_of word limit types line ≡ none
    unfolding heading_of heading_fields
    heading_no_count h = ap (heading_fields word limit types) e ∙ rw (h, and-false)

    pub heading_tags : same first word ≡ true → (stated_count limit count ≡ 0 → ⊥)
        → heading_read (heading_of word limit types line) ≡ tags_read types (stated_count limit count) tags
    unfolding heading_of heading_fields
    heading_tags s h = ap (λ l. heading_read (heading_fields word limit types l)) e ∙ rw (s, le-leb 1 (stated_count limit count) (omega arith))
