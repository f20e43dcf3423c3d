-- Laws of tables of channel types, for any table that is sound; a list of types gives a sound table where it passes a test which is computed.
--     sound_range t              the type's range has 0 and reaches no farther from it than a coordinate may
--     sound_type t               the type's code is above 0, its tag is a label, its range is sound
--     alone t types             no type of a list has the code or the tag of t
--     sound_list types           the test: each type of a list is sound, and has a code and a tag of its own
--     FoundType                 the type of a code is a sound type with this code, or there is none
--     SoundTypes types          each type is sound, a code has one tag, and a tag one code
--     types_of_code              the code of a tag in the table of a list is that in the list
--     types_of_sound             the table of a list that passes the test is sound
--     house_sound               document 01's table is
--     known_code                the code that a tag has is known
--     known_type                a code is known where its type has a code above 0
--     known_some                a known code is above 0
--     tag_label                 the tag of a known code is a label
--     Known types code          the code is known
--     tags_free                 no byte that stands in no label stands in the tags of known codes
--     range_within, range_zero  every range is within 4,000 of 0, and has 0
--     code_tag, tag_code        a code has one tag, and a tag one code
use Rattle.std.specs.Prelude.{ℕ, zero, suc, ◌-◌, ◌≤◌, ◌≡◌, refl, Bool, true, false, not, cond, ◌&&◌, ◌||◌, List, [], ◌∷◌, map, ◌⊎◌, eqb, leb, ℤ, pos, negsuc, neg_ℤ, nat_abs}
use Rattle.std.proofs.Common.{sym, ap, subst, ◌∙◌, inl, inr, ⊎_elim, arith, leb-true, eqb-true, eq-eqb}
use Rattle.std.proofs.Math.Bool.{or-true}
use Rattle.std.proofs.lemmas.Bool.{not-true}
use Rattle.std.specs.Int.Signed.{le_z}
use Rattle.limits.specs.Limits.{coordinate_limit}
use Rattle.text.specs.Parts.{same, all_free}
use Rattle.integers.specs.Tests.{both, clash}
use Rattle.lists.specs.Each.{Each, each_head, each_tail}
use Rattle.text.specs.PartsLaws.{same_refl, same_eq}
use Rattle.label.specs.Label.{is_label, is_label_byte, label_bytes}
use Rattle.label.specs.LabelLaws.{label-free}
use Rattle.channel.specs.Channel.{ChannelType, no_type, Types, code_of, type_of, tag_of, known, code_in, type_in, known_in, types_of, house_types, channel_types}

-- ---- a sound table

abbrev pub sound_range : ChannelType → Bool
sound_range t =
    (le_z (neg_ℤ (pos coordinate_limit)) t.low && le_z t.low (pos 0))
    && (le_z (pos 0) t.high && le_z t.high (pos coordinate_limit))

abbrev pub sound_type : ChannelType → Bool
sound_type t = (leb 1 t.code && is_label t.tag) && sound_range t

-- t is a sound type with this code, or stands for none
abbrev pub FoundType : Bool → ℕ → ChannelType → Type 0
FoundType is_known code t = ((sound_type t ≡ true) × (t.code ≡ code) × (is_known ≡ true)) ⊎ ((t ≡ no_type) × (is_known ≡ false))

pub record SoundTypes (types : Types) : Type 0 where
  pub found : (code : ℕ) → FoundType (known types code) code (type_of types code)
  pub one_tag : (code : ℕ) → known types code ≡ true → code_of types (type_of types code).tag ≡ code
  pub one_code : (tag : List ℕ) (k : ℕ) → code_of types tag ≡ suc k → (type_of types (suc k)).tag ≡ tag

-- ---- the table of a list

-- no type of the table has the code or the tag of t
abbrev pub alone : ChannelType → List ChannelType → Bool
alone t types = not (known_in types t.code) && eqb (code_in types t.tag) 0

unfoldable pub sound_list : List ChannelType → Bool
sound_list [] = true
sound_list (t ∷ types) = (sound_type t && alone t types) && sound_list types

-- what the test of a type says, but for its range
form : (t : ChannelType) → sound_type t ≡ true → (leb 1 t.code ≡ true) × (is_label t.tag ≡ true)
form t h = both (leb 1 t.code) (is_label t.tag) (both (leb 1 t.code && is_label t.tag) (sound_range t) h).0

-- what the test says of the first type and those after it
record First (t : ChannelType) (types : List ChannelType) : Type 0 where
  sound : sound_type t ≡ true
  code_new : known_in types t.code ≡ false
  tag_new : code_in types t.tag ≡ 0
  rest : sound_list types ≡ true

first : (t : ChannelType) (types : List ChannelType) → sound_list (t ∷ types) ≡ true → First t types
unfolding sound_list
first t types h =
    let whole = both (sound_type t && alone t types) (sound_list types) h in
    let here = both (sound_type t) (alone t types) whole.0 in
    let new = both (not (known_in types t.code)) (eqb (code_in types t.tag) 0) here.1 in
    record {
      sound = here.0;
      code_new = not-true (known_in types t.code) new.0;
      tag_new = eqb-true (code_in types t.tag) 0 new.1;
      rest = whole.1;
    }

-- either way 0
cond_same : (b : Bool) → ◌≡◌ {A = ℕ} (cond b 0 0) 0
cond_same true = refl
cond_same false = refl

list_code : (types : List ChannelType) (tag : List ℕ) (k : ℕ) → code_in types tag ≡ suc k → known_in types (suc k) ≡ true
unfolding code_in known_in
list_code [] tag k e = absurd (omega arith)
list_code (t ∷ types) tag k e = go (same t.tag tag) e (list_code types tag k)
  where
    go : (b : Bool) → cond b t.code (code_in types tag) ≡ suc k → (code_in types tag ≡ suc k → known_in types (suc k) ≡ true)
        → (eqb t.code (suc k) || known_in types (suc k)) ≡ true
    go true e r = ap (λ b. b || known_in types (suc k)) (eq-eqb t.code (suc k) e)
    go false e r = ap (λ b. eqb t.code (suc k) || b) (r e) ∙ or-true (eqb t.code (suc k))

list_found : (types : List ChannelType) → sound_list types ≡ true → (code : ℕ) → FoundType (known_in types code) code (type_in types code)
unfolding type_in known_in
list_found [] h code = inr (refl, refl)
list_found (t ∷ types) h code = go (eqb t.code code) refl (list_found types (first t types h).rest code)
  where
    go : (b : Bool) → eqb t.code code ≡ b → FoundType (known_in types code) code (type_in types code)
        → FoundType (b || known_in types code) code (cond b t (type_in types code))
    go true e r = inl ((first t types h).sound, eqb-true t.code code e, refl)
    go false e r = r

list_some : (types : List ChannelType) → sound_list types ≡ true → (code : ℕ) → known_in types code ≡ true → 1 ≤ code
list_some types h code k =
    ⊎_elim (λ f. subst (λ n. 1 ≤ n) f.1 (leb-true 1 (type_in types code).code (form (type_in types code) f.0).0)) (λ n. clash k n.1) (list_found types h code)

list_code_tag : (types : List ChannelType) → sound_list types ≡ true → (code : ℕ) → known_in types code ≡ true
    → code_in types (type_in types code).tag ≡ code
unfolding code_in type_in known_in
list_code_tag [] h code k = clash k refl
list_code_tag (t ∷ types) h code k = go (eqb t.code code) refl k (list_code_tag types (first t types h).rest code)
  where
    u : ChannelType
    u = type_in types code

    other : (b : Bool) → same t.tag u.tag ≡ b → known_in types code ≡ true → code_in types u.tag ≡ code
        → cond b t.code (code_in types u.tag) ≡ code
    other true e k r =
        let f = first t types h in
        let z : code_in types u.tag ≡ 0 = ap (code_in types) (sym (same_eq t.tag u.tag e)) ∙ f.tag_new in
        absurd (omega (arith, list_some types f.rest code k))
    other false e k r = r

    go : (b : Bool) → eqb t.code code ≡ b → (b || known_in types code) ≡ true → (known_in types code ≡ true → code_in types u.tag ≡ code)
        → cond (same t.tag (cond b t u).tag) t.code (code_in types (cond b t u).tag) ≡ code
    go true e k r = ap (λ s. cond s t.code (code_in types t.tag)) (same_refl t.tag) ∙ eqb-true t.code code e
    go false e k r = other (same t.tag u.tag) refl k (r k)

list_tag_code : (types : List ChannelType) → sound_list types ≡ true → (tag : List ℕ) (k : ℕ) → code_in types tag ≡ suc k
    → (type_in types (suc k)).tag ≡ tag
unfolding code_in type_in
list_tag_code [] h tag k e = absurd (omega arith)
list_tag_code (t ∷ types) h tag k e = go (same t.tag tag) refl e (list_tag_code types (first t types h).rest tag k)
  where
    u : ChannelType
    u = type_in types (suc k)

    other : (b : Bool) → eqb t.code (suc k) ≡ b → known_in types (suc k) ≡ true → u.tag ≡ tag → (cond b t u).tag ≡ tag
    other true e k' r = clash k' (ap (known_in types) (sym (eqb-true t.code (suc k) e)) ∙ (first t types h).code_new)
    other false e k' r = r

    go : (b : Bool) → same t.tag tag ≡ b → cond b t.code (code_in types tag) ≡ suc k → (code_in types tag ≡ suc k → u.tag ≡ tag)
        → (cond (eqb t.code (suc k)) t u).tag ≡ tag
    go true s e r = ap (λ b. (cond b t u).tag) (eq-eqb t.code (suc k) e) ∙ same_eq t.tag tag s
    go false s e r = other (eqb t.code (suc k)) refl (list_code types tag k e) (r e)

-- a code that is found in a list is known in it
pub types_of_code : (list : List ChannelType) (tag : List ℕ) → code_of (types_of list) tag ≡ code_in list tag
unfolding code_of
types_of_code list tag = go (code_in list tag) refl
  where
    go : (code : ℕ) → code_in list tag ≡ code → cond (known_in list code) code 0 ≡ code
    go zero e = cond_same (known_in list 0)
    go (suc k) e = ap (λ (b : Bool). cond b (suc k) 0) (list_code list tag k e)

pub types_of_sound : (list : List ChannelType) → sound_list list ≡ true → SoundTypes (types_of list)
unfolding type_of known
types_of_sound list h =
    record {
      found = list_found list h;
      one_tag = λ code k. types_of_code list (type_in list code).tag ∙ list_code_tag list h code k;
      one_code = λ tag k e. list_tag_code list h tag k (sym (types_of_code list tag) ∙ e);
    }

pub house_sound : SoundTypes channel_types
unfolding sound_list house_types code_in known_in same is_label label_bytes
house_sound = types_of_sound house_types refl

-- ---- what a sound table gives

pub known_code : (types : Types) (tag : List ℕ) (k : ℕ) → code_of types tag ≡ suc k → known types (suc k) ≡ true
unfolding code_of known
known_code types tag k = go (types.is_known (types.code_of_tag tag)) refl
  where
    go : (b : Bool) → types.is_known (types.code_of_tag tag) ≡ b → cond b (types.code_of_tag tag) 0 ≡ suc k → types.is_known (suc k) ≡ true
    go true h e = ap types.is_known (sym e) ∙ h
    go false h e = absurd (omega arith)

pub code_tag : (types : Types) → SoundTypes types → (code : ℕ) → known types code ≡ true → code_of types (type_of types code).tag ≡ code
code_tag types h = h.one_tag

pub tag_code : (types : Types) → SoundTypes types → (tag : List ℕ) (k : ℕ) → code_of types tag ≡ suc k → (type_of types (suc k)).tag ≡ tag
tag_code types h = h.one_code

-- both ends of a sound range
ends : (t : ChannelType) → sound_range t ≡ true
    → ((le_z (neg_ℤ (pos coordinate_limit)) t.low ≡ true) × (le_z t.low (pos 0) ≡ true))
    × ((le_z (pos 0) t.high ≡ true) × (le_z t.high (pos coordinate_limit) ≡ true))
ends t h =
    let lowest = le_z (neg_ℤ (pos coordinate_limit)) t.low in
    let low-zero = le_z t.low (pos 0) in
    let zero_high = le_z (pos 0) t.high in
    let highest = le_z t.high (pos coordinate_limit) in
    let e = both (lowest && low-zero) (zero_high && highest) h in
    (both lowest low-zero e.0, both zero_high highest e.1)

low_within : (z : ℤ) → (le_z (neg_ℤ (pos coordinate_limit)) z ≡ true) × (le_z z (pos 0) ≡ true) → nat_abs z ≤ coordinate_limit
low_within (pos n) h = omega (arith, leb-true n 0 h.1)
low_within (negsuc n) h = omega (arith, leb-true n (coordinate_limit - 1) h.0)

high_within : (z : ℤ) → (le_z (pos 0) z ≡ true) × (le_z z (pos coordinate_limit) ≡ true) → nat_abs z ≤ coordinate_limit
high_within (pos n) h = leb-true n coordinate_limit h.1
high_within (negsuc n) h = clash h.0 refl

module _ (types : Types) (h : SoundTypes types) (code : ℕ) where
  known_sound : known types code ≡ true → (sound_type (type_of types code) ≡ true) × ((type_of types code).code ≡ code)
  known_sound k = ⊎_elim (λ f. (f.0, f.1)) (λ n. clash k n.1) (h.found code)

  -- what the test says of the type of a known code, but for its range
  known-form : known types code ≡ true → (leb 1 (type_of types code).code ≡ true) × (is_label (type_of types code).tag ≡ true)
  known-form k = form (type_of types code) (known_sound k).0

  pub known_type : known types code ≡ leb 1 (type_of types code).code
  known_type =
      ⊎_elim (λ f. f.2 ∙ sym (form (type_of types code) f.0).0) (λ n. n.1 ∙ sym (ap (λ (t : ChannelType). leb 1 t.code) n.0))
      (h.found code)

  pub known_some : known types code ≡ true → 1 ≤ code
  known_some k = subst (λ n. 1 ≤ n) (known_sound k).1 (leb-true 1 (type_of types code).code (known-form k).0)

  pub tag_label : known types code ≡ true → is_label (type_of types code).tag ≡ true
  tag_label k = (known-form k).1

  range_sound : sound_range (type_of types code) ≡ true
  range_sound =
      let t = type_of types code in
      ⊎_elim (λ f. (both (leb 1 t.code && is_label t.tag) (sound_range t) f.0).1) (λ n. ap sound_range n.0) (h.found code)

  pub range_zero : (le_z (type_of types code).low (pos 0) ≡ true) × (le_z (pos 0) (type_of types code).high ≡ true)
  range_zero = ((ends (type_of types code) range_sound).0.1, (ends (type_of types code) range_sound).1.0)

  pub range_within : (nat_abs (type_of types code).low ≤ coordinate_limit) × (nat_abs (type_of types code).high ≤ coordinate_limit)
  range_within =
      let e = ends (type_of types code) range_sound in
      (low_within (type_of types code).low e.0, high_within (type_of types code).high e.1)

abbrev pub Known : Types → ℕ → Type 0
Known types code = known types code ≡ true

pub tags_free : (types : Types) → SoundTypes types → (c : ℕ) → is_label_byte c ≡ false → (codes : List ℕ) → Each (Known types) 0 codes
    → all_free c (map (tag_of types) codes) ≡ true
unfolding all_free
tags_free types sound c h [] known-each = refl
tags_free types sound c h (code ∷ codes) known-each =
    let here = each_head (Known types) 0 code codes known-each in
    rw (label-free c (tag_of types code) h (tag_label types sound code here))
    (tags_free types sound c h codes (each_tail (Known types) 0 code codes known-each))
