-- The code of a type and its place in document 01's table.
--     type_place     the type of a code stands at the place before its number
--     type_past      a code past the table has no type, and code 0 neither
--     place_last     a place of the table that is none of the first seven is the last
--     type_none      a code whose place is past the table has no type
--     some_place     the type at a place has a code above 0
--     known-place    a code is known where its place is one of the table's
--     code_step      the code of a tag is of the type at a place, or among those after it
use Prim.Native.Nat.{ℕ, zero, suc, ◌+◌, ◌-◌, ◌≤◌, ◌<◌}
use mathlib.Core.Path.{◌≡◌, refl, sym, ap, ◌∙◌}
use mathlib.Core.Bool.{Bool, true, cond, ◌&&◌}
use mathlib.Core.List.{List, [], ◌∷◌}
use native.Mathlib.Numerals.{add-one}
use native.Mathlib.Omega.{arith}
use borrow.Author.Tests.{eqb-true, eq-eqb, ne_eqb, le-ltb, lt-ltb}
use lib.Dec.{eqb, leb, ltb}
use lib.ListN.{length, get_or, drop, get_or-eq_default}
use lib.Seq.{drop-cons}
use Rattle.text.specs.Parts.{same}
use Rattle.integers.specs.Tests.{both, clash, Apart, apart_past}
use Rattle.channel.specs.Channel.{ChannelType, house_types, house_count, channel_types, code_in, no_type, type_in, type_of, known}
use Rattle.channel.specs.ChannelLaws.{house_sound, known_type}

-- ---- the place of a code

-- the codes count from i + 1
unfoldable counted : ℕ → List ChannelType → Bool
counted i [] = true
counted i (t ∷ types) = eqb t.code (suc i) && counted (suc i) types

counted_type : (types : List ChannelType) (i : ℕ) → counted i types ≡ true → (k : ℕ) → type_in types (suc (i + k)) ≡ get_or types k no_type
unfolding counted type_in
counted_type [] i h k = refl
counted_type (t ∷ types) i h zero =
    let e : t.code ≡ suc i = eqb-true t.code (suc i) (both (eqb t.code (suc i)) (counted (suc i) types) h).0 in
    ap (λ b. cond b t (type_in types (suc (i + 0)))) (eq-eqb t.code (suc (i + 0)) (omega arith))
counted_type (t ∷ types) i h (suc k) =
    let parts = both (eqb t.code (suc i)) (counted (suc i) types) h in
    let e : t.code ≡ suc i = eqb-true t.code (suc i) parts.0 in
    let n : suc (i + suc k) ≡ suc (suc i + k) = omega arith in
    ap (λ b. cond b t (type_in types (suc (i + suc k)))) (ne_eqb t.code (suc (i + suc k)) (λ d. omega arith))
    ∙ ap (type_in types) n
    ∙ counted_type types (suc i) parts.1 k

pub type_place : (code : ℕ) → 1 ≤ code → type_in house_types code ≡ get_or house_types (code - 1) no_type
unfolding house_types counted
type_place code h =
    let e : code ≡ suc (0 + (code - 1)) = omega arith in
    ap (type_in house_types) e ∙ counted_type house_types 0 refl (code - 1)

pub type_past : (code : ℕ) → (1 ≤ code → house_count < code) → type_in house_types code ≡ no_type
unfolding house_types type_in
type_past zero past = refl
type_past (suc code) past =
    type_place (suc code) (omega arith) ∙ get_or-eq_default house_types no_type {n = suc code - 1} (omega (arith, past (omega arith)))

pub place_last : (at : ℕ) → at < house_count → Apart (Unit {0}) at 0 7 → at ≡ 7
place_last at within apart = omega (arith, within, apart_past (Unit {0}) at 0 7 apart (omega arith))

-- ---- a code by its place

-- the code of a type is above 0, and past the table there is none
some_code : (at : ℕ) → leb 1 (get_or house_types at no_type).code ≡ ltb at house_count
unfolding house_types
some_code zero = refl
some_code (suc zero) = refl
some_code (suc (suc zero)) = refl
some_code (suc (suc (suc zero))) = refl
some_code (suc (suc (suc (suc zero)))) = refl
some_code (suc (suc (suc (suc (suc zero))))) = refl
some_code (suc (suc (suc (suc (suc (suc zero)))))) = refl
some_code (suc (suc (suc (suc (suc (suc (suc zero))))))) = refl
some_code (suc (suc (suc (suc (suc (suc (suc (suc at)))))))) = sym (le-ltb (suc (suc (suc (suc (suc (suc (suc (suc at)))))))) house_count (omega arith))

pub some_place : (at : ℕ) → at < house_count → (get_or house_types at no_type).code ≡ 0 → ⊥
some_place at h e = clash (some_code at ∙ lt-ltb at house_count h) (ap (leb 1) e)

module _ (code at : ℕ) (e : type_in house_types code ≡ get_or house_types at no_type) where
  pub type_none : house_count ≤ at → type_in house_types code ≡ no_type
  unfolding house_types
  type_none h = e ∙ get_or-eq_default house_types no_type h

  pub known-place : ltb at house_count ≡ known channel_types code
  unfolding type_of
  known-place = sym (known_type channel_types house_sound code ∙ ap (λ (t : ChannelType). leb 1 t.code) e ∙ some_code at)

-- ---- the code of a tag

pub code_step : (types : List ChannelType) (tag : List ℕ) (at : ℕ) → at < length types
    → code_in (drop at types) tag
    ≡ cond (same (get_or types at no_type).tag tag) (get_or types at no_type).code (code_in (drop (at + 1) types) tag)
unfolding code_in
code_step types tag at h =
    ap (λ l. code_in l tag) (drop-cons types at no_type h ∙ ap (λ k. get_or types at no_type ∷ drop k types) (sym (add-one at)))
