-- Laws of tags in three places.
--     ShortTags types          every tag of the table has at most three bytes
--     house_short              document 01's table has such tags
--     house_tag                so has the type at each place of its list
--     type_short               and the tag of each code of a table with short tags
--     TagsApart b types        no tag of the table starts with this byte
--     house_apart              none of document 01's starts with `N`
--     house_free               no comma stands in document 01's tags
--     tag_within               what holds a tag in three places counts at most three
--     tag_taken, tag_length    the first of the three places hold the tag, as many as its length
--     tag_first                what is compared with them is compared with the tag
use Prim.Native.Nat.{ℕ, zero, suc, ◌≤◌}
use Rattle.std.specs.Prelude.{◌≡◌, refl, Bool, not, cond, ◌&&◌, eqb, leb, length, get_or, take}
use Rattle.std.proofs.Common.{sym, ap, ap₂, subst, ◌∙◌, leb-true}
use Rattle.std.proofs.Math.Bool.{true, false}
use mathlib.Core.List.{List, [], ◌∷◌}
use Rattle.std.proofs.lemmas.Bool.{not-true}
use Rattle.integers.specs.Tests.{both}
use Rattle.lists.specs.Padded.{padded-take}
use Rattle.text.specs.Ascii.{byte}
use Rattle.text.specs.Parts.{comma, same, free}
use Rattle.channel.specs.Channel.{ChannelType, no_type, Types, type_of, tag_of, type_in, types_of, house_types, channel_types}
use Rattle.channel.specs.Clauses.{Tag, tag_places}
use Rattle.limits.specs.Limits.{tag_limit}

pub record ShortTags (types : Types) : Type 0 where
  pub short : (code : ℕ) → length (tag_of types code) ≤ tag_limit

-- ---- what a test of every tag of a list says

every_tag : (List ℕ → Bool) → List ChannelType → Bool
every_tag test [] = true
every_tag test (t ∷ list) = test t.tag && every_tag test list

module _ (test : List ℕ → Bool) (none : test [] ≡ true) where
  tag_at : (list : List ChannelType) → every_tag test list ≡ true → (at : ℕ) → test (get_or list at no_type).tag ≡ true
  unfolding every_tag
  tag_at [] h at = none
  tag_at (t ∷ list) h zero = (both (test t.tag) (every_tag test list) h).0
  tag_at (t ∷ list) h (suc at) = tag_at list (both (test t.tag) (every_tag test list) h).1 at

  tag_in_lem : (list : List ChannelType) → every_tag test list ≡ true → (code : ℕ) → test (type_in list code).tag ≡ true
  unfolding every_tag type_in
  tag_in_lem [] h code = none
  tag_in_lem (t ∷ list) h code = go (eqb t.code code) (tag_in_lem list (both (test t.tag) (every_tag test list) h).1 code)
    where
      go : (b : Bool) → test (type_in list code).tag ≡ true → test (cond b t (type_in list code)).tag ≡ true
      go true r = (both (test t.tag) (every_tag test list) h).0
      go false r = r

  every_tag_lem : (list : List ChannelType) → every_tag test list ≡ true → (code : ℕ) → test (tag_of (types_of list) code) ≡ true
  unfolding type_of
  every_tag_lem = tag_in_lem

-- ---- document 01's tags

abbrev is_short : List ℕ → Bool
is_short tag = leb (length tag) tag_limit

house_list : every_tag is_short house_types ≡ true
unfolding every_tag house_types
house_list = refl

pub house_short : ShortTags channel_types
house_short = record { short = λ code. leb-true (length (tag_of channel_types code)) tag_limit (every_tag_lem is_short refl house_types house_list code) }

pub house_tag : (at : ℕ) → length (get_or house_types at no_type).tag ≤ tag_limit
house_tag at = leb-true (length (get_or house_types at no_type).tag) tag_limit (tag_at is_short refl house_types house_list at)

pub type_short : (types : Types) → ShortTags types → (code : ℕ) → length (tag_of types code) ≤ tag_limit
type_short types h = h.short

pub record TagsApart (b : ℕ) (types : Types) : Type 0 where
  pub apart : (code : ℕ) → eqb (get_or (tag_of types code) 0 0) b ≡ false

-- the test of one tag
abbrev is_apart : ℕ → List ℕ → Bool
is_apart b tag = not (eqb (get_or tag 0 0) b)

pub house_apart : TagsApart (byte "N") channel_types
unfolding every_tag house_types
house_apart = record { apart = λ code. not-true (eqb (get_or (tag_of channel_types code) 0 0) (byte "N")) (every_tag_lem (is_apart (byte "N")) refl house_types refl code) }

pub house_free : (code : ℕ) → free comma (tag_of channel_types code) ≡ true
unfolding every_tag house_types free
house_free code = every_tag_lem (free comma) refl house_types refl code

-- ---- a tag in three places

module _ (r : Tag) (tag : List ℕ) (e : r ≡ tag_places tag) (short : length tag ≤ tag_limit) where
  pub tag_within : r.length ≤ tag_limit
  tag_within = subst (λ (t : Tag). t.length ≤ tag_limit) (sym e) short

  pub tag_taken : take r.length r.bytes ≡ tag
  tag_taken = ap (λ (t : Tag). take t.length t.bytes) e ∙ padded-take tag_limit tag short

  pub tag_length : r.length ≡ length tag
  tag_length = ap (λ (t : Tag). t.length) e

  pub tag_first : (l : List ℕ) → same (take r.length r.bytes) (take r.length l) ≡ same tag (take (length tag) l)
  tag_first l = ap₂ (λ t k. same t (take k l)) tag_taken tag_length
