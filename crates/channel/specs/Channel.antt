-- Document 01, "Channel types": code, tag, low and high of each type. A table of types is what is found in it: nothing outside this
-- crate sees a list.
--     ChannelType               a type
--     no_type                    what stands for the type of a code that no type has
--     Types                     a table of types
--     code_of types tag          the code of the type with this tag, 0 where there is none
--     type_of types code         the type with this code
--     tag_of types code          the tag of the type with this code
--     known types code          there is a type with this code
--     codes_known types codes    each of these is the code of a type
--     code_in, type_in, known_in   the same of a list of types
--     types_of list              the table with the types of a list
--     house_types, channel_types  document 01's types, and the table of them
--     house_count                how many they are
use Rattle.std.specs.Prelude.{ℕ, Bool, true, false, cond, ◌&&◌, ◌||◌, List, [], ◌∷◌, eqb, ℤ, pos, neg_ℤ}
use Rattle.text.specs.Ascii.{ascii}
use Rattle.text.specs.Parts.{same}

pub record ChannelType : Type 0 where
  pub code : ℕ
  pub tag : List ℕ
  pub low : ℤ
  pub high : ℤ

abbrev pub no_type : ChannelType
no_type = record { code = 0; tag = []; low = pos 0; high = pos 0 }

-- ---- a table of types

pub record Types : Type 0 where
  pub code_of_tag : List ℕ → ℕ
  pub type_of_code : ℕ → ChannelType
  pub is_known : ℕ → Bool

-- a code that is found counts where it is known
unfoldable pub code_of : Types → List ℕ → ℕ
code_of types tag = let code = types.code_of_tag tag in cond (types.is_known code) code 0

unfoldable pub type_of : Types → ℕ → ChannelType
type_of types code = types.type_of_code code

abbrev pub tag_of : Types → ℕ → List ℕ
tag_of types code = (type_of types code).tag

unfoldable pub known : Types → ℕ → Bool
known types code = types.is_known code

unfoldable pub codes_known : Types → List ℕ → Bool
codes_known types [] = true
codes_known types (code ∷ codes) = known types code && codes_known types codes

-- ---- the table of a list

-- compared as bytes, exactly
unfoldable pub code_in : List ChannelType → List ℕ → ℕ
unfolding same
code_in [] tag = 0
code_in (t ∷ list) tag = cond (same t.tag tag) t.code (code_in list tag)

unfoldable pub type_in : List ChannelType → ℕ → ChannelType
type_in [] code = no_type
type_in (t ∷ list) code = cond (eqb t.code code) t (type_in list code)

unfoldable pub known_in : List ChannelType → ℕ → Bool
known_in [] code = false
known_in (t ∷ list) code = eqb t.code code || known_in list code

abbrev pub types_of : List ChannelType → Types
types_of list = record { code_of_tag = code_in list; type_of_code = type_in list; is_known = known_in list }

-- the step is left out, since no rule uses it
unfoldable pub house_types : List ChannelType
house_types =
    record { code = 1; tag = ascii "TOC"; low = pos 0; high = pos 2000 }
    ∷ record { code = 2; tag = ascii "TC"; low = pos 0; high = pos 4000 }
    ∷ record { code = 3; tag = ascii "IC"; low = pos 0; high = pos 4000 }
    ∷ record { code = 4; tag = ascii "CND"; low = pos 0; high = pos 4000 }
    ∷ record { code = 5; tag = ascii "TMP"; low = neg_ℤ (pos 200); high = pos 1500 }
    ∷ record { code = 6; tag = ascii "PH"; low = pos 0; high = pos 1400 }
    ∷ record { code = 7; tag = ascii "FLW"; low = pos 0; high = pos 4000 }
    ∷ record { code = 8; tag = ascii "ORP"; low = neg_ℤ (pos 2000); high = pos 2000 }
    ∷ []

abbrev pub house_count : ℕ
house_count = 8

abbrev pub channel_types : Types
channel_types = types_of house_types
