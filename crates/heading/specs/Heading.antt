-- Document 01, "Texts": the heading of a reference text or a record, a word, n and n tags, for any word, table of types and limit
-- on n: read, printed, and what may stand in it.
--     count_within limit number         this number, if there is one from 1 to the limit, else 0
--     stated_count limit field          the number of channels that the field states, 0 where it states none from 1 to the limit
--     and_code code codes               the code before the others, if it is that of a type
--     codes_of_tags types tags           the codes of the tags, if each is known
--     heading_fields word .. fields     the codes of a heading with these fields, if they are those of one
--     heading_of word limit types line  the codes of a heading, if the line is one
--     print_heading word types codes    the line of a heading
--     CodesWithin limit types codes    the codes that a heading may state
use Rattle.std.specs.Prelude.{ℕ, zero, suc, ◌≤◌, ◌<◌, ◌≡◌, true, cond, ◌&&◌, List, [], ◌∷◌, map, eqb, leb, ℤ, pos, negsuc, length, get_or}
use Rattle.std.proofs.Math.Option
use Rattle.std.proofs.Math.Option.{Option, none, some}
use Rattle.text.specs.Parts.{comma, cut, join, same}
use Rattle.number.specs.Number.{plain, print}
use Rattle.channel.specs.Channel.{Types, code_of, tag_of, known}

abbrev pub count_within : ℕ → Option ℤ → ℕ
count_within limit none = 0
count_within limit (some (pos n)) = cond (leb n limit) n 0
count_within limit (some (negsuc k)) = 0

unfoldable pub stated_count : ℕ → List ℕ → ℕ
stated_count limit field = count_within limit (plain field)

-- no type has the code 0
abbrev pub and_code : ℕ → Option (List ℕ) → Option (List ℕ)
and_code zero codes = none
and_code (suc k) codes = Option.map (λ (l : List ℕ). suc k ∷ l) codes

unfoldable pub codes_of_tags : Types → List (List ℕ) → Option (List ℕ)
codes_of_tags types [] = some []
codes_of_tags types (tag ∷ tags) = and_code (code_of types tag) (codes_of_tags types tags)

-- the fields of a heading: the word, n, and as many tags, n being 1 or more
unfoldable pub heading_fields : List ℕ → ℕ → Types → List (List ℕ) → Option (List ℕ)
heading_fields word limit types [] = none
heading_fields word limit types (first ∷ []) = none
heading_fields word limit types (first ∷ count ∷ tags) =
    cond (same first word && (leb 1 (stated_count limit count) && eqb (stated_count limit count) (length tags)))
    (codes_of_tags types tags) none

unfoldable pub heading_of : List ℕ → ℕ → Types → List ℕ → Option (List ℕ)
heading_of word limit types line = heading_fields word limit types (cut comma line)

unfoldable pub print_heading : List ℕ → Types → List ℕ → List ℕ
print_heading word types codes = join comma (word ∷ print (pos (length codes)) ∷ map (tag_of types) codes)

pub record CodesWithin (limit : ℕ) (types : Types) (codes : List ℕ) : Type 0 where
  pub some_channel : 1 ≤ length codes
  pub channels : length codes ≤ limit
  pub each_known : (k : ℕ) → k < length codes → known types (get_or codes k 0) ≡ true
