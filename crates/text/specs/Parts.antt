-- Document 01, "Texts": the parts of a text between separators. Lines are the parts between the bytes 10, fields those between
-- the commas of a line. A byte is a number, a text a list of them.
--     comma, line_end               the bytes `,` and 10
--     text_within text              the text is not empty and has at most that many bytes; else 1
--     same a b                     a and b have the same bytes
--     extend b parts               the parts with the byte b before the first
--     cut c l                      the parts of l between its bytes c: one more than there are such bytes
--     join c parts                 the parts with a byte c between each two
--     free c l, all_free c parts    no byte c stands in l, in any of the parts
--     part_end c s at               where the part of s that starts at index at ends
--     parts_from c s at             the parts of s from index at on; none past the end
--     part_start c s at k           where part k, counted from 0, of s from index at on starts; past the end where there is no such part
use Rattle.std.specs.Prelude.{ℕ, zero, suc, ◌+◌, Bool, true, false, not, cond, ◌&&◌, List, [], ◌∷◌, ◌++◌, eqb, leb, length, drop}
use Rattle.text.specs.Bytes.{index_of}
use Rattle.limits.specs.Limits.{text_limit}
use Rattle.text.specs.Ascii.{byte}

abbrev pub comma : ℕ
comma = byte ","

abbrev pub line_end : ℕ
line_end = 10

abbrev pub text_within : List ℕ → Bool
text_within text = leb 1 (length text) && leb (length text) text_limit

unfoldable pub same : List ℕ → List ℕ → Bool
same [] [] = true
same [] (b ∷ l) = false
same (a ∷ k) [] = false
same (a ∷ k) (b ∷ l) = eqb a b && same k l

-- a byte put in front of the first part
unfoldable pub extend : ℕ → List (List ℕ) → List (List ℕ)
extend b [] = (b ∷ []) ∷ []
extend b (part ∷ rest) = (b ∷ part) ∷ rest

unfoldable pub cut : ℕ → List ℕ → List (List ℕ)
unfolding extend
cut c [] = [] ∷ []
cut c (b ∷ l) = cond (eqb b c) ([] ∷ cut c l) (extend b (cut c l))

unfoldable pub join : ℕ → List (List ℕ) → List ℕ
join c [] = []
join c (part ∷ []) = part
join c (part ∷ next ∷ rest) = part ++ (c ∷ join c (next ∷ rest))

unfoldable pub free : ℕ → List ℕ → Bool
free c [] = true
free c (b ∷ l) = not (eqb b c) && free c l

unfoldable pub all_free : ℕ → List (List ℕ) → Bool
all_free c [] = true
all_free c (part ∷ parts) = free c part && all_free c parts

-- at the next byte c, or at the end of s where there is none
unfoldable pub part_end : ℕ → List ℕ → ℕ → ℕ
part_end c s at = at + index_of c (drop at s)

unfoldable pub parts_from : ℕ → List ℕ → ℕ → List (List ℕ)
parts_from c s at = cond (leb at (length s)) (cut c (drop at s)) []

-- each part starts after the separator that ends the part before it
unfoldable pub part_start : ℕ → List ℕ → ℕ → ℕ → ℕ
part_start c s at zero = at
part_start c s at (suc k) = suc (part_end c s (part_start c s at k))
