-- A heading that is printed tag by tag.
--     tags_after types codes     the tags of the codes, each after a comma
--     tags_first, tags_more     those of no code, and of one more
--     heading-after             a heading is its word, n and the tags
use Prim.Native.Nat.{ℕ}
use mathlib.Core.Path.{◌≡◌, refl, sym, ap, ◌∙◌}
use mathlib.Core.List.{List, [], ◌∷◌, ◌++◌, map, map-append, append-nil, append_assoc}
use lib.IntN.{pos}
use lib.ListN.{length}
use Rattle.text.specs.Parts.{comma, join}
use Rattle.text.specs.PartsLaws.{join_more}
use Rattle.number.specs.Number.{print}
use Rattle.printing.specs.Clauses.{numbers_after}
use Rattle.channel.specs.Channel.{Types, tag_of}
use Rattle.heading.specs.Heading.{print_heading}

unfoldable pub tags_after : Types → List ℕ → List ℕ
tags_after types codes = join comma ([] ∷ map (tag_of types) codes)

module _ (types : Types) where
  pub tags_first : tags_after types [] ≡ []
  unfolding tags_after join
  tags_first = refl

  pub tags_more : (codes : List ℕ) (code : ℕ) → tags_after types codes ++ (comma ∷ tag_of types code) ≡ tags_after types (codes ++ (code ∷ []))
  unfolding tags_after
  tags_more codes code =
      sym (ap (λ (tags : List (List ℕ)). join comma ([] ∷ tags)) (map-append (tag_of types) codes (code ∷ []))
      ∙ join_more comma [] (tag_of types code) (map (tag_of types) codes))

  pub heading-after : (word codes : List ℕ) → numbers_after word (pos (length codes) ∷ []) ++ tags_after types codes ≡ print_heading word types codes
  unfolding tags_after numbers_after print_heading join
  heading-after word [] = append-nil (word ++ (comma ∷ print (pos 0)))
  heading-after word (code ∷ codes) =
      append_assoc word (comma ∷ print (pos (length (code ∷ codes)))) (comma ∷ join comma (map (tag_of types) (code ∷ codes)))
