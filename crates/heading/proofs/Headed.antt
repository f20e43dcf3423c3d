-- What the answer to a line says of it as a heading.
--     codes_in h       the codes of a heading
--     Headed          the line is a heading with these codes
--     headed          so it is where the answer is one
--     not_headed      the line is no heading where the answer is none
use Prim.Native.Nat.{ℕ, ◌≤◌}
use mathlib.Core.Path.{◌≡◌, refl, sym, ap, ◌∙◌}
use mathlib.Core.List.{List}
use mathlib.Core.Option.{Option, none, some}
use Rattle.std.specs.Prelude.{None, Some}
use native.Mathlib.Omega.{arith}
use lib.ListN.{length, take}
use Rattle.lists.specs.Padded.{padded, padded-take, padded-length}
use Rattle.limits.specs.Limits.{channel_limit}
use Rattle.channel.specs.Channel.{Types}
use Rattle.heading.specs.Heading.{heading_of}
use Rattle.heading.specs.HeadingLaws.{heading-within}
use Rattle.heading.specs.Clauses.{heading_read}
use Rattle.heading.specs.declared.Heading.{Heading}

abbrev pub codes_in : Heading → List ℕ
codes_in h = take h.n h.codes

pub record Headed (word : List ℕ) (types : Types) (line : List ℕ) (h : Heading) : Type 0 where
  pub some_channel : 1 ≤ h.n
  pub channels : h.n ≤ channel_limit
  pub typed : length h.codes ≡ channel_limit
  pub is : h ≡ record { n = length (codes_in h); codes = padded channel_limit (codes_in h) }
  pub codes : heading_of word channel_limit types line ≡ some (codes_in h)

module _ (word : List ℕ) (types : Types) (line : List ℕ) where
  pub headed : (h : Heading) → Some h ≡ heading_read (heading_of word channel_limit types line) → Headed word types line h
  headed h e = go (heading_of word channel_limit types line) refl
    where
      go : (o : Option (List ℕ)) → heading_of word channel_limit types line ≡ o → Headed word types line h
      go none f = let unlike : Some h ≡ None = e ∙ ap heading_read f in cc
      go (some codes) f =
          let read : Some h ≡ Some (record { n = length codes; codes = padded channel_limit codes }) = e ∙ ap heading_read f in
          let is : h ≡ record { n = length codes; codes = padded channel_limit codes } = cc in
          let within = heading-within types word channel_limit line codes f in
          let first : codes_in h ≡ codes = ap codes_in is ∙ padded-take channel_limit codes within.channels in
          let long : h.n ≡ length codes = ap (λ g. g.n) is in
          record {
            some_channel = omega arith;
            channels = omega arith;
            typed = ap (λ g. length g.codes) is ∙ padded-length channel_limit codes;
            is = is ∙ ap (λ l. record { n = length l; codes = padded channel_limit l }) (sym first);
            codes = f ∙ ap some (sym first);
          }

  pub not_headed : None ≡ heading_read (heading_of word channel_limit types line) → heading_of word channel_limit types line ≡ none
  not_headed e = go (heading_of word channel_limit types line) e
    where
      go : (o : Option (List ℕ)) → None ≡ heading_read o → o ≡ none
      go none f = refl
      go (some codes) f = cc
