-- Laws of codes of which each is that of a type, for any table of types.
--     codes_each, each_codes      known codes, code by code
--     codes_next, codes_fail      one code more, and a code of no type, as a loop over the codes meets them
use Rattle.std.specs.Prelude.{ℕ, ◌+◌, ◌≤◌, ◌<◌, ◌≡◌, true, false, length, get_or, take}
use Rattle.std.proofs.Math.Path.{refl, ap₂}
use Rattle.std.proofs.Common.{sym, ap, ◌∙◌, not-suc-le-zero, add-one, arith, take-suc, get_or-take, length-take-le}
use Rattle.std.proofs.Math.Bool.{◌&&◌}
use mathlib.Core.List.{List, [], ◌∷◌, ◌++◌}
use Rattle.integers.specs.Tests.{both, clash, refuted}
use Rattle.lists.specs.Each.{Each, each_cons, each_head, each_tail, each_append}
use Rattle.channel.specs.Channel.{Types, known, codes_known}
use Rattle.channel.specs.ChannelLaws.{Known}

module _ (types : Types) where
  pub codes_each : (codes : List ℕ) → codes_known types codes ≡ true → Each (Known types) 0 codes
  unfolding codes_known
  codes_each [] h = λ k l. absurd (not-suc-le-zero l)
  codes_each (code ∷ codes) h =
      let parts = both (known types code) (codes_known types codes) h in
      each_cons (Known types) 0 code codes parts.0 (codes_each codes parts.1)

  pub each_codes : (codes : List ℕ) → Each (Known types) 0 codes → codes_known types codes ≡ true
  unfolding codes_known
  each_codes [] e = refl
  each_codes (code ∷ codes) e = ap₂ ◌&&◌ (each_head (Known types) 0 code codes e) (each_codes codes (each_tail (Known types) 0 code codes e))

  pub codes_next : (codes : List ℕ) (i : ℕ) → i < length codes → codes_known types (take i codes) ≡ true → Known types (get_or codes i 0)
      → codes_known types (take (i + 1) codes) ≡ true
  codes_next codes i l h k =
      let code = get_or codes i 0 in
      let last = each_cons (Known types) 0 code [] k (λ _ b. absurd (not-suc-le-zero b)) in
      ap (codes_known types) (ap (λ j. take j codes) (add-one i) ∙ take-suc codes i 0 l)
      ∙ each_codes (take i codes ++ (code ∷ [])) (each_append (Known types) 0 (take i codes) (code ∷ []) (codes_each (take i codes) h) last)

  -- the code at a place of the first n
  taken_known : (codes : List ℕ) (n : ℕ) → n ≤ length codes → codes_known types (take n codes) ≡ true → (k : ℕ) → k < n → Known types (get_or codes k 0)
  taken_known codes n l h k b =
      ap (known types) (sym (get_or-take n codes k 0 b)) ∙ codes_each (take n codes) h k (omega (arith, length-take-le n codes l))

  pub codes_fail : (codes : List ℕ) (n i : ℕ) → n ≤ length codes → i < n → known types (get_or codes i 0) ≡ false
      → false ≡ codes_known types (take n codes)
  codes_fail codes n i l b e = refuted (codes_known types (take n codes)) (λ h. clash (taken_known codes n l h i b) e)
