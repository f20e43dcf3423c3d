-- `agreement::same_places` meets its contract: the lists of the first places are the same exactly where each of those places is.
use Rattle.std.specs.Prelude.{ℕ, zero, suc, ◌≡◌, ◌≤◌, true, refl, List, ℤ, pos, get_or, length, take}
use Rattle.std.proofs.Common.{sym, ap, ◌∙◌, arith, add-one}
use Rattle.std.proofs.lemmas.List.{take_more_same}
use Rattle.std.proofs.Math.Seq.{get_or-take}
use Rattle.std.proofs.lemmas.Bool.Decides.{same_from_decides}
use Rattle.std.specs.Cmp.Rules.{signed_items}
use Rattle.integers.specs.Tests.{both, same_integer, integer_eq}
use Rattle.geometry.specs.Places.{centre_of}
use Rattle.agreement.specs.Agreement.{same_places}
use Rattle.agreement.specs.AgreementLaws.{same_places_by}
use Rattle.agreement.proofs.same_places.Goals as goal

module _ (a b : List ℤ) where
  same-taken : (n : ℕ) → n ≤ length a → n ≤ length b → same_places n a b ≡ true → take n a ≡ take n b
  unfolding same_places
  same-taken zero la lb h = refl
  same-taken (suc n) la lb h =
      let parts = both (same_places n a b) (same_integer (centre_of a n) (centre_of b n)) h in
      rw (← add-one n)
      (take_more_same a b n (pos 0) (omega arith) (omega arith) (same-taken n (omega arith) (omega arith) parts.0)
      (integer_eq (centre_of a n) (centre_of b n) parts.1))

  taken-same : (n : ℕ) → take n a ≡ take n b → same_places n a b ≡ true
  taken-same n e =
      same_places_by a b n (λ j l. sym (get_or-take n a j (pos 0) l) ∙ ap (λ xs. get_or xs j (pos 0)) e ∙ get_or-take n b j (pos 0) l)

pub returns : goal.returns
returns c =
    let a = c.args.a.now in
    let b = c.args.b.now in
    let n = c.args.n in
    c.eq.ensures
    ∙ same_from_decides _ (same_places n a b) (signed_items (take n a) (take n b))
    (same-taken a b n (omega arith) (omega arith), taken-same a b n)
