-- Where a byte stands in a part of a text, by the byte that the part starts with.
--     found_here, found_on     that byte is the one searched for, or is another
--     found_none               there is no byte
use Rattle.std.specs.Prelude.{ℕ, suc, ◌+◌, ◌<◌, ◌≤◌, ◌≡◌, List, eqb, length, take, drop, get_or}
use Rattle.std.proofs.Common.{sym, ap, ap₂, ◌∙◌, arith, add-one, eq-eqb, ne_eqb, drop-cons, drop_of_length-le, length-take-le}
use Rattle.std.proofs.lemmas.List.{get_or-take}
use Rattle.text.specs.Bytes.{index_of, index_after, slice}

module _ (c at to : ℕ) (s : List ℕ) (within : to ≤ length s) where
  first : at < to → index_of c (slice at to s) ≡ index_after (eqb (get_or s at 0) c) (index_of c (slice (at + 1) to s))
  unfolding slice index_of
  first h =
      ap (index_of c) (drop-cons (take to s) at 0 (omega (arith, length-take-le to s within)))
      ∙ ap₂ (λ b i. index_after (eqb b c) (index_of c (drop i (take to s)))) (get_or-take to s at 0 h) (sym (add-one at))

  pub found_here : at < to → get_or s at 0 ≡ c → index_of c (slice at to s) ≡ 0
  found_here h e = first h ∙ ap (λ t. index_after t (index_of c (slice (at + 1) to s))) (eq-eqb (get_or s at 0) c e)

  pub found_on : at < to → (get_or s at 0 ≡ c → ⊥) → at + index_of c (slice at to s) ≡ at + 1 + index_of c (slice (at + 1) to s)
  found_on h e =
      let next : index_of c (slice at to s) ≡ suc (index_of c (slice (at + 1) to s)) =
      first h ∙ ap (λ t. index_after t (index_of c (slice (at + 1) to s))) (ne_eqb (get_or s at 0) c e) in
      omega arith

  pub found_none : to ≤ at → index_of c (slice at to s) ≡ 0
  unfolding slice index_of
  found_none h = ap (index_of c) (drop_of_length-le (take to s) (omega (arith, length-take-le to s within)))
