-- Laws of fields that are read where they stand.
--     field_length, field_first          how long a field is, and its first byte
--     part_past                          a field ends where it does from after bytes among which no separator stands
--     word_within                        a word that stands at an index ends within the line
--     word_stands, word_other            whether a field is a word, by whether the word stands where the field starts
--     starts-here, starts_past           whether a byte stands at an index, within the line and past its end
--     field_led                          a field whose first byte is known is that byte and the field from the next index on
--     field_other                        a field starts with no byte that does not stand where the field starts
--     read_past                          what is read of a field, where its first byte tells how the rest is read
--     leading_on, leading_done           the bytes that pass a test from an index on: one more, and none
--     leading_end                        a field ends where the field after these bytes does
--     leading_whole                      one that ends with them is these bytes
--     leading_stopped                    any other is these bytes and then one that does not pass the test
use Prim.Native.Nat.{ℕ, zero, suc, ◌+◌, ◌-◌, ◌≤◌, ◌<◌}
use Rattle.std.specs.Prelude.{◌≡◌, Bool, ◌&&◌, eqb, length}
use Rattle.std.proofs.Math.Path.{refl, ap, ap₂}
use Rattle.std.proofs.Common.{sym, subst, ◌∙◌, add-one, arith, length-take, length-drop, drop_of_length-le, length-take-le, get_or-take, get_or-drop}
use Rattle.std.proofs.Math.Bool.{true, false, not, cond}
use mathlib.Core.List.{List, [], ◌∷◌, ◌++◌}
use borrow.Author.Tests.{eqb-true, eqb-false, ne_eqb, leb-true, leb-false}
use Rattle.std.proofs.Math.Dec.{leb}
use Rattle.std.proofs.Math.ListN.{get_or, take, drop}
use Rattle.std.proofs.Math.Seq.{drop-cons}
use Rattle.text.specs.Bytes.{index_of, index_after}
use Rattle.integers.specs.Tests.{clash, refuted}
use Rattle.text.specs.Parts.{comma, same, free, part_end}
use Rattle.text.specs.Clauses.{PartEnd, PastByte, FieldRead}
use Rattle.text.specs.PartsLaws.{part_at, same_eq, same_lengths, end_past}
use Rattle.text.specs.Fields.{starts_with, leading}

module _ (s : List ℕ) (at e : ℕ) (h : e ≤ length s) where
  pub field_length : length (part_at s at e) ≡ e - at
  field_length = length-take-le (e - at) (drop at s) (omega (arith, length-drop at s))

  pub field_first : at < e → get_or (part_at s at e) 0 0 ≡ get_or s at 0
  field_first k =
      let here : at + 0 ≡ at = omega arith in
      get_or-take (e - at) (drop at s) 0 0 (omega arith) ∙ get_or-drop at s 0 0 ∙ ap (λ i. get_or s i 0) here

-- ---- where no separator stands among the first bytes

pub part_past : (c : ℕ) (s : List ℕ) (at k e : ℕ) → free c (take k (drop at s)) ≡ true → PartEnd c s (at + k) e → PartEnd c s at e
part_past c s at k e f p =
    record { is = p.is ∙ end_past c s at k (omega (arith, p.low, p.high)) f; low = omega (arith, p.low); high = p.high }

-- ---- a word

pub word_within : (word s : List ℕ) (at : ℕ) → at ≤ length s → same word (take (length word) (drop at s)) ≡ true → at + length word ≤ length s
word_within word s at h k =
    omega (
      arith,
      ap (length {A = ℕ}) (same_eq word (take (length word) (drop at s)) k),
      length-take (length word) (drop at s),
      length-drop at s,
    )

module _ (word s : List ℕ) (at e : ℕ) where
  pub word_stands : (next : ℕ) → free comma word ≡ true → same word (take (length word) (drop at s)) ≡ true → next ≡ at + length word
      → PartEnd comma s next e → FieldRead (same word) s at (eqb e next) e
  word_stands next f h k p =
      let stands : take (length word) (drop at s) ≡ word = sym (same_eq word (take (length word) (drop at s)) h) in
      record {
        is = go (eqb e next) refl;
        ends = part_past comma s at (length word) e (ap (free comma) stands ∙ f) (subst (λ i. PartEnd comma s i e) k p);
      }
    where
      go : (t : Bool) → eqb e next ≡ t → t ≡ same word (part_at s at e)
      go true t =
          let many : e - at ≡ length word = omega (arith, eqb-true e next t) in
          sym (ap (λ i. same word (take i (drop at s))) many ∙ h)
      go false t =
          sym (same_lengths word (part_at s at e) (λ l. eqb-false e next t (omega (arith, l, field_length s at e p.high, p.low))))

  pub word_other : same word (take (length word) (drop at s)) ≡ false → PartEnd comma s at e → FieldRead (same word) s at false e
  word_other h p = record { is = refuted (same word (part_at s at e)) apart; ends = p }
    where
      apart : same word (part_at s at e) ≡ true → ⊥
      apart t =
          let field : word ≡ part_at s at e = same_eq word (part_at s at e) t in
          let many : e - at ≡ length word = omega (arith, ap (length {A = ℕ}) field, field_length s at e p.high) in
          clash (ap (λ i. same word (take i (drop at s))) (sym many) ∙ t) h

-- ---- the first byte

module _ (b : ℕ) (s : List ℕ) (at : ℕ) where
  pub starts-here : at < length s → starts_with b (drop at s) ≡ eqb (get_or s at 0) b
  starts-here h = ap (starts_with b) (drop-cons s at 0 h)

  pub starts_past : length s ≤ at → starts_with b (drop at s) ≡ false
  starts_past h = ap (starts_with b) (drop_of_length-le s h)

  -- where one does, the index is within the line
  starts-within : starts_with b (drop at s) ≡ true → at < length s
  starts-within h = go (leb (length s) at) refl
    where
      go : (t : Bool) → leb (length s) at ≡ t → at < length s
      go true e = clash h (starts_past (leb-true (length s) at e))
      go false e = leb-false (length s) at e

  pub field_led : (c e : ℕ) → (b ≡ c → ⊥) → starts_with b (drop at s) ≡ true → PartEnd c s (at + 1) e
      → PartEnd c s at e × (part_at s at e ≡ b ∷ part_at s (at + 1) e)
  unfolding part_end index_of
  field_led c e apart h p =
      let within = starts-within h in
      let is : get_or s at 0 ≡ b = eqb-true (get_or s at 0) b (sym (starts-here within) ∙ h) in
      let here : drop at s ≡ b ∷ drop (at + 1) s = drop-cons s at 0 within ∙ ap₂ (λ x k. x ∷ drop k s) is (sym (add-one at)) in
      let index : index_of c (drop at s) ≡ suc (index_of c (drop (at + 1) s)) =
      ap (index_of c) here ∙ ap (λ t. index_after t (index_of c (drop (at + 1) s))) (ne_eqb b c apart) in
      let one_more : e - at ≡ suc (e - (at + 1)) = omega (arith, p.low) in
      (record { is = omega (arith, p.is, index); low = omega (arith, p.low); high = p.high }, ap₂ take one_more here)

  pub field_other : (e : ℕ) → starts_with b (drop at s) ≡ false → starts_with b (part_at s at e) ≡ false
  field_other e h = go (e - at) (drop at s) h
    where
      go : (k : ℕ) (l : List ℕ) → starts_with b l ≡ false → starts_with b (take k l) ≡ false
      go zero [] h = refl
      go (suc k) [] h = refl
      go zero (x ∷ l) h = refl
      go (suc k) (x ∷ l) h = h

-- a field whose first byte b tells how the rest of it is read: what is read of it, from what is read after b, or of the field where b
-- does not stand first
module _ {A B : Type 0} (inner : List ℕ → A) (outer : List ℕ → B) (together : Bool → A → B) (b : ℕ) (apart : b ≡ comma → ⊥)
    (led : (l : List ℕ) → outer (b ∷ l) ≡ together true (inner l))
    (other : (l : List ℕ) → starts_with b l ≡ false → outer l ≡ together false (inner l)) (s : List ℕ) (at : ℕ) where
  pub read_past : {found : Bool} {next : ℕ} {a : A} {r : B} {e : ℕ} → PastByte b s at found next → FieldRead inner s next a e
      → r ≡ together found a → FieldRead outer s at r e
  read_past {found} {next} {a} {r} {e} p f k = go found p.is p.next k
    where
      go : (t : Bool) → t ≡ starts_with b (drop at s) → next ≡ cond t (at + 1) at → r ≡ together t a → FieldRead outer s at r e
      go true is to k =
          let field = field_led b s at comma e apart (sym is) (subst (λ i. PartEnd comma s i e) to f.ends) in
          record {
            is =
                k ∙ ap (together true) (f.is ∙ ap (λ i. inner (part_at s i e)) to) ∙ sym (led (part_at s (at + 1) e))
                ∙ ap outer (sym field.1);
            ends = field.0;
          }
      go false is to k =
          record {
            is =
                k ∙ ap (together false) (f.is ∙ ap (λ i. inner (part_at s i e)) to)
                ∙ sym (other (part_at s at e) (field_other b s at e (sym is)));
            ends = subst (λ i. PartEnd comma s i e) to f.ends;
          }

-- ---- the first bytes that pass a test

module _ (test : ℕ → Bool) where
  module _ (s : List ℕ) (at : ℕ) where
    pub leading_on : at < length s → test (get_or s at 0) ≡ true → leading test (drop at s) ≡ get_or s at 0 ∷ leading test (drop (at + 1) s)
    unfolding leading
    leading_on h e =
        ap (leading test) (drop-cons s at 0 h)
        ∙ ap₂ (λ t k. cond t (get_or s at 0 ∷ leading test (drop k s)) []) e (sym (add-one at))

    pub leading_done : (at < length s → test (get_or s at 0) ≡ false) → leading test (drop at s) ≡ []
    unfolding leading
    leading_done h = go (leb (length s) at) refl
      where
        go : (t : Bool) → leb (length s) at ≡ t → leading test (drop at s) ≡ []
        go true e = ap (leading test) (drop_of_length-le s (leb-true (length s) at e))
        go false e =
            let within = leb-false (length s) at e in
            ap (leading test) (drop-cons s at 0 within) ∙ ap (λ t. cond t (get_or s at 0 ∷ leading test (drop (suc at) s)) []) (h within)

  leading-take : (l : List ℕ) → take (length (leading test l)) l ≡ leading test l
  unfolding leading
  leading-take [] = refl
  leading-take (b ∷ l) = go (test b) (leading-take l)
    where
      go : (t : Bool) → take (length (leading test l)) l ≡ leading test l
          → take (length (cond t (b ∷ leading test l) [])) (b ∷ l) ≡ cond t (b ∷ leading test l) []
      go true h = ap (λ k. b ∷ k) h
      go false h = refl

  -- a separator that does not pass the test
  module _ (c : ℕ) (apart : test c ≡ false) where
    other : (b : ℕ) → test b ≡ true → eqb b c ≡ false
    other b h = ne_eqb b c (λ e. clash h (ap test e ∙ apart))

    leading-free : (l : List ℕ) → free c (leading test l) ≡ true
    unfolding leading free
    leading-free [] = refl
    leading-free (b ∷ l) = go (test b) refl (leading-free l)
      where
        go : (t : Bool) → test b ≡ t → free c (leading test l) ≡ true → free c (cond t (b ∷ leading test l) []) ≡ true
        go true h e = ap₂ (λ t u. not t && u) (other b h) e
        go false h e = refl

    -- what stands after them
    past_stopped : (l : List ℕ) → (index_of c l ≡ length (leading test l) → ⊥)
        → (b : ℕ) × (r : List ℕ) × (take (index_of c l) l ≡ leading test l ++ (b ∷ r)) × (test b ≡ false)
    unfolding leading index_of
    past_stopped [] h = absurd (h refl)
    past_stopped (b ∷ l) h = go (test b) refl (past_stopped l) h
      where
        stop : (t : Bool) → test b ≡ false → (index_after t (index_of c l) ≡ 0 → ⊥)
            → (x : ℕ) × (r : List ℕ) × (take (index_after t (index_of c l)) (b ∷ l) ≡ x ∷ r) × (test x ≡ false)
        stop true e h = absurd (h refl)
        stop false e h = (b, take (index_of c l) l, refl, e)

        go : (t : Bool) → test b ≡ t
            → ((index_of c l ≡ length (leading test l) → ⊥)
            → (x : ℕ) × (r : List ℕ) × (take (index_of c l) l ≡ leading test l ++ (x ∷ r)) × (test x ≡ false))
            → (index_after (eqb b c) (index_of c l) ≡ length (cond t (b ∷ leading test l) []) → ⊥)
            → (x : ℕ) × (r : List ℕ)
            × (take (index_after (eqb b c) (index_of c l)) (b ∷ l) ≡ cond t (b ∷ leading test l) [] ++ (x ∷ r)) × (test x ≡ false)
        go true e f h =
            let index = ap (λ t. index_after t (index_of c l)) (other b e) in
            let more = f (λ k. h (index ∙ ap suc k)) in
            (more.0, more.1, ap (λ i. take i (b ∷ l)) index ∙ ap (λ k. b ∷ k) more.2, more.3)
        go false e f h = stop (eqb b c) e h

    module _ (s : List ℕ) (at e : ℕ) where
      pub leading_end : PartEnd c s (at + length (leading test (drop at s))) e → PartEnd c s at e
      leading_end =
          part_past c s at (length (leading test (drop at s))) e (ap (free c) (leading-take (drop at s)) ∙ leading-free (drop at s))

      pub leading_whole : e ≡ at + length (leading test (drop at s)) → part_at s at e ≡ leading test (drop at s)
      leading_whole h =
          let many : e - at ≡ length (leading test (drop at s)) = omega arith in
          ap (λ k. take k (drop at s)) many ∙ leading-take (drop at s)

      pub leading_stopped : PartEnd c s at e → (e ≡ at + length (leading test (drop at s)) → ⊥)
          → (b : ℕ) × (r : List ℕ) × (part_at s at e ≡ leading test (drop at s) ++ (b ∷ r)) × (test b ≡ false)
      unfolding part_end
      leading_stopped p h =
          let many : e - at ≡ index_of c (drop at s) = omega (arith, p.is) in
          let found = past_stopped (drop at s) (λ k. h (p.is ∙ ap (λ i. at + i) k)) in
          (found.0, found.1, ap (λ k. take k (drop at s)) many ∙ found.2, found.3)
