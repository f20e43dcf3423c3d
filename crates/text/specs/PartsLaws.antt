-- Laws of the parts between separators.
--     text-within                      the test of a text's length, as two bounds
--     same_refl, same_eq, same_ne      `same` is equality
--     same_pointwise                   it is what `==` answers of two slices
--     same_lengths                     lists of two lengths differ
--     same_on, same_off, same_done     the bytes from an index on, by the two that stand there, and at the end
--     cut_some                         there is a first part
--     join-cut, cut-join               cutting and joining undo one another
--     cut-free                         no part has a separator
--     cut_keeps_free, join_free        a byte that stands nowhere still stands nowhere after cutting, and after joining by another byte
--     free-append                      a byte stands in neither of two lists
--     free_next                        the bytes from an index on, by one more
--     join-length                      the bytes of parts joined, by the first part
--     join_short                       the most bytes of a part and of others, each after a separator, none of which is longer than k
--     join_more                        one part more
--     parts_within                     the parts from an index within the text
--     parts_whole, parts_none          the parts from 0 are those of the text; past the end there are none
--     parts_some                       within the text there is one
--     parts_from_lem                       the first part from an index is up to its end, the others are those from the index after it
--     part_end_lem                         within the text a part ends within the text
--     part_separator                   a part that ends before the text does ends at its separator
--     end_past                         bytes among which no c stands end no part
--     end_next                         a byte that is not c ends none
--     end-found                        what a search for c from an index on finds is where the part ends
--     free-end                         no byte c stands in a text exactly where the end of its first part is that of the text
--     end_of_first                     a part with one after it ends at its separator, whatever follows the list
--     first_part                       a list starts with its first part
--     first_part_from                  a text is its first part and the parts from past its end
--     part_at s at e                    the bytes of a text from one index to another
--     last_empty, last_some, last_part_lem a part that ends with the text is the last: with no byte, with one, and in general
--     Followed, followed               one that ends before it is followed by another
--     part-start                       the parts from where part k starts are all but the first k
--     part_start_most                  part k starts within the text or just past it, as long as there are k parts
--     part_start_next                  the parts from past the end of a part start where those after it do
--     part_start-drop                  the text from where part k starts is the parts from that one on, joined
use Prim.Native.Nat.{ℕ, zero, suc, ◌+◌, ◌-◌, ◌*◌, ◌≤◌, ◌<◌, zero-le}
use Rattle.std.specs.Prelude.{◌≡◌, Bool, not, cond, ◌&&◌, List, [], ◌∷◌, ◌++◌, map, get_or, take}
use Rattle.std.proofs.Math.Path.{refl, sym, ap, ap₂}
use Rattle.std.proofs.Common.{◌∙◌, append_assoc, mul-suc, add-one, eqb-true, eq-eqb, ne_eqb, le-leb, leb-false, leb-true, length-append, length-take, drop_of_length-le, take-append-drop, drop-cons, take-suc, length-take-le, get_or-drop}
use Rattle.std.proofs.Math.Bool.{true, false, and_assoc, and-true}
use native.Mathlib.Omega.{arith}
use Rattle.std.proofs.lemmas.Bool.{lt-leb, not-true}
use Rattle.std.proofs.Math.Dec.{eqb, leb}
use Rattle.std.proofs.Math.ListN.{length, drop, length-drop}
use lib.Pointwise.{pointwise}
use Rattle.std.proofs.Math.Seq.{drop-drop, take-length}
use Rattle.text.specs.Bytes.{index_of, index_after, slice}
use Rattle.integers.specs.Tests.{both, clash}
use Rattle.text.specs.Parts.{text_within, same, extend, cut, join, free, all_free, part_end, parts_from, part_start}
use Rattle.text.specs.Clauses.{PartEnd}
use Rattle.limits.specs.Limits.{text_limit}

pub text-within : (text : List ℕ) → text_within text ≡ true → (1 ≤ length text) × (length text ≤ text_limit)
text-within text h =
    let t = both (leb 1 (length text)) (leb (length text) text_limit) h in
    (leb-true 1 (length text) t.0, leb-true (length text) text_limit t.1)

-- ---- the same bytes

pub same_refl : (l : List ℕ) → same l l ≡ true
unfolding same
same_refl [] = refl
same_refl (b ∷ l) = ap₂ ◌&&◌ (eq-eqb b b refl) (same_refl l)

pub same_eq : (a b : List ℕ) → same a b ≡ true → a ≡ b
unfolding same
same_eq [] [] h = refl
same_eq [] (b ∷ l) h = clash h refl
same_eq (a ∷ k) [] h = clash h refl
same_eq (a ∷ k) (b ∷ l) h =
    let t = both (eqb a b) (same k l) h in
    ap₂ ◌∷◌ (eqb-true a b t.0) (same_eq k l t.1)

pub same_pointwise : (a b : List ℕ) → pointwise eqb a b ≡ same a b
unfolding same
same_pointwise [] [] = refl
same_pointwise [] (b ∷ l) = refl
same_pointwise (a ∷ k) [] = refl
same_pointwise (a ∷ k) (b ∷ l) = ap (λ t. eqb a b && t) (same_pointwise k l)

pub same_ne : (a b : List ℕ) → same a b ≡ false → a ≡ b → ⊥
same_ne a b h e = clash (ap (same a) (sym e) ∙ same_refl a) h

refuted : (t : Bool) → (t ≡ true → ⊥) → t ≡ false
refuted true h = absurd (h refl)
refuted false h = refl

pub same_lengths : (a b : List ℕ) → (length a ≡ length b → ⊥) → same a b ≡ false
same_lengths a b h = refuted (same a b) (λ t. h (ap length (same_eq a b t)))

module _ (a b : List ℕ) (i : ℕ) (lengths : length a ≡ length b) where
  same_next : i < length a → same (drop i a) (drop i b) ≡ (eqb (get_or a i 0) (get_or b i 0) && same (drop (i + 1) a) (drop (i + 1) b))
  unfolding same
  same_next h =
      ap₂ same (drop-cons a i 0 h) (drop-cons b i 0 (omega arith))
      ∙ ap (λ j. eqb (get_or a i 0) (get_or b i 0) && same (drop j a) (drop j b)) (sym (add-one i))

  pub same_on : i < length a → get_or a i 0 ≡ get_or b i 0 → same (drop i a) (drop i b) ≡ same (drop (i + 1) a) (drop (i + 1) b)
  same_on h e = same_next h ∙ ap (λ t. t && same (drop (i + 1) a) (drop (i + 1) b)) (eq-eqb (get_or a i 0) (get_or b i 0) e)

  pub same_off : i < length a → (get_or a i 0 ≡ get_or b i 0 → ⊥) → same (drop i a) (drop i b) ≡ false
  same_off h n = same_next h ∙ ap (λ t. t && same (drop (i + 1) a) (drop (i + 1) b)) (ne_eqb (get_or a i 0) (get_or b i 0) n)

  pub same_done : length a ≤ i → same (drop i a) (drop i b) ≡ true
  unfolding same
  same_done h = ap₂ same (drop_of_length-le a h) (drop_of_length-le b {i = i} (omega arith))

-- ---- cutting

-- the parts after the separator that a list starts with
rest : ℕ → List ℕ → List (List ℕ)
rest c [] = []
rest c (b ∷ l) = cut c l

cut_first : (c : ℕ) (l : List ℕ) → cut c l ≡ take (index_of c l) l ∷ rest c (drop (index_of c l) l)
unfolding cut rest index_of
cut_first c [] = refl
cut_first c (b ∷ l) = go (eqb b c) (cut_first c l)
  where
    go : (t : Bool) → cut c l ≡ take (index_of c l) l ∷ rest c (drop (index_of c l) l)
        → cond t ([] ∷ cut c l) (extend b (cut c l))
        ≡ take (index_after t (index_of c l)) (b ∷ l) ∷ rest c (drop (index_after t (index_of c l)) (b ∷ l))
    go true e = refl
    go false e = ap (extend b) e

pub cut_some : (c : ℕ) (l : List ℕ) → (p : List ℕ) × (ps : List (List ℕ)) × (cut c l ≡ p ∷ ps)
cut_some c l = (take (index_of c l) l, rest c (drop (index_of c l) l), cut_first c l)

-- a byte in front of the first part is in front of the parts joined
join-extend : (c b : ℕ) (part : List ℕ) (ps : List (List ℕ)) → join c (extend b (part ∷ ps)) ≡ b ∷ join c (part ∷ ps)
unfolding join extend
join-extend c b part [] = refl
join-extend c b part (q ∷ ps) = refl

pub join-cut : (c : ℕ) (l : List ℕ) → join c (cut c l) ≡ l
unfolding cut join
join-cut c [] = refl
join-cut c (b ∷ l) = go (eqb b c) refl (cut_some c l) (join-cut c l)
  where
    go : (t : Bool) → eqb b c ≡ t → ((p : List ℕ) × (ps : List (List ℕ)) × (cut c l ≡ p ∷ ps)) → join c (cut c l) ≡ l
        → join c (cond t ([] ∷ cut c l) (extend b (cut c l))) ≡ b ∷ l
    go true h f e = ap (λ k. join c ([] ∷ k)) f.2 ∙ ap₂ ◌∷◌ (sym (eqb-true b c h)) (ap (join c) (sym f.2) ∙ e)
    go false h f e =
        ap (λ k. join c (extend b k)) f.2 ∙ join-extend c b f.0 f.1 ∙ ap (λ k. b ∷ k) (ap (join c) (sym f.2) ∙ e)

-- the bytes of a free part: none is the separator
free_cons : (c b : ℕ) (l : List ℕ) → free c (b ∷ l) ≡ true → (eqb b c ≡ false) × (free c l ≡ true)
unfolding free
free_cons c b l h =
    let t = both (not (eqb b c)) (free c l) h in
    (not-true (eqb b c) t.0, t.1)

cut_past : (c b : ℕ) (l : List ℕ) → eqb b c ≡ false → cut c (b ∷ l) ≡ extend b (cut c l)
unfolding cut
cut_past c b l h = ap (λ t. cond t ([] ∷ cut c l) (extend b (cut c l))) h

cut-part : (c : ℕ) (p : List ℕ) → free c p ≡ true → cut c p ≡ p ∷ []
unfolding cut
cut-part c [] h = refl
cut-part c (b ∷ p) h =
    let t = free_cons c b p h in
    cut_past c b p t.0 ∙ ap (extend b) (cut-part c p t.1)

cut_seam : (c : ℕ) (p l : List ℕ) → free c p ≡ true → cut c (p ++ (c ∷ l)) ≡ p ∷ cut c l
unfolding cut
cut_seam c [] l h = ap (λ t. cond t ([] ∷ cut c l) (extend c (cut c l))) (eq-eqb c c refl)
cut_seam c (b ∷ p) l h =
    let t = free_cons c b p h in
    cut_past c b (p ++ (c ∷ l)) t.0 ∙ ap (extend b) (cut_seam c p l t.1)

pub cut-join : (c : ℕ) (p : List ℕ) (ps : List (List ℕ)) → all_free c (p ∷ ps) ≡ true → cut c (join c (p ∷ ps)) ≡ p ∷ ps
unfolding join all_free
cut-join c p [] h = cut-part c p (both (free c p) true h).0
cut-join c p (q ∷ ps) h =
    let t = both (free c p) (all_free c (q ∷ ps)) h in
    cut_seam c p (join c (q ∷ ps)) t.0 ∙ ap (λ k. p ∷ k) (cut-join c q ps t.1)

pub join-length : (c : ℕ) (p q : List ℕ) (ps : List (List ℕ)) → length (join c (p ∷ q ∷ ps)) ≡ length p + suc (length (join c (q ∷ ps)))
unfolding join
join-length c p q ps = length-append p (c ∷ join c (q ∷ ps))

pub join_short : {A : Type 0} (f : A → List ℕ) (d : A) (c k : ℕ) (first : List ℕ) (l : List A) → ((j : ℕ) → j < length l → length (f (get_or l j d)) ≤ k)
    → length (join c (first ∷ map f l)) ≤ length first + suc k * length l
unfolding join
join_short f d c k first [] h = omega arith
join_short f d c k first (x ∷ l) h =
    omega (
      arith,
      join-length c first (f x) (map f l),
      h 0 (omega arith),
      join_short f d c k (f x) l (λ j b. h (suc j) (omega arith)),
      mul-suc (suc k) (length l),
    )

pub join_more : (c : ℕ) (p q : List ℕ) (ps : List (List ℕ)) → join c ((p ∷ ps) ++ (q ∷ [])) ≡ join c (p ∷ ps) ++ (c ∷ q)
unfolding join
join_more c p q [] = refl
join_more c p q (r ∷ ps) =
    ap (λ (l : List ℕ). p ++ (c ∷ l)) (join_more c r q ps) ∙ sym (append_assoc p (c ∷ join c (r ∷ ps)) (c ∷ q))

-- ---- bytes that stand nowhere

extend-free : (d b : ℕ) (ps : List (List ℕ)) → eqb b d ≡ false → all_free d ps ≡ true → all_free d (extend b ps) ≡ true
unfolding extend all_free free
extend-free d b [] h e = ap (λ t. not t && true && true) h
extend-free d b (p ∷ ps) h e = ap (λ t. not t && free d p && all_free d ps) h ∙ e

-- one byte more, which is the separator or is not d
cut_step : (c d b : ℕ) (l : List ℕ) → (eqb b c ≡ false → eqb b d ≡ false) → all_free d (cut c l) ≡ true → all_free d (cut c (b ∷ l)) ≡ true
unfolding cut all_free free
cut_step c d b l h e = go (eqb b c) refl
  where
    go : (t : Bool) → eqb b c ≡ t → all_free d (cond t ([] ∷ cut c l) (extend b (cut c l))) ≡ true
    go true k = e
    go false k = extend-free d b (cut c l) (h k) e

pub cut-free : (c : ℕ) (l : List ℕ) → all_free c (cut c l) ≡ true
unfolding cut all_free free
cut-free c [] = refl
cut-free c (b ∷ l) = cut_step c c b l (λ h. h) (cut-free c l)

pub cut_keeps_free : (c d : ℕ) (l : List ℕ) → free d l ≡ true → all_free d (cut c l) ≡ true
unfolding cut all_free free
cut_keeps_free c d [] h = refl
cut_keeps_free c d (b ∷ l) h =
    let t = free_cons d b l h in
    cut_step c d b l (λ k. t.0) (cut_keeps_free c d l t.1)

pub free-append : (c : ℕ) (a b : List ℕ) → free c (a ++ b) ≡ (free c a && free c b)
unfolding free
free-append c [] b = refl
free-append c (x ∷ a) b = ap (λ t. not (eqb x c) && t) (free-append c a b) ∙ sym (and_assoc (not (eqb x c)) (free c a) (free c b))

pub free_next : (c : ℕ) (s : List ℕ) (at k : ℕ) {clear : Bool} → at + k < length s → clear ≡ free c (take k (drop at s))
    → (clear && not (eqb (get_or s (at + k) 0) c)) ≡ free c (take (k + 1) (drop at s))
unfolding free
free_next c s at k h e =
    let l = drop at s in
    let byte = and-true (not (eqb (get_or l k 0) c)) ∙ ap (λ b. not (eqb b c)) (get_or-drop at s k 0) in
    ap₂ ◌&&◌ e (sym byte)
    ∙ sym (ap (λ n. free c (take n l)) (add-one k) ∙ ap (free c) (take-suc l k 0 (omega (arith, length-drop at s))) ∙ free-append c (take k l) (get_or l k 0 ∷ []))

pub join_free : (c d : ℕ) (ps : List (List ℕ)) → (c ≡ d → ⊥) → all_free d ps ≡ true → free d (join c ps) ≡ true
unfolding join all_free free
join_free c d [] h e = refl
join_free c d (p ∷ []) h e = (both (free d p) true e).0
join_free c d (p ∷ q ∷ ps) h e =
    let t = both (free d p) (all_free d (q ∷ ps)) e in
    free-append d p (c ∷ join c (q ∷ ps))
    ∙ ap₂ ◌&&◌ t.0 (ap₂ (λ x y. not x && y) (ne_eqb c d h) (join_free c d (q ∷ ps) h t.1))

-- ---- where a part ends

-- the first c is within the list or at its end
index_most : (c : ℕ) (l : List ℕ) → index_of c l ≤ length l
unfolding index_of
index_most c [] = zero-le
index_most c (b ∷ l) = go (eqb b c) (index_most c l)
  where
    go : (t : Bool) → index_of c l ≤ length l → index_after t (index_of c l) ≤ suc (length l)
    go true h = zero-le
    go false h = omega arith

-- the first byte c is a byte c
index_found : (c : ℕ) (l : List ℕ) → index_of c l < length l → get_or l (index_of c l) 0 ≡ c
unfolding index_of
index_found c [] h = absurd (omega arith)
index_found c (b ∷ l) h = go (eqb b c) refl h (index_found c l)
  where
    go : (t : Bool) → eqb b c ≡ t → index_after t (index_of c l) < suc (length l) → (index_of c l < length l → get_or l (index_of c l) 0 ≡ c)
        → get_or (b ∷ l) (index_after t (index_of c l)) 0 ≡ c
    go true e h f = eqb-true b c e
    go false e h f = f (omega arith)

-- what follows the list does not move it
index_append : (c : ℕ) (l more : List ℕ) → index_of c l < length l → index_of c (l ++ more) ≡ index_of c l
unfolding index_of
index_append c [] more h = absurd (omega arith)
index_append c (b ∷ l) more h = go (eqb b c) h (index_append c l more)
  where
    go : (t : Bool) → index_after t (index_of c l) < suc (length l) → (index_of c l < length l → index_of c (l ++ more) ≡ index_of c l)
        → index_after t (index_of c (l ++ more)) ≡ index_after t (index_of c l)
    go true h f = refl
    go false h f = ap suc (f (omega arith))

-- what is free of it does
index_past : (c : ℕ) (l more : List ℕ) → free c l ≡ true → index_of c (l ++ more) ≡ length l + index_of c more
unfolding index_of
index_past c [] more h = omega arith
index_past c (b ∷ l) more h =
    let t = free_cons c b l h in
    ap (λ x. index_after x (index_of c (l ++ more))) t.0 ∙ ap suc (index_past c l more t.1) ∙ omega arith

index_free : (c : ℕ) (l : List ℕ) → (length l ≤ index_of c l → free c l ≡ true) × (index_of c l < length l → free c l ≡ false)
unfolding index_of free
index_free c [] = (λ h. refl, λ h. absurd (omega arith))
index_free c (b ∷ l) = go (eqb b c) (index_free c l)
  where
    go : (t : Bool) → (length l ≤ index_of c l → free c l ≡ true) × (index_of c l < length l → free c l ≡ false)
        → (suc (length l) ≤ index_after t (index_of c l) → (not t && free c l) ≡ true)
        × (index_after t (index_of c l) < suc (length l) → (not t && free c l) ≡ false)
    go true f = (λ h. absurd (omega arith), λ h. refl)
    go false f = (λ h. f.0 (omega arith), λ h. f.1 (omega arith))

pub free-end : (c : ℕ) (s : List ℕ) (e : ℕ) → PartEnd c s 0 e → (length s ≤ e → free c s ≡ true) × (e < length s → free c s ≡ false)
unfolding part_end
free-end c s e f =
    let at : e ≡ index_of c s = omega (arith, f.is) in
    (λ h. (index_free c s).0 (omega arith), λ h. (index_free c s).1 (omega arith))

length_first : (c : ℕ) (l p : List ℕ) (ps : List (List ℕ)) → cut c l ≡ p ∷ ps → length p ≡ index_of c l
length_first c l p ps e =
    let f : p ≡ take (index_of c l) l = cc (cut_first c l) in
    ap length f ∙ length-take (index_of c l) l ∙ omega (arith, index_most c l)

pub part_end_lem : (c : ℕ) (s : List ℕ) (at : ℕ) → at ≤ length s → PartEnd c s at (part_end c s at)
unfolding part_end
part_end_lem c s at h = record { is = refl; low = omega arith; high = omega (arith, index_most c (drop at s), length-drop at s) }

pub part_separator : (c : ℕ) (s : List ℕ) (at e : ℕ) → PartEnd c s at e → e < length s → get_or s e 0 ≡ c
unfolding part_end
part_separator c s at e p h =
    ap (λ k. get_or s k 0) p.is ∙ sym (get_or-drop at s (index_of c (drop at s)) 0)
    ∙ index_found c (drop at s) (omega (arith, p.is, length-drop at s))

pub end_past : (c : ℕ) (s : List ℕ) (at k : ℕ) → at + k ≤ length s → free c (take k (drop at s)) ≡ true → part_end c s (at + k) ≡ part_end c s at
unfolding part_end
end_past c s at k h f =
    let l = drop at s in
    let long : length (take k l) ≡ k = length-take-le k l (omega (arith, length-drop at s)) in
    let past : index_of c l ≡ k + index_of c (drop (at + k) s) =
    ap (index_of c) (sym (take-append-drop k l)) ∙ index_past c (take k l) (drop k l) f
    ∙ ap₂ ◌+◌ long (ap (index_of c) (drop-drop k at s)) in
    omega arith

pub end_next : (c : ℕ) (s : List ℕ) (at : ℕ) → at < length s → (get_or s at 0 ≡ c → ⊥) → part_end c s (at + 1) ≡ part_end c s at
unfolding free
end_next c s at h other =
    end_past c s at 1 (omega arith)
    (ap (λ l. free c (take 1 l)) (drop-cons s at 0 h) ∙ ap (λ t. not t && true) (ne_eqb (get_or s at 0) c other))

pub end-found : (c : ℕ) (s : List ℕ) (at e : ℕ) → e ≡ at + index_of c (slice at (length s) s) → e ≤ length s → PartEnd c s at e
unfolding slice part_end
end-found c s at e f h = record { is = f ∙ ap (λ l. at + index_of c (drop at l)) (take-length s); low = omega arith; high = h }

pub first_part : (c : ℕ) (l p : List ℕ) (ps : List (List ℕ)) → cut c l ≡ p ∷ ps → take (length p) l ≡ p
first_part c l p ps e =
    let f : p ≡ take (index_of c l) l = cc (cut_first c l) in
    ap (λ n. take n l) (length_first c l p ps e) ∙ sym f

pub end_of_first : (c : ℕ) (l more p q : List ℕ) (ps : List (List ℕ)) → cut c l ≡ p ∷ q ∷ ps → index_of c (l ++ more) ≡ length p
unfolding rest
end_of_first c l more p q ps e =
    index_append c l more (go (leb (length l) (index_of c l)) refl) ∙ sym (length_first c l p (q ∷ ps) e)
  where
    go : (t : Bool) → leb (length l) (index_of c l) ≡ t → index_of c l < length l
    go true h =
        let f : rest c (drop (index_of c l) l) ≡ q ∷ ps = cc (cut_first c l) in
        let g : rest c (drop (index_of c l) l) ≡ [] = ap (rest c) (drop_of_length-le l (leb-true (length l) (index_of c l) h)) in
        let z : ◌≡◌ {A = ℕ} 0 1 = cc in
        absurd (omega arith)
    go false h = leb-false (length l) (index_of c l) h

-- ---- the parts from an index

pub parts_within : (c : ℕ) (s : List ℕ) (at : ℕ) → at ≤ length s → parts_from c s at ≡ cut c (drop at s)
unfolding parts_from
parts_within c s at h = ap (λ t. cond t (cut c (drop at s)) []) (le-leb at (length s) h)

pub parts_whole : (c : ℕ) (s : List ℕ) → parts_from c s 0 ≡ cut c s
parts_whole c s = parts_within c s 0 zero-le

pub parts_none : (c : ℕ) (s : List ℕ) (at : ℕ) → length s < at → parts_from c s at ≡ []
unfolding parts_from
parts_none c s at h = ap (λ t. cond t (cut c (drop at s)) []) (lt-leb at (length s) h)

pub parts_some : (c : ℕ) (s : List ℕ) (at : ℕ) → at ≤ length s → (p : List ℕ) × (ps : List (List ℕ)) × (parts_from c s at ≡ p ∷ ps)
parts_some c s at h =
    let f = cut_some c (drop at s) in
    (f.0, f.1, parts_within c s at h ∙ f.2)

-- the parts after a part that ends at index e
parts_after : (c : ℕ) (s : List ℕ) (e : ℕ) → e ≤ length s → rest c (drop e s) ≡ parts_from c s (e + 1)
unfolding rest
parts_after c s e h = go (leb (length s) e) refl
  where
    go : (t : Bool) → leb (length s) e ≡ t → rest c (drop e s) ≡ parts_from c s (e + 1)
    go true k =
        let m = leb-true (length s) e k in
        ap (rest c) (drop_of_length-le s m) ∙ sym (parts_none c s (e + 1) (omega arith))
    go false k =
        let m = leb-false (length s) e k in
        ap (rest c) (drop-cons s e 0 m) ∙ ap (λ i. cut c (drop i s)) (sym (add-one e)) ∙ sym (parts_within c s (e + 1) (omega arith))

pub parts_from_lem : (c : ℕ) (s : List ℕ) (at e : ℕ) → at ≤ length s → PartEnd c s at e
    → parts_from c s at ≡ take (e - at) (drop at s) ∷ parts_from c s (e + 1)
unfolding part_end
parts_from_lem c s at e h f =
    let i = index_of c (drop at s) in
    let n : i ≡ e - at = omega (arith, f.is) in
    parts_within c s at h ∙ cut_first c (drop at s)
    ∙ ap₂ ◌∷◌ (ap (λ k. take k (drop at s)) n)
    (ap (rest c) (drop-drop i at s ∙ ap (λ k. drop k s) (sym f.is)) ∙ parts_after c s e f.high)

pub first_part_from : (c : ℕ) (s : List ℕ) (e : ℕ) → PartEnd c s 0 e → cut c s ≡ take e s ∷ parts_from c s (e + 1)
first_part_from c s e h =
    let z : e - 0 ≡ e = omega arith in
    sym (parts_whole c s) ∙ parts_from_lem c s 0 e zero-le h ∙ ap (λ k. take k s ∷ parts_from c s (e + 1)) z

-- ---- a part and what follows it

abbrev pub part_at : List ℕ → ℕ → ℕ → List ℕ
part_at s at e = take (e - at) (drop at s)

pub record Followed (c : ℕ) (s : List ℕ) (at e : ℕ) : Type 0 where
  pub next : List ℕ
  pub others : List (List ℕ)
  pub is : parts_from c s at ≡ part_at s at e ∷ next ∷ others
  pub after : parts_from c s (e + 1) ≡ next ∷ others

module _ (c : ℕ) (s : List ℕ) (at : ℕ) where
  pub last_empty : at ≡ length s → parts_from c s at ≡ [] ∷ []
  unfolding cut
  last_empty h = parts_within c s at (omega arith) ∙ ap (cut c) (drop_of_length-le s {i = at} (omega arith))

  module _ (e : ℕ) (h : at ≤ length s) (p : PartEnd c s at e) where
    pub last_part_lem : e ≡ length s → parts_from c s at ≡ part_at s at e ∷ []
    last_part_lem q = parts_from_lem c s at e h p ∙ ap (λ l. part_at s at e ∷ l) (parts_none c s (e + 1) (omega arith))

    pub followed : (e ≡ length s → ⊥) → Followed c s at e
    followed q =
        let next = parts_some c s (e + 1) (omega (arith, p.high)) in
        record {
          next = next.0;
          others = next.1;
          is = parts_from_lem c s at e h p ∙ ap (λ l. part_at s at e ∷ l) next.2;
          after = next.2;
        }

  pub last_some : (e : ℕ) → at < length s → PartEnd c s at e → e ≡ length s → parts_from c s at ≡ (get_or s at 0 ∷ part_at s (suc at) e) ∷ []
  last_some e h p q =
      let one_more : e - at ≡ suc (e - suc at) = omega arith in
      last_part_lem e (omega arith) p q ∙ ap (λ l. l ∷ []) (ap₂ take one_more (drop-cons s at 0 h))

-- ---- where a part starts

-- the parts from past the end of the first part from an index
parts_rest : (c : ℕ) (s : List ℕ) (at : ℕ) → drop 1 (parts_from c s at) ≡ parts_from c s (suc (part_end c s at))
unfolding part_end
parts_rest c s at = go (leb at (length s)) refl
  where
    go : (t : Bool) → leb at (length s) ≡ t → drop 1 (parts_from c s at) ≡ parts_from c s (suc (part_end c s at))
    go true k =
        let h = leb-true at (length s) k in
        ap (drop 1) (parts_from_lem c s at (part_end c s at) h (part_end_lem c s at h)) ∙ ap (parts_from c s) (add-one (part_end c s at))
    go false k =
        let h = leb-false at (length s) k in
        ap (drop 1) (parts_none c s at h) ∙ sym (parts_none c s (suc (part_end c s at)) (omega arith))

module _ (c : ℕ) (s : List ℕ) where
  pub part-start : (k : ℕ) → parts_from c s (part_start c s 0 k) ≡ drop k (cut c s)
  unfolding part_start
  part-start zero = parts_whole c s
  part-start (suc k) =
      sym (parts_rest c s (part_start c s 0 k)) ∙ ap (drop 1) (part-start k) ∙ drop-drop 1 k (cut c s) ∙ ap (λ i. drop i (cut c s)) (add-one k)

  pub part_start_most : (k : ℕ) → k ≤ length (cut c s) → part_start c s 0 k ≤ length s + 1
  unfolding part_start
  part_start_most zero h = omega arith
  part_start_most (suc k) h = go (part_start c s 0 k) (part-start k) (leb (part_start c s 0 k) (length s)) refl
    where
      go : (at : ℕ) → parts_from c s at ≡ drop k (cut c s) → (t : Bool) → leb at (length s) ≡ t → suc (part_end c s at) ≤ length s + 1
      go at f true e = omega (arith, (part_end_lem c s at (leb-true at (length s) e)).high)
      go at f false e =
          let n : length (drop k (cut c s)) ≡ 0 = ap length (sym f ∙ parts_none c s at (leb-false at (length s) e)) in
          absurd (omega (arith, length-drop k (cut c s)))

  pub part_start_next : (at k : ℕ) → part_start c s (suc (part_end c s at)) k ≡ part_start c s at (suc k)
  unfolding part_start
  part_start_next at zero = refl
  part_start_next at (suc k) = ap (λ i. suc (part_end c s i)) (part_start_next at k)

  pub part_start-drop : (k : ℕ) → k < length (cut c s) → drop (part_start c s 0 k) s ≡ join c (drop k (cut c s))
  part_start-drop k h = go (leb (part_start c s 0 k) (length s)) refl
    where
      go : (t : Bool) → leb (part_start c s 0 k) (length s) ≡ t → drop (part_start c s 0 k) s ≡ join c (drop k (cut c s))
      go true e =
          sym (join-cut c (drop (part_start c s 0 k) s))
          ∙ ap (join c) (sym (parts_within c s (part_start c s 0 k) (leb-true (part_start c s 0 k) (length s) e)) ∙ part-start k)
      go false e =
          let none : length (drop k (cut c s)) ≡ 0 =
          ap length (sym (part-start k) ∙ parts_none c s (part_start c s 0 k) (leb-false (part_start c s 0 k) (length s) e)) in
          absurd (omega (arith, length-drop k (cut c s)))
