-- Laws of lists that stand for points.
--     length-tabulate, get_d_tabulate          the list f 0, …, f (c - 1)
--     length_centre_list                       X has eight places
--     centre_list_at, centre_list_past          its places below n are X, those past n are 0
--     centre_list_by                           a list with these places is X's
--     centre_list_zeros                        so is one that starts with n coordinates and goes on with zeros
--     zeros-at                                every place of a list of zeros is 0
--     centre_list_most                         a bound on X is one on all places
--     centre_list_more                         one channel more
--     centre_list_stored                       the same as a loop stores it
--     centre_list_cong                         only the places below n count
use Prim.Native.Nat.{ℕ, zero, suc, ◌+◌, ◌-◌, ◌^◌, ◌≤◌, ◌<◌}
use Rattle.std.specs.Prelude.{◌≡◌, ◌≢◌, ◌⊎◌, Bool, ltb, ℤ, pos, nat_abs, length, set, drop, replicate}
use Rattle.std.proofs.Math.Path.{refl, sym, ap}
use Rattle.std.proofs.Common.{◌∙◌, ap₂, inl, inr, arith, below_more, lt-ltb, le-ltb, length-set, length-drop, get_or-append-add, get_or-drop, ext_get_or, get_or-set_same, get_or-set_other}
use Rattle.std.proofs.Math.Bool.{cond}
use mathlib.Core.List.{List, [], ◌∷◌, ◌++◌}
use Rattle.std.proofs.Math.Decide.{dec_lt}
use Rattle.std.proofs.Math.ListN.{get_or, length-append, get_or-append, get_or-eq_default}
use Rattle.std.proofs.lemmas.List.{length-replicate}
use Rattle.std.proofs.Math.Seq.{get_or_at}
use Rattle.std.specs.Int.{Width}
use mir.Val.{hbits}
use Rattle.integers.specs.SumLaws.{last_or_below}
use Rattle.integers.specs.Absolute.{backw}
use Rattle.integers.specs.Reading.{back}
use Rattle.limits.specs.Limits.{channel_limit}
use Rattle.geometry.specs.Places.{tabulate, centre_list, centre_of}

module _ {A : Type 0} (f : ℕ → A) where
  pub length-tabulate : (c : ℕ) → length (tabulate c f) ≡ c
  unfolding tabulate
  length-tabulate zero = refl
  length-tabulate (suc c) = omega (arith, length-append (tabulate c f) (f c ∷ []), length-tabulate c)

  pub get_d_tabulate : (c i : ℕ) (d : A) → i < c → get_or (tabulate c f) i d ≡ f i
  unfolding tabulate
  get_d_tabulate zero i d h = absurd (omega arith)
  get_d_tabulate (suc c) i d h = go (get_d_tabulate c i d) (last_or_below c i h)
    where
      go : (i < c → get_or (tabulate c f) i d ≡ f i) → (i ≡ c) ⊎ (i < c) → get_or (tabulate c f ++ (f c ∷ [])) i d ≡ f i
      go r (inl e) = get_or_at (tabulate c f) (f c) [] d i (length-tabulate c ∙ sym e) ∙ ap f (sym e)
      go r (inr l) = get_or-append (tabulate c f) (f c ∷ []) d i (omega (arith, length-tabulate c)) ∙ r l

module _ (n : ℕ) (X : ℕ → ℤ) where
  place : ℕ → ℤ
  place k = cond (ltb k n) (X k) (pos 0)

  place_at : (k : ℕ) → k < n → place k ≡ X k
  unfolding place
  place_at k h = ap (λ (b : Bool). cond b (X k) (pos 0)) (lt-ltb k n h)

  place_past : (k : ℕ) → n ≤ k → place k ≡ pos 0
  unfolding place
  place_past k h = ap (λ (b : Bool). cond b (X k) (pos 0)) (le-ltb k n h)

  pub length_centre_list : length (centre_list n X) ≡ channel_limit
  unfolding centre_list place
  length_centre_list = length-tabulate place channel_limit

  get_d_centre_list : (k : ℕ) → k < channel_limit → get_or (centre_list n X) k (pos 0) ≡ place k
  unfolding centre_list place
  get_d_centre_list k h = get_d_tabulate place channel_limit k (pos 0) h

  pub centre_list_at : (k : ℕ) → n ≤ channel_limit → k < n → centre_of (centre_list n X) k ≡ X k
  centre_list_at k most h = get_d_centre_list k (omega arith) ∙ place_at k h

  pub centre_list_past : (k : ℕ) → n ≤ k → centre_of (centre_list n X) k ≡ pos 0
  centre_list_past k h = go (dec_lt k channel_limit)
    where
      go : Dec (k < channel_limit) → centre_of (centre_list n X) k ≡ pos 0
      go (yes l) = get_d_centre_list k l ∙ place_past k h
      go (no l) = get_or-eq_default (centre_list n X) (pos 0) (omega (arith, length_centre_list))

  pub centre_list_by : (l : List ℤ) → length l ≡ channel_limit → ((k : ℕ) → k < n → get_or l k (pos 0) ≡ X k)
      → ((k : ℕ) → n ≤ k → get_or l k (pos 0) ≡ pos 0) → l ≡ centre_list n X
  centre_list_by l len at past =
      ext_get_or (pos 0) l (centre_list n X) (len ∙ sym length_centre_list) (λ k h. same k (omega arith) (dec_lt k n))
    where
      same : (k : ℕ) → k < channel_limit → Dec (k < n) → get_or l k (pos 0) ≡ get_or (centre_list n X) k (pos 0)
      same k h (yes b) = at k b ∙ sym (get_d_centre_list k h ∙ place_at k b)
      same k h (no b) = past k (omega arith) ∙ sym (get_d_centre_list k h ∙ place_past k (omega arith))

pub zeros-at : (count k : ℕ) → get_or (replicate count (pos 0)) k (pos 0) ≡ pos 0
zeros-at zero k = refl
zeros-at (suc count) zero = refl
zeros-at (suc count) (suc k) = zeros-at count k

pub centre_list_zeros : (n : ℕ) (x l : List ℤ) → n ≤ channel_limit → length l ≡ channel_limit → l ≡ x ++ drop n (replicate channel_limit (pos 0))
    → l ≡ centre_list n (centre_of x)
centre_list_zeros n x l most len e =
    let zeros = replicate channel_limit (pos 0) in
    let long : length x ≡ n =
    omega (arith, ap length e, length-append x (drop n zeros), length-drop n zeros, length-replicate channel_limit (pos 0)) in
    centre_list_by n (centre_of x) l len
    (λ k h. ap (λ l. get_or l k (pos 0)) e ∙ get_or-append x (drop n zeros) (pos 0) k (omega arith))
    (λ k h.
    let at : k ≡ length x + (k - n) = omega arith in
    ap₂ (λ l i. get_or l i (pos 0)) e at ∙ get_or-append-add x (drop n zeros) (k - n) (pos 0)
    ∙ get_or-drop n zeros (k - n) (pos 0) ∙ zeros-at channel_limit (n + (k - n)))

-- a bound on X is one on all places
pub centre_list_most : (n C : ℕ) (X : ℕ → ℤ) → n ≤ channel_limit → ((k : ℕ) → k < n → nat_abs (X k) ≤ C) → (k : ℕ) → nat_abs (centre_of (centre_list n X) k) ≤ C
centre_list_most n C X most h k = go (dec_lt k n)
  where
    go : Dec (k < n) → nat_abs (centre_of (centre_list n X) k) ≤ C
    go (yes l) = omega (arith, ap nat_abs (centre_list_at n X k most l), h k l)
    go (no l) = omega (arith, ap nat_abs (centre_list_past n X k (omega arith)))

pub centre_list_cong : (n : ℕ) (X Y : ℕ → ℤ) → n ≤ channel_limit → ((k : ℕ) → k < n → X k ≡ Y k) → centre_list n X ≡ centre_list n Y
centre_list_cong n X Y most h =
    centre_list_by n Y (centre_list n X) (length_centre_list n X) (λ k l. centre_list_at n X k most l ∙ h k l)
    (λ k l. centre_list_past n X k l)

-- X with one channel more
module _ (X : ℕ → ℤ) (k : ℕ) (h : k < channel_limit) where
  pub centre_list_more : set (centre_list k X) k (X k) ≡ centre_list (k + 1) X
  centre_list_more =
      centre_list_by (k + 1) X (set (centre_list k X) k (X k)) (length-set (centre_list k X) k (X k) ∙ length_centre_list k X)
      (below_more (λ j. get_or (set (centre_list k X) k (X k)) j (pos 0) ≡ X j) k
      (λ j l. other j (omega arith) ∙ centre_list_at k X j (omega arith) l)
      (get_or-set_same (centre_list k X) k (X k) (pos 0) (omega (arith, length_centre_list k X))))
      (λ j l. other j (omega arith) ∙ centre_list_past k X j (omega arith))
    where
      other : (j : ℕ) → j ≢ k → get_or (set (centre_list k X) k (X k)) j (pos 0) ≡ get_or (centre_list k X) j (pos 0)
      other j e = get_or-set_other (centre_list k X) k j (X k) (pos 0) e

  -- as a loop has it: r, as the machine reads it, is stored in x
  pub centre_list_stored : (w : Width) (x : List ℤ) (r : ℤ) → nat_abs (X k) < 2 ^ hbits w → x ≡ centre_list k X → r ≡ X k
      → set x k (back w r) ≡ centre_list (k + 1) X
  centre_list_stored w x r small e f =
      ap₂ (λ y z. set y k (back w z)) e f ∙ ap (set (centre_list k X) k) (backw w (X k) small) ∙ centre_list_more
