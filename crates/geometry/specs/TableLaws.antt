-- Laws of what the functions ask of their arguments.
--     places_within_at, places_within_by     the test of the places, at each place
--     PlacesSoFar                          a loop that tests place by place has found the first ones within the bound
--     places_none, places_next             at its start, and after a place that is within
--     places_fail, places_done             at a place that is not, and at its end
--     row-end                              a row's places end within the table
--     within_limits, within-table          the test of the limits, as the record
--     table-row                            a row of such a table
--     weights-within                       weights of sum D are within what D is at most
--     weight_most_lem                          a weight is at most what the sum is at most
--     weights-passed, weights_next         so are the weights of the first rows
--     row-held, centre_held                an element of a row and of X, as a callee is passed it
use Prim.Native.Nat.{ℕ, zero, suc, ◌+◌, ◌*◌, ◌≤◌, ◌<◌, zero-le}
use Rattle.std.specs.Prelude.{◌≡◌, ◌⊎◌, Bool, true, not, List, leb, ℤ, pos, length, get_or}
use Rattle.std.proofs.Math.Path.{refl, sym, ap, ap₂}
use Rattle.std.proofs.Common.{◌∙◌, inl, inr, le_refl, le_antisymm, mul-le-mul_right, suc-mul, add-one, SFits, to_z-of_z}
use Rattle.std.proofs.Math.Bool.{false, ◌&&◌, and-false}
use native.Mathlib.Omega.{arith}
use Rattle.std.proofs.Math.Decide.{dec_lt}
use borrow.Author.Tests.{leb-true, le-leb, not-true, not-false}
use Rattle.std.proofs.Math.IntN.{nat_abs}
use Rattle.std.specs.Int.{Width, w32, w64}
use Rattle.integers.specs.Tests.{both}
use Rattle.integers.specs.Sum.{sumℕ}
use Rattle.integers.specs.SumLaws.{last_or_below, sumℕ_term, sumℕ_next, sumℕ-part}
use Rattle.integers.specs.Absolute.{fits32, fits64}
use Rattle.integers.specs.Reading.{back, Reads, held}
use Rattle.geometry.specs.Table.{coordinate, places_within, rows_within}
use Rattle.limits.specs.Limits.{total, row_limit, channel_limit, coordinate_limit, centre_limit}
use Rattle.geometry.specs.Move.{weight_of}
use Rattle.geometry.specs.Places.{weights_total, centre_of}
use Rattle.geometry.specs.Clauses.{CentreWithin, RowAt, TableWithin, Table, WeightsWithin, WeightsOf}

module _ (bound : ℕ) (l : List ℤ) where
  -- the test of one place
  abbrev within : ℕ → Bool
  within i = leb (nat_abs (get_or l i (pos 0))) bound

  pub places_within_at : (c : ℕ) → places_within bound c l ≡ true → (j : ℕ) → j < c → nat_abs (get_or l j (pos 0)) ≤ bound
  unfolding places_within
  places_within_at zero h j b = absurd (omega arith)
  places_within_at (suc c) h j b = go (places_within_at c (both (places_within bound c l) (within c) h).0 j) (last_or_below c j b)
    where
      go : (j < c → nat_abs (get_or l j (pos 0)) ≤ bound) → (j ≡ c) ⊎ (j < c) → nat_abs (get_or l j (pos 0)) ≤ bound
      go r (inl e) = rw e (leb-true (nat_abs (get_or l c (pos 0))) bound (both (places_within bound c l) (within c) h).1)
      go r (inr b) = r b

  pub places_within_by : (c : ℕ) → ((j : ℕ) → j < c → nat_abs (get_or l j (pos 0)) ≤ bound) → places_within bound c l ≡ true
  unfolding places_within
  places_within_by zero h = refl
  places_within_by (suc c) h =
      rw (places_within_by c (λ j b. h j (omega arith)), le-leb (nat_abs (get_or l c (pos 0))) bound (h c (le_refl (suc c))))

  places_within_next : (i : ℕ) → places_within bound i l ≡ true → within i ≡ true → places_within bound (i + 1) l ≡ true
  unfolding places_within
  places_within_next i a b = ap (λ j. places_within bound j l) (add-one i) ∙ ap₂ ◌&&◌ a b

  places_within_fails : (c i : ℕ) → i < c → within i ≡ false → false ≡ places_within bound c l
  unfolding places_within
  places_within_fails zero i b e = absurd (omega arith)
  places_within_fails (suc c) i b e = go (dec_lt i c) (places_within_fails c i)
    where
      go : Dec (i < c) → (i < c → within i ≡ false → false ≡ places_within bound c l) → false ≡ (places_within bound c l && within c)
      go (yes h) r = ap (λ b. b && within c) (r h e)
      go (no h) r =
          let d : c ≡ i = omega arith in
          sym (ap (λ b. places_within bound c l && b) (ap within d ∙ e) ∙ and-false (places_within bound c l))

-- before turn i of a loop that tests count places
pub record PlacesSoFar (bound : ℕ) (l : List ℤ) (count i : ℕ) : Type 0 where
  pub most : i ≤ count
  pub so_far : places_within bound i l ≡ true

module _ (bound : ℕ) (l : List ℤ) (count : ℕ) where
  pub places_none : PlacesSoFar bound l count 0
  unfolding places_within
  places_none = record { most = zero-le; so_far = refl }

  -- r is the test of what the machine reads of place i
  module _ (w : Width) (i : ℕ) (below : i < count) (f : SFits w (get_or l i (pos 0))) (r : Bool)
      (e : r ≡ leb (nat_abs (back w (get_or l i (pos 0)))) bound) where
    tested : within bound l i ≡ r
    tested = ap (λ z. leb (nat_abs z) bound) (sym (to_z-of_z f)) ∙ sym e

    pub places_next : PlacesSoFar bound l count i → not r ≡ false → PlacesSoFar bound l count (i + 1)
    places_next p t =
        record { most = omega arith; so_far = places_within_next bound l i p.so_far (tested ∙ not-false r t) }

    pub places_fail : not r ≡ true → false ≡ places_within bound count l
    places_fail t = places_within_fails bound l count i below (tested ∙ not-true r t)

  pub places_done : (i : ℕ) → PlacesSoFar bound l count i → count ≤ i → true ≡ places_within bound count l
  places_done i p h = sym p.so_far ∙ ap (λ j. places_within bound j l) (le_antisymm p.most h)

-- a place of row i lies before the table's end
pub row-end : (i m n : ℕ) → i < m → i * n + n ≤ m * n
row-end i m n h = omega (arith, suc-mul i n, mul-le-mul_right n h)

pub within_limits : (limit : ℕ) (rows : List ℤ) (m n : ℕ) → rows_within limit rows m n ≡ true → TableWithin limit rows m n
unfolding rows_within coordinate
within_limits limit rows m n h =
    let channels = leb 1 n && leb n channel_limit in
    let counts = leb 1 m && leb m limit in
    let table = leb (m * n) (length rows) && places_within coordinate_limit (m * n) rows in
    let parts = both channels (counts && table) h in
    let row-parts = both counts table parts.1 in
    let channel-tests = both (leb 1 n) (leb n channel_limit) parts.0 in
    let count-tests = both (leb 1 m) (leb m limit) row-parts.0 in
    let table-tests = both (leb (m * n) (length rows)) (places_within coordinate_limit (m * n) rows) row-parts.1 in
    record {
      some_channel = leb-true 1 n channel-tests.0;
      channels = leb-true n channel_limit channel-tests.1;
      some_row = leb-true 1 m count-tests.0;
      rows_most = leb-true m limit count-tests.1;
      places = leb-true (m * n) (length rows) table-tests.0;
      bound = λ i k hi hk. places_within_at coordinate_limit rows (m * n) table-tests.1 (i * n + k) (omega (arith, row-end i m n hi));
    }

pub within-table : (rows : List ℤ) (m n : ℕ) → rows_within row_limit rows m n ≡ true → Table rows m n
within-table = within_limits row_limit

module _ {rows : List ℤ} {m n : ℕ} (t : Table rows m n) where
  pub table-row : (i : ℕ) → i < m → RowAt rows n i
  table-row i h =
      record {
        channels = t.channels;
        places = omega (arith, row-end i m n h, t.places);
        bound = λ k l. t.bound i k h l;
      }

pub weights-within : {D B m : ℕ} {ws : List ℕ} → D ≤ B → WeightsOf D m ws → WeightsWithin B m ws
weights-within h g = record { places = g.places; most = omega (arith, g.sum) }

module _ {B m : ℕ} {ws : List ℕ} (g : WeightsWithin B m ws) (i : ℕ) where
  pub weight_most_lem : i < m → get_or ws i 0 ≤ B
  unfolding weights_total
  weight_most_lem l = omega (arith, sumℕ_term (weight_of ws) m i l, g.most)

  -- the weights of the rows passed, and with the next row's
  pub weights-passed : i ≤ m → sumℕ i (weight_of ws) ≤ B
  unfolding weights_total
  weights-passed l = omega (arith, sumℕ-part (weight_of ws) m i l, g.most)

  pub weights_next : i < m → sumℕ i (weight_of ws) + weight_of ws i ≤ B
  unfolding weights_total
  weights_next l = omega (arith, sumℕ_next (weight_of ws) i, sumℕ-part (weight_of ws) m (i + 1) (omega arith), g.most)

-- ---- an element of a row and of X, as a callee is passed it

pub row-held : {rows : List ℤ} {n i : ℕ} → RowAt rows n i → (k : ℕ) → k < n
    → Reads (back w32 (get_or rows (i * n + k) (pos 0))) (coordinate rows n i k) coordinate_limit
unfolding coordinate
row-held {rows} {n} {i} r k l = held (fits32 (get_or rows (i * n + k) (pos 0)) (omega (arith, r.bound k l))) (r.bound k l)

pub centre_held : {n : ℕ} {x : List ℤ} → CentreWithin n x → (k : ℕ) → k < n
    → Reads (back w64 (centre_of x k)) (centre_of x k) (centre_limit total)
centre_held {x = x} r k l = held (fits64 (centre_of x k) (omega (arith, r.bound k l))) (r.bound k l)
