-- Laws of the columns that are kept.
--     column_filled       the places that a column was put into hold it
--     columns_filled      and every other slot that names a row holds that row's still
--     filled_elsewhere    no place outside the slot that was filled has changed
--     column_elsewhere    a slot in which no place has changed holds the column that it held
--     beside_same, beside_other     the slot that is filled next where it is the one passed over, and where it is not
--     beside_within, beside_apart   it is one of the slots, and not the one passed over
--     raised              the scores once t times a column is added
--     shiftable, carried  both columns of a move
--     columns_none        where every slot names a row past the last, no column is kept
use Rattle.std.specs.Prelude.{ℕ, ◌+◌, ◌-◌, ◌*◌, ◌%◌, ◌≤◌, ◌<◌, ◌≡◌, ◌⊎◌, cond, List, ℤ, length, get_or, set}
use Rattle.std.proofs.Common.{zero-le, sym, ◌∙◌, ap, subst, inl, inr, ⊎_elim, arith, eq-eqb, ne_eqb, length-set, get_or-set_same, get_or-set_other}
use Rattle.std.proofs.Math.Decide.{dec_lt, ℕ_discrete}
use Rattle.geometry.proofs.ScoreLaws.{separation-within}
use Rattle.limits.specs.Limits.{row_limit}
use Rattle.lists.specs.Placed.{Placed}
use Rattle.scores.specs.Clauses.{score_of, column_of, column_limit, slot_beside, Elsewhere, ColumnFilled, IsColumn, Columns, Shiftable, Raised, Carriable, Carried}

module _ {rows : List ℤ} {m n j base : ℕ} {columns later : List ℕ}
    (filled : ColumnFilled rows m n j base columns later) where
  pub column_filled : base + m ≤ length columns → IsColumn rows m n j base later
  column_filled places =
      record {
        places = omega (arith, filled.placed.same_length);
        is = λ i l. filled.placed.given (base + i) (omega arith) (omega arith) ∙ ap (column_of rows n j) (row i);
      }
    where
      row : (i : ℕ) → base + i - base ≡ i
      row i = omega arith

pub filled_elsewhere : {rows : List ℤ} {m n j slot : ℕ} {columns later : List ℕ} → m ≤ row_limit → ColumnFilled rows m n j (slot * row_limit) columns later
    → Elsewhere slot columns later
filled_elsewhere {slot = slot} {columns} {later} most filled =
    record {
      same_length = filled.placed.same_length;
      same = λ p. ⊎_elim (λ l. filled.placed.before p l) (λ l. filled.placed.after p (omega arith));
    }

pub column_elsewhere : {rows : List ℤ} {m n slot : ℕ} {columns later : List ℕ} → m ≤ row_limit → Elsewhere slot columns later
    → {k other : ℕ} → (other ≡ slot → ⊥) → IsColumn rows m n k (other * row_limit) columns → IsColumn rows m n k (other * row_limit) later
column_elsewhere {slot = slot} most still {other = other} ne column =
    record {
      places = omega (arith, still.same_length, column.places);
      is = λ i l. still.same (other * row_limit + i) (apart other i (dec_lt other slot) ne (omega arith)) ∙ column.is i l;
    }
  where
    apart : (other i : ℕ) → Dec (other < slot) → (other ≡ slot → ⊥) → i < row_limit → (other * row_limit + i < slot * row_limit) ⊎ ((slot + 1) * row_limit ≤ other * row_limit + i)
    apart other i (yes l) ne h = inl (omega arith)
    apart other i (no l) ne h = inr (omega arith)

module _ {rows : List ℤ} {m n j : ℕ} {kept columns later : List ℕ} (most : m ≤ row_limit) (all : Columns rows m n kept columns)
    (slot : ℕ) (within : slot < column_limit)
    (filled : ColumnFilled rows m n j (slot * row_limit) columns later) where
  pub columns_filled : Columns rows m n (set kept slot j) later
  columns_filled =
      record {
        slots = length-set kept slot j ∙ all.slots;
        places = filled.placed.same_length ∙ all.places;
        are = λ other l named. go other l named (ℕ_discrete other slot);
      }
    where
      named_here : {other : ℕ} → other ≡ slot → j ≡ get_or (set kept slot j) other 0
      named_here e = sym (ap (λ s. get_or (set kept slot j) s 0) e ∙ get_or-set_same kept slot j 0 (omega (arith, all.slots)))

      go : (other : ℕ) → other < column_limit → get_or (set kept slot j) other 0 < m → Dec (other ≡ slot)
          → IsColumn rows m n (get_or (set kept slot j) other 0) (other * row_limit) later
      go other l named (yes e) =
          subst (λ k. IsColumn rows m n k (other * row_limit) later) (named_here e)
          (subst (λ s. IsColumn rows m n j (s * row_limit) later) (sym e) (column_filled filled (omega (arith, all.places))))
      go other l named (no ne) =
          let same = get_or-set_other kept slot other j 0 ne in
          subst (λ k. IsColumn rows m n k (other * row_limit) later) (sym same)
          (column_elsewhere most (filled_elsewhere most filled) ne (all.are other l (omega (arith, same))))

pub columns_none : {rows : List ℤ} {m n : ℕ} {kept columns : List ℕ} → length kept ≡ column_limit → length columns ≡ column_limit * row_limit
    → ((slot : ℕ) → slot < column_limit → m ≤ get_or kept slot 0) → Columns rows m n kept columns
columns_none slots places none = record { slots = slots; places = places; are = λ slot l named. absurd (omega (arith, none slot l)) }

-- ---- the slot that is filled next

module _ {next slot : ℕ} where
  pub beside_same : next ≡ slot → slot_beside next slot ≡ (next + 1) % column_limit
  beside_same e = ap (λ t. cond t ((next + 1) % column_limit) next) (eq-eqb next slot e)

  pub beside_other : (next ≡ slot → ⊥) → slot_beside next slot ≡ next
  beside_other ne = ap (λ t. cond t ((next + 1) % column_limit) next) (ne_eqb next slot ne)

module _ (slot : ℕ) {next : ℕ} (within : next < column_limit) where
  pub beside_within : slot_beside next slot < column_limit
  beside_within = go (ℕ_discrete next slot)
    where
      go : Dec (next ≡ slot) → slot_beside next slot < column_limit
      go (yes e) = omega (arith, beside_same e)
      go (no ne) = omega (arith, beside_other ne)

  pub beside_apart : slot ≡ slot_beside next slot → ⊥
  beside_apart = go (ℕ_discrete next slot)
    where
      go : Dec (next ≡ slot) → slot ≡ slot_beside next slot → ⊥
      go (yes e) h = omega (arith, h ∙ beside_same e)
      go (no ne) h = ne (sym (h ∙ beside_other ne))

-- ---- scores and columns

pub raised : {rows : List ℤ} {m n j base : ℕ} {columns : List ℕ} → IsColumn rows m n j base columns → {t : ℕ} {before after : List ℕ}
    → Placed (λ i. score_of before i + t * get_or columns (base + i) 0) 0 before after m → Raised rows m n j t before after
raised column {t} {before} placed =
    record {
      same_length = placed.same_length;
      are = λ i l. placed.given i zero-le l ∙ ap (λ d. score_of before i + t * d) (column.is i l);
    }

-- the two columns of a move
module _ {rows : List ℤ} {m n from to t gained lost : ℕ} {before columns : List ℕ} (asked : Carriable rows m n from to t before)
    (gains : IsColumn rows m n to gained columns) (loses : IsColumn rows m n from lost columns) where
  taken_off : (i : ℕ) → i < m → t * get_or columns (lost + i) 0 ≤ score_of before i
  taken_off i l = subst (λ d. t * d ≤ score_of before i) (sym (loses.is i l)) (asked.held i l)

  pub shiftable : Shiftable m before columns gained lost t
  shiftable =
      record {
        places = asked.within.places;
        gained_places = gains.places;
        lost_places = loses.places;
        each = λ i l.
            record {
              score_most = asked.within.most i l;
              factor = asked.factor;
              gained_most = omega (arith, gains.is i l, separation-within asked.table i to l asked.to_within);
              lost_most = omega (arith, loses.is i l, separation-within asked.table i from l asked.from_within);
              held = taken_off i l;
            };
      }

  pub carried : {after : List ℕ}
      → Placed (λ i. score_of before i + t * get_or columns (gained + i) 0 - t * get_or columns (lost + i) 0) 0 before after m
      → Carried rows m n from to t before after
  carried placed =
      record {
        same_length = placed.same_length;
        are = λ i l.
            omega (arith, placed.given i zero-le l, taken_off i l, ap (λ d. t * d) (gains.is i l), ap (λ d. t * d) (loses.is i l));
      }
