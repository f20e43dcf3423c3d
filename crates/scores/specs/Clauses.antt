-- What the functions that carry e give, each by an equation with its definition.
--     score_of scores i                      the score of row i in a list of scores
--     column_of rows n j i                   the squared distance of the rows i and j
--     ScoresWithin m scores                 there are m scores, within the limit on s
--     Gainable                              t times a column can be added to the scores
--     offset                                what is added to a difference of squared distances, so that it is 0 or more
--     Shifting, Shiftable                   t times one squared distance, or column, can be added and t times another taken off
--     ColumnFilled rows m n j base ..       the column of row j is put into the places from `base` on, and no other place changes
--     IsColumn rows m n j base columns      the column of row j stands in the places from `base` on
--     column_limit                           the most columns that are kept
--     Columns rows m n kept columns         each slot that names a row holds that row's column
--     Keeping rows m n .. next              the columns that are kept from move to move
--     slot_beside next slot                  the slot that is filled next, that of a column in use passed over
--     Elsewhere slot before after           no place outside a slot has changed
--     KeptFor rows m n c                     the same of a value of the code
--     ColumnKept rows m n j before after slot     the column of row j is kept in a slot, and no place outside the slot that was filled next has changed
--     Raisable, Raised                      t times the column of a row can be added to the scores, and is
--     Carriable, Carried                    and that of another row taken off them, of the two rows of a move
-- The bounds are those of the largest total, `total`, which the machine's numbers hold.
use Rattle.std.specs.Prelude.{ℕ, ◌+◌, ◌-◌, ◌*◌, ◌%◌, ◌≤◌, ◌<◌, ◌≡◌, cond, ◌⊎◌, List, eqb, ℤ, length, get_or}
use Rattle.lists.specs.Placed.{Placed}
use Rattle.geometry.specs.Figures.{squared_distance}
use Rattle.geometry.specs.Table.{coordinate}
use Rattle.geometry.specs.Clauses.{Table}
use Rattle.limits.specs.Limits.{total, row_limit, distance_limit, separation_limit}
use Rattle.scores.specs.declared.kept.KeptColumns.{KeptColumns}

-- the score of row i: places past the end of the list are 0
abbrev pub score_of : List ℕ → ℕ → ℕ
score_of scores i = get_or scores i 0

abbrev pub column_of : List ℤ → ℕ → ℕ → ℕ → ℕ
column_of rows n j i = squared_distance n (coordinate rows n i) (coordinate rows n j)

-- m scores, within the limit on s
pub record ScoresWithin (m : ℕ) (scores : List ℕ) : Type 0 where
  pub places : m ≤ length scores
  pub most : (i : ℕ) → i < m → score_of scores i ≤ distance_limit total

-- the places of a column, t and the scores are such that a u64 holds the sums
pub record Gainable (m : ℕ) (scores columns : List ℕ) (base t : ℕ) : Type 0 where
  pub within : ScoresWithin m scores
  pub column : base + m ≤ length columns
  pub factor : t ≤ total

-- above every squared distance of two rows
abbrev pub offset : ℕ
offset = 1073741824

-- t times one squared distance can be added to a score, and t times another taken off it
pub record Shifting (score t gained lost : ℕ) : Type 0 where
  pub score_most : score ≤ distance_limit total
  pub factor : t ≤ total
  pub gained_most : gained ≤ separation_limit
  pub lost_most : lost ≤ separation_limit
  pub held : t * lost ≤ score

pub record Shiftable (m : ℕ) (scores columns : List ℕ) (gained lost t : ℕ) : Type 0 where
  pub places : m ≤ length scores
  pub gained_places : gained + m ≤ length columns
  pub lost_places : lost + m ≤ length columns
  pub each : (i : ℕ) → i < m → Shifting (score_of scores i) t (get_or columns (gained + i) 0) (get_or columns (lost + i) 0)

pub record ColumnFilled (rows : List ℤ) (m n j base : ℕ) (old new : List ℕ) : Type 0 where
  pub placed : Placed (λ p. column_of rows n j (p - base)) base old new (base + m)

pub record IsColumn (rows : List ℤ) (m n j base : ℕ) (columns : List ℕ) : Type 0 where
  pub places : base + m ≤ length columns
  pub is : (i : ℕ) → i < m → get_or columns (base + i) 0 ≡ column_of rows n j i

-- the most columns that are kept
abbrev pub column_limit : ℕ
column_limit = 32

-- a slot has a place for each row that there may be; one that names no row of the table holds no column
pub record Columns (rows : List ℤ) (m n : ℕ) (kept columns : List ℕ) : Type 0 where
  pub slots : length kept ≡ column_limit
  pub places : length columns ≡ column_limit * row_limit
  pub are : (slot : ℕ) → slot < column_limit → get_or kept slot 0 < m → IsColumn rows m n (get_or kept slot 0) (slot * row_limit) columns

-- the columns that are kept, a slot remembered for each row, and the slot that is filled next
pub record Keeping (rows : List ℤ) (m n : ℕ) (columns kept slots : List ℕ) (next : ℕ) : Type 0 where
  pub all : Columns rows m n kept columns
  pub by_row : length slots ≡ row_limit
  pub next_within : next < column_limit

-- the columns that are kept, as the code has them together
abbrev pub KeptFor : List ℤ → ℕ → ℕ → KeptColumns → Type 0
KeptFor rows m n c = Keeping rows m n c.columns c.kept c.slots c.next

-- the slot that is filled next, or the one after it where it is a given one
abbrev pub slot_beside : ℕ → ℕ → ℕ
slot_beside next slot = cond (eqb next slot) ((next + 1) % column_limit) next

-- no place outside a slot has changed
pub record Elsewhere (slot : ℕ) (before after : List ℕ) : Type 0 where
  pub same_length : length after ≡ length before
  pub same : (p : ℕ) → (p < slot * row_limit) ⊎ ((slot + 1) * row_limit ≤ p) → get_or after p 0 ≡ get_or before p 0

-- the column of row j is in a slot, and no slot but the one that was filled next has changed
pub record ColumnKept (rows : List ℤ) (m n j : ℕ) (before after : KeptColumns) (slot : ℕ) : Type 0 where
  pub slot_within : slot < column_limit
  pub column : IsColumn rows m n j (slot * row_limit) after.columns
  pub keeping : KeptFor rows m n after
  pub elsewhere : Elsewhere before.next before.columns after.columns

-- t times the column of row j can be added to the scores
pub record Raisable (rows : List ℤ) (m n j t : ℕ) (scores : List ℕ) : Type 0 where
  pub table : Table rows m n
  pub row : j < m
  pub factor : t ≤ total
  pub within : ScoresWithin m scores

-- each score has risen by t times the squared distance from row j
pub record Raised (rows : List ℤ) (m n j t : ℕ) (before after : List ℕ) : Type 0 where
  pub same_length : length after ≡ length before
  pub are : (i : ℕ) → i < m → score_of after i ≡ score_of before i + t * column_of rows n j i

-- t can move from one row to another in the scores: e of every row holds t times its squared distance from the row that loses t
pub record Carriable (rows : List ℤ) (m n from to t : ℕ) (scores : List ℕ) : Type 0 where
  pub table : Table rows m n
  pub from_within : from < m
  pub to_within : to < m
  pub factor : t ≤ total
  pub within : ScoresWithin m scores
  pub held : (i : ℕ) → i < m → t * column_of rows n from i ≤ score_of scores i

pub record Carried (rows : List ℤ) (m n from to t : ℕ) (before after : List ℕ) : Type 0 where
  pub same_length : length after ≡ length before
  pub are : (i : ℕ) → i < m → score_of after i + t * column_of rows n from i ≡ score_of before i + t * column_of rows n to i
