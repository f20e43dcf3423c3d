-- What the functions that find lines and fields answer.
--     PartEnd c s at e         the part of s that starts at index at ends at index e
--     block_length              how many bytes the search passes at once
--     LineAfter text at r      the line that starts at index at ends before index r, its byte 10 included
--     PastByte b s at found r  found where the byte b stands at index at, and then r is the index after it, else the same
--     FieldRead read s at r e  r is what is read of the field of s that starts at index at, which ends at index e
use Rattle.std.specs.Prelude.{ℕ, ◌+◌, ◌-◌, ◌≤◌, ◌<◌, Bool, cond, ◌≡◌, List, ◌∷◌, length, take, drop}
use Rattle.text.specs.Parts.{comma, line_end, part_end, parts_from}
use Rattle.text.specs.EndedLines.{with_ends}
use Rattle.text.specs.Fields.{starts_with}

pub record PartEnd (c : ℕ) (s : List ℕ) (at e : ℕ) : Type 0 where
  pub is : e ≡ part_end c s at
  pub low : at ≤ e
  pub high : e ≤ length s

abbrev pub block_length : ℕ
block_length = 8

pub record LineAfter (text : List ℕ) (at r : ℕ) : Type 0 where
  pub low : at < r
  pub high : r ≤ length text
  pub is : with_ends (parts_from line_end text at) ≡ take (r - at) (drop at text) ∷ with_ends (parts_from line_end text r)

pub record PastByte (b : ℕ) (s : List ℕ) (at : ℕ) (found : Bool) (r : ℕ) : Type 0 where
  pub is : found ≡ starts_with b (drop at s)
  pub next : r ≡ cond found (at + 1) at
  pub high : r ≤ length s

pub record FieldRead {A : Type 0} (read : List ℕ → A) (s : List ℕ) (at : ℕ) (r : A) (e : ℕ) : Type 0 where
  pub is : r ≡ read (take (e - at) (drop at s))
  pub ends : PartEnd comma s at e
