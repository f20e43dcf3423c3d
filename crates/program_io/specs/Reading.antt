-- What a read answered, and what is answered for it.
--     TextRead                  whether all that there is was read, up to the places of the slice, and how many bytes that are
--     AfterRead                 what a read leads to: the answer, or the index where the next one goes on
--     text_read whole length    an answer
--     not_read                  a read failed
--     read_whole length         all was read, so many bytes
--     after_read got at         what follows from the number that a read answered which was to go on at index at: below 0 it failed, which is
--                              never taken for an end; 0 is the end; above 0 so many bytes more were read
use Rattle.std.specs.Prelude.{ℕ, zero, suc, ◌+◌, Bool, true, false, ℤ, pos, negsuc}

pub record TextRead : Type 0 where
  pub whole : Bool
  pub length : ℕ

pub data AfterRead : Type 0 where
  Done : TextRead → AfterRead
  More : ℕ → AfterRead

abbrev pub text_read : Bool → ℕ → TextRead
text_read whole length = record { whole = whole; length = length }

abbrev pub not_read : TextRead
not_read = text_read false 0

abbrev pub read_whole : ℕ → TextRead
read_whole length = text_read true length

abbrev pub after_read : ℤ → ℕ → AfterRead
after_read (negsuc k) at = Done not_read
after_read (pos zero) at = Done (read_whole at)
after_read (pos (suc k)) at = More (at + suc k)
