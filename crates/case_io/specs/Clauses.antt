-- What the functions ensure, each number with its bounds.
--     TwoBytes text at r     a number of two bytes
--     Least a b r            the smaller of two numbers
--     Number v r            a number of a digest
--     Raised most x r        x with most added, where x is within most of 0
use Rattle.std.specs.Prelude.{ℕ, ◌≤◌, ◌<◌, min, ◌≡◌, List, ℤ}
use Rattle.case_io.specs.Numbers.{two_bytes, raised_by}

pub record TwoBytes (text : List ℕ) (at r : ℕ) : Type 0 where
  pub is : r ≡ two_bytes text at
  pub most : r < 65536

pub record Least (a b r : ℕ) : Type 0 where
  pub is : r ≡ min a b
  pub first : r ≤ a
  pub second : r ≤ b

pub record Number (v r : ℕ) : Type 0 where
  pub is : r ≡ v
  pub small : r < 4294967296

pub record Raised (most x : ℤ) (r : ℕ) : Type 0 where
  pub is : r ≡ raised_by most x
  pub small : r < 4294967296
