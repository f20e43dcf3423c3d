-- Document 01, "Turned-back input", 8: rows that are lent with the codes of their channels, for any row limit and table of types.
--     given_within limit types rows m n codes     the rows and the n codes are within their limits
use Rattle.std.specs.Prelude.{ℕ, Bool, ◌&&◌, List, leb, ℤ, length, take}
use Rattle.geometry.specs.Table.{rows_within}
use Rattle.channel.specs.Channel.{Types, codes_known}

-- at least n codes are lent, and each of the first n is that of a type
abbrev pub given_within : ℕ → Types → List ℤ → ℕ → ℕ → List ℕ → Bool
given_within limit types rows m n codes = rows_within limit rows m n && (leb n (length codes) && codes_known types (take n codes))
