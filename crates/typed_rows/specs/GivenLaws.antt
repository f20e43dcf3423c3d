-- What is lent of rows and codes, as facts, for any row limit and table of types.
--     given-within     rows and codes that are given are within their limits
--     within-given     and those that are within their limits may be given
use Rattle.std.specs.Prelude.{ℕ, ◌≤◌, ◌≡◌, true, ◌&&◌, List, leb, ℤ, length, take}
use Rattle.std.proofs.Common.{ap₂, leb-true, le-leb}
use Rattle.integers.specs.Tests.{both}
use Rattle.geometry.specs.Table.{rows_within}
use Rattle.channel.specs.Channel.{Types, codes_known}
use Rattle.typed_rows.specs.Given.{given_within}

module _ (limit : ℕ) (types : Types) (rows : List ℤ) (m n : ℕ) (codes : List ℕ) where
  pub given-within : given_within limit types rows m n codes ≡ true
      → (rows_within limit rows m n ≡ true) × (n ≤ length codes) × (codes_known types (take n codes) ≡ true)
  given-within h =
      let places = leb n (length codes) in
      let known = codes_known types (take n codes) in
      let parts = both (rows_within limit rows m n) (places && known) h in
      let codes-parts = both places known parts.1 in
      (parts.0, leb-true n (length codes) codes-parts.0, codes-parts.1)

  pub within-given : rows_within limit rows m n ≡ true → n ≤ length codes → codes_known types (take n codes) ≡ true
      → given_within limit types rows m n codes ≡ true
  within-given within typed known = ap₂ ◌&&◌ within (ap₂ ◌&&◌ (le-leb n (length codes) typed) known)
