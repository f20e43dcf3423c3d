-- Laws of values of a channel.
--     value-print       a printed value is read as itself
--     print-value       what is read as v is what v is printed as
--     value-free        only digits, the hyphen and `<` stand in a printed value
--     far_outside       a number farther from 0 than both ends of a range is not in it
--     between           one in a range whose ends are within 4,000 of 0 is so too
--     half_is           the half of v is r exactly where 2·r ≤ v < 2·r + 2
--     reads-within      a value in range reads as a number from low to high
--     reads_most        which is within 4,000 of 0
--     value_limit        the most bytes of a value within the range of its type
--     value_short       such a value is printed in at most so many
use Rattle.std.specs.Prelude.{ℕ, suc, ◌+◌, ◌*◌, ◌/◌, ◌≤◌, ◌<◌, ◌≡◌, refl, Bool, true, false, not, cond, ◌&&◌, List, [], ◌∷◌, ◌⊎◌, ◌↔◌, eqb, leb, ℤ, pos, negsuc, nat_abs, length}
use Rattle.std.proofs.Common.{sym, ap, ap₂, ◌∙◌, ⊎_elim, leb-true, eqb-true, ne_eqb}
use Rattle.std.proofs.Math.Bool.{and-false}
use Rattle.std.proofs.Math.Option.{some, map, map-eq-some_iff, none-ne-some}
use Rattle.std.proofs.Math.Decide.{dec_le}
use native.Mathlib.Omega.{arith}
use Rattle.std.proofs.lemmas.Bool.{lt-leb, eqb-false}
use Rattle.std.specs.Int.Signed.{le_z}
use Rattle.text.specs.Parts.{free}
use Rattle.integers.specs.Ring.{pos_inj}
use Rattle.integers.specs.Order.{⊑_trans, ⊑-ℕ, le_z_true, le_le_z}
use Rattle.integers.specs.Tests.{both, clash}
use Rattle.number.specs.Number.{hyphen, digit_zero, digit_nine, is_digit, plain, print}
use Rattle.number.specs.NumberLaws.{plain-print, print-plain, print-free, print_first, magnitude_short, print_short}
use Rattle.channel.specs.Channel.{Types, type_of}
use Rattle.channel.specs.Clauses.{range_of}
use Rattle.channel.specs.ChannelLaws.{SoundTypes, range_within, range_zero}
use Rattle.limits.specs.Limits.{coordinate_limit, coordinate_digits}
use Rattle.value.specs.Value.{Written, number, below, less_than, value_of, value_in_range, half, reads, print_value}

-- ---- printing

-- no number starts with `<`
number_first : (b : ℕ) → (is_digit b ≡ true) ⊎ (b ≡ hyphen) → eqb b less_than ≡ false
number_first b h =
    ⊎_elim (λ d. ne_eqb b less_than (λ e. omega (arith, leb-true b digit_nine (both (leb digit_zero b) (leb b digit_nine) d).1)))
    (λ d. ne_eqb b less_than (λ e. omega arith)) h

pub value-print : (v : Written) → value_of (print_value v) ≡ some v
unfolding value_of print_value
value-print (number z) =
    let f = print_first z in
    ap value_of f.2
    ∙ ap (λ t. cond t (map below (plain f.1)) (map number (plain (f.0 ∷ f.1)))) (number_first f.0 f.3)
    ∙ ap (λ l. map number (plain l)) (sym f.2)
    ∙ ap (map number) (plain-print z)
value-print (below z) = ap (map below) (plain-print z)

pub print-value : (l : List ℕ) (v : Written) → value_of l ≡ some v → print_value v ≡ l
unfolding value_of print_value
print-value [] v h = absurd (none-ne-some v h)
print-value (b ∷ l) v h = go (eqb b less_than) refl h
  where
    go : (t : Bool) → eqb b less_than ≡ t → cond t (map below (plain l)) (map number (plain (b ∷ l))) ≡ some v
        → print_value v ≡ b ∷ l
    go true e h =
        let z = (map-eq-some_iff below (plain l)).0 h in
        sym (ap print_value z.2) ∙ ap₂ ◌∷◌ (sym (eqb-true b less_than e)) (print-plain l z.0 z.1)
    go false e h =
        let z = (map-eq-some_iff number (plain (b ∷ l))).0 h in
        sym (ap print_value z.2) ∙ print-plain (b ∷ l) z.0 z.1

pub value-free : (c : ℕ) → is_digit c ≡ false → eqb c hyphen ≡ false → eqb c less_than ≡ false → (v : Written) → free c (print_value v) ≡ true
unfolding print_value free
value-free c d h l (number z) = print-free c d h z
value-free c d h l (below z) = ap₂ (λ a b. not a && b) (ne_eqb less_than c (λ e. eqb-false c less_than l (sym e))) (print-free c d h z)

-- ---- ranges

far_below : (low : ℤ) (k : ℕ) → nat_abs low < suc k → le_z low (negsuc k) ≡ false
far_below (pos a) k h = refl
far_below (negsuc a) k h = lt-leb k a (omega arith)

far_above : (high : ℤ) (n : ℕ) → nat_abs high < n → le_z (pos n) high ≡ false
far_above (pos a) n h = lt-leb n a h
far_above (negsuc a) n h = refl

pub far_outside : (low high z : ℤ) → nat_abs low < nat_abs z → nat_abs high < nat_abs z → (le_z low z && le_z z high) ≡ false
far_outside low high (pos n) l h = ap (λ b. le_z low (pos n) && b) (far_above high n h) ∙ and-false (le_z low (pos n))
far_outside low high (negsuc k) l h = ap (λ b. b && le_z (negsuc k) high) (far_below low k l)

pub between : (low high z : ℤ) → (nat_abs low ≤ coordinate_limit) × (nat_abs high ≤ coordinate_limit) → (le_z low z && le_z z high) ≡ true → nat_abs z ≤ coordinate_limit
between low high z ends h = go (dec_le (nat_abs z) coordinate_limit)
  where
    go : Dec (nat_abs z ≤ coordinate_limit) → nat_abs z ≤ coordinate_limit
    go (yes k) = k
    go (no k) = clash h (far_outside low high z (omega (arith, ends)) (omega (arith, ends)))

-- a hyphen or `<`, and as many digits as the largest coordinate has
abbrev pub value_limit : ℕ
value_limit = 1 + coordinate_digits

-- `<` stands before a number without a hyphen
below_short : (z : ℤ) → le_z (pos 1) z ≡ true → nat_abs z ≤ coordinate_limit → length (less_than ∷ print z) ≤ value_limit
unfolding print
below_short (pos n) h k = omega (arith, magnitude_short coordinate_digits n (omega arith) (omega arith))
below_short (negsuc i) h k = clash h refl

-- ---- below detection

pub half_is : (v r : ℕ) → ((2 * r ≤ v) × (v < 2 * r + 2)) ↔ (half (pos v) ≡ pos r)
half_is v r = (
  λ h. let same : v / 2 ≡ r = omega (arith, h) in ap pos same,
  λ e. let same : v / 2 ≡ r = pos_inj e in (omega arith, omega arith),
)

-- half of a number from 1 to the high is from 0 to the high
half_between : (low high v : ℤ) → le_z low (pos 0) ≡ true → le_z (pos 1) v ≡ true → le_z v high ≡ true
    → (le_z low (half v) ≡ true) × (le_z (half v) high ≡ true)
half_between low high (pos n) l f h = (
  le_le_z low (half (pos n)) (⊑_trans (le_z_true low (pos 0) l) ((⊑-ℕ (pos 0) (half (pos n))).1 (omega arith))),
  le_le_z (half (pos n)) high (⊑_trans ((⊑-ℕ (half (pos n)) (pos n)).1 (omega arith)) (le_z_true (pos n) high h)),
)
half_between low high (negsuc k) l f h = clash f refl

module _ (types : Types) (sound : SoundTypes types) (code : ℕ) where
  pub reads-within : (v : Written) → value_in_range (range_of types code) v ≡ true
      → (le_z (type_of types code).low (reads v) ≡ true) × (le_z (reads v) (type_of types code).high ≡ true)
  reads-within (number z) h = both (le_z (type_of types code).low z) (le_z z (type_of types code).high) h
  reads-within (below z) h =
      let ends = both (le_z (pos 1) z) (le_z z (type_of types code).high) h in
      half_between (type_of types code).low (type_of types code).high z (range_zero types sound code).0 ends.0 ends.1

  pub reads_most : (v : Written) → value_in_range (range_of types code) v ≡ true → nat_abs (reads v) ≤ coordinate_limit
  reads_most v h =
      let w = reads-within v h in
      between (type_of types code).low (type_of types code).high (reads v) (range_within types sound code) (ap₂ ◌&&◌ w.0 w.1)

  pub value_short : (v : Written) → value_in_range (range_of types code) v ≡ true → length (print_value v) ≤ value_limit
  unfolding print_value
  value_short (number z) h = print_short coordinate_digits z (omega arith) (omega (arith, reads_most (number z) h))
  value_short (below z) h =
      below_short z (both (le_z (pos 1) z) (le_z z (type_of types code).high) h).0
      (between (pos 1) (type_of types code).high z (omega arith, (range_within types sound code).1) h)
