use Prim.Native.Nat.{◌<◌}
use mathlib.Core.Bool.{false}
use mathlib.Core.Path.{◌≡◌, refl, sym, ◌∙◌}
use native.Mathlib.Omega.{arith}
use borrow.Author.Tests.{leb-true}
use lib.ListN.{length, get_or}
use Rattle.std.proofs.Common.{ℕ, List, drop, ◌+◌, ◌≤◌}
use Rattle.text.specs.Fields.{leading}
use Rattle.integers.specs.Tests.{both}
use Rattle.number.specs.Number.{is_digit, digits_from}
use Rattle.number.specs.Clauses.{LeadingDigits, magnitude_limit, magnitude_read}
use Rattle.number.specs.ContractLaws.{digits_end, digits_more}
use Rattle.number.proofs.leading_digits.Goals as goal

-- where no digit stands at i the digits end there
ended : (line : List ℕ) (at i n : ℕ) → i ≤ length line → n ≤ magnitude_limit
    → at + length (leading is_digit (drop at line)) ≡ i + length (leading is_digit (drop i line))
    → magnitude_read (digits_from (leading is_digit (drop at line)) 0) ≡ magnitude_read (digits_from (leading is_digit (drop i line)) n)
    → (i < length line → is_digit (get_or line i 0) ≡ false) → LeadingDigits line at n i
ended line at i n within most ends is h =
    let none = digits_end line i n h most in
    record { is = sym (is ∙ none.0); ends = omega (arith, ends, none.1); high = within }

pub loop-i-init : goal.loop-i-init
loop-i-init c = (omega arith, refl, refl)

pub returns-then-not-is_digit : goal.returns-then-not-is_digit
returns-then-not-is_digit c =
    let k = c.loop-i.invariant in
    ended _ _ _ _ (omega arith) k.0 k.1 k.2 (λ _. sym c.is_digit.ensures ∙ c.if-not-is_digit.true)

pub with_digit-magnitude-requires : goal.with_digit-magnitude-requires
with_digit-magnitude-requires c =
    let tests = both _ _ (sym c.is_digit.ensures ∙ c.if-not-is_digit.false) in
    (c.loop-i.invariant.0, leb-true _ _ tests.0, leb-true _ _ tests.1)

pub loop-i-preserved : goal.loop-i-preserved
loop-i-preserved c =
    let more =
    digits_more c.args.line.now c.loop-i.i c.loop-i.magnitude c.with_digit-magnitude.result
    c.loop-i-test.true (sym c.is_digit.ensures ∙ c.if-not-is_digit.false) c.with_digit-magnitude.ensures in
    (omega (arith, c.with_digit-magnitude.ensures), c.loop-i.invariant.1 ∙ omega (arith, more.1), c.loop-i.invariant.2 ∙ more.0)

pub returns : goal.returns
returns c =
    let k = c.loop-i.invariant in
    let end : length c.args.line.now ≡ c.loop-i.i = omega arith in
    rw end (ended _ _ c.loop-i.i _ (omega arith) k.0 k.1 k.2 (λ h. absurd (omega arith)))
