-- Truth values of tests.
--     clash                                 no test is true and false
--     unlike                                nothing is both there and missing
--     both                                  both parts of a test that holds
--     neither                               both parts of an alternative that does not hold
--     impossible, nonzero                   what follows where two constructors are equal, or a number above 0 is 0
--     refuted                               a test that cannot hold
--     test-same                             two tests that hold for the same reason
--     cond_same                             a test that makes no difference
--     cond_some                             what a choice against nothing answers
--     range_in, range_under, range_over     whether a number is between two others
--     Apart A b low k                       A, and b is none of k numbers, of which low is the first: what is left of a match on b after arms for these
--     apart_before, apart_past              A; where b is not below these numbers it is past them
--     range_apart                           where they are the numbers between two others, b is not between those
--     same_integer, same_flag                 the tests that two integers, two truth values are the same
--     integer_eq, integer_refl              what the first says
--     flag_eq, flag_refl                    what the second says
use Prim.Native.Nat.{ℕ, zero, suc, ◌+◌, ◌≤◌, ◌<◌}
use Rattle.std.specs.Prelude.{◌≡◌, refl, Bool, true, false, not, cond, ◌&&◌, ◌||◌, eqb, leb, ℤ, pos, negsuc}
use Rattle.std.proofs.Common.{sym, ap, ap₂, ◌∙◌, arith, le-leb, leb-true, leb-false, eqb-true, eq-eqb}
use Rattle.std.proofs.Math.Bool.{and-false}
use Rattle.std.proofs.Math.Option.{Option, none, some}
use Rattle.std.proofs.lemmas.Bool.{lt-leb}

pub clash : {P : Type 0} {b : Bool} → b ≡ true → b ≡ false → P
clash h k = let z : ◌≡◌ {A = ℕ} 0 1 = cc in absurd (omega arith)

pub unlike : {A P : Type 0} {x : A} → none ≡ some x → P
unlike h = let z : ◌≡◌ {A = ℕ} 0 1 = cc in absurd (omega arith)

pub both : (a b : Bool) → (a && b) ≡ true → (a ≡ true) × (b ≡ true)
both true b h = (refl, h)
both false b h = clash h refl

pub neither : (a b : Bool) → (a || b) ≡ false → (a ≡ false) × (b ≡ false)
neither true b h = clash refl h
neither false b h = (refl, h)

pub impossible : {P : Type 0} → ◌≡◌ {A = ℕ} 0 1 → P
impossible z = absurd (omega arith)

pub refuted : (t : Bool) → (t ≡ true → ⊥) → false ≡ t
refuted true h = absurd (h refl)
refuted false h = refl

pub test-same : (a b : Bool) → (a ≡ true → b ≡ true) → (b ≡ true → a ≡ true) → a ≡ b
test-same true b f g = sym (f refl)
test-same false true f g = g refl
test-same false false f g = refl

pub nonzero : {P : Type 0} {k : ℕ} → suc k ≡ 0 → P
nonzero h = absurd (omega arith)

pub cond_same : {A : Type 0} (t : Bool) (a : A) → cond t a a ≡ a
cond_same true a = refl
cond_same false a = refl

pub cond_some : {A : Type 0} (b : Bool) {o : Option A} {x : A} → cond b o none ≡ some x → (b ≡ true) × (o ≡ some x)
cond_some true e = (refl, e)
cond_some false e = unlike e

module _ (low high b : ℕ) where
  pub range_in : low ≤ b → b ≤ high → (leb low b && leb b high) ≡ true
  range_in h k = ap₂ ◌&&◌ (le-leb low b h) (le-leb b high k)

  pub range_under : b < low → (leb low b && leb b high) ≡ false
  range_under h = ap (λ t. t && leb b high) (lt-leb low b h)

  pub range_over : high < b → (leb low b && leb b high) ≡ false
  range_over h = ap (λ t. leb low b && t) (lt-leb b high h) ∙ and-false (leb low b)

unfoldable pub Apart : Type 0 → ℕ → ℕ → ℕ → Type 0
Apart A b low zero = A
Apart A b low (suc k) = Apart A b low k × (b ≡ low + k → ⊥)

module _ (A : Type 0) (b low : ℕ) where
  pub apart_before : (k : ℕ) → Apart A b low k → A
  unfolding Apart
  apart_before zero apart = apart
  apart_before (suc k) apart = apart_before k apart.0

  pub apart_past : (k : ℕ) → Apart A b low k → low ≤ b → low + k ≤ b
  unfolding Apart
  apart_past zero apart l = omega (arith, l)
  apart_past (suc k) apart l = omega (arith, apart_past k apart.0 l, apart.1)

  pub range_apart : (high k : ℕ) → high < low + k → Apart A b low k → (leb low b && leb b high) ≡ false
  range_apart high k all apart = go (leb low b) refl
    where
      go : (t : Bool) → leb low b ≡ t → (leb low b && leb b high) ≡ false
      go true e = range_over low high b (omega (arith, all, apart_past k apart (leb-true low b e)))
      go false e = range_under low high b (leb-false low b e)

-- ---- the same

abbrev pub same_integer : ℤ → ℤ → Bool
same_integer (pos a) (pos b) = eqb a b
same_integer (pos a) (negsuc b) = false
same_integer (negsuc a) (pos b) = false
same_integer (negsuc a) (negsuc b) = eqb a b

pub integer_eq : (a b : ℤ) → same_integer a b ≡ true → a ≡ b
integer_eq (pos a) (pos b) h = ap pos (eqb-true a b h)
integer_eq (pos a) (negsuc b) h = clash h refl
integer_eq (negsuc a) (pos b) h = clash h refl
integer_eq (negsuc a) (negsuc b) h = ap negsuc (eqb-true a b h)

pub integer_refl : (a : ℤ) → same_integer a a ≡ true
integer_refl (pos a) = eq-eqb a a refl
integer_refl (negsuc a) = eq-eqb a a refl

abbrev pub same_flag : Bool → Bool → Bool
same_flag a b = cond a b (not b)

pub flag_eq : (a b : Bool) → same_flag a b ≡ true → a ≡ b
flag_eq true true h = refl
flag_eq true false h = clash h refl
flag_eq false true h = clash h refl
flag_eq false false h = refl

pub flag_refl : (a : Bool) → same_flag a a ≡ true
flag_refl true = refl
flag_refl false = refl
