-- Laws of the arguments.
--     place_of given     the index that is told, 0 where none is
--     given-within      it is at most one above those that are taken
use Rattle.std.specs.Prelude.{ℕ, ◌+◌, ◌≤◌, ◌≡◌, refl, Bool, cond, ltb}
use Rattle.std.proofs.Math.Path.{subst}
use Rattle.std.proofs.Math.Bool.{true, false}
use native.Mathlib.Omega.{arith}
use borrow.Author.Tests.{ltb-true}
use Rattle.program_io.specs.Arguments.{Given, Exact, Missing, Excess, arguments_given}

abbrev pub place_of : Given → ℕ
place_of Exact = 0
place_of (Missing index) = index
place_of (Excess index) = index

module _ (present count : ℕ) where
  by_tests : Bool → Bool → Given
  by_tests fewer more = cond fewer (Missing (present + 1)) (cond more (Excess (count + 1)) Exact)

  within : (fewer more : Bool) → ltb present count ≡ fewer → place_of (by_tests fewer more) ≤ count + 1
  unfolding by_tests
  within true more e = omega (arith, ltb-true present count e)
  within false true e = omega arith
  within false false e = omega arith

  pub given-within : {g : Given} → arguments_given present count ≡ g → place_of g ≤ count + 1
  unfolding by_tests
  given-within e = subst (λ (x : Given). place_of x ≤ count + 1) e (within (ltb present count) (ltb count present) refl)
