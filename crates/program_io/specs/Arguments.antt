-- The arguments that a program was started with.
--     Given                            how those that are there compare with those that are taken; an argument is told by its index, from 1
--     arguments_given present count     so many are there, without the program's own name, and so many are taken: all that are taken, or the
--                                      first that is missing, or the first that is one too many
--     given_of r                       the same, as the code answers it
use Rattle.std.specs.Prelude.{ℕ, ◌+◌, cond, ltb, Result, Ok, Err}
use Rattle.program_io.specs.declared.arguments.Mismatch.{Mismatch}
use Rattle.program_io.specs.declared.arguments.Mismatch.TheVariants as mismatch

pub data Given : Type 0 where
  Exact : Given
  Missing : ℕ → Given
  Excess : ℕ → Given

abbrev pub arguments_given : ℕ → ℕ → Given
arguments_given present count = cond (ltb present count) (Missing (present + 1)) (cond (ltb count present) (Excess (count + 1)) Exact)

abbrev pub given_of : Result (Unit {0}) Mismatch → Given
given_of (Ok done) = Exact
given_of (Err (mismatch.Missing index)) = Missing index
given_of (Err (mismatch.Excess index)) = Excess index
