-- `case_io::digest` meets its contract. The loop's invariant: the sum is that of the places passed, each term at most 2048 times 4294967296.
use Rattle.std.proofs.Common.{ℕ, ◌+◌, ◌*◌, List, length, map, get_or}
use Rattle.integers.specs.Partial.{Partial}
use Rattle.case_io.proofs.digest.Given as goal

-- the term of a place
abbrev pub term : List ℕ → ℕ → ℕ
term numbers k = (k + 1) * get_or numbers k 0

abbrev pub invariant-loop-k : goal.invariant-loop-k
invariant-loop-k g l = Partial 8796093022208 l.k (term (map g.worth l.values)) (length l.values) l.k l.sum
