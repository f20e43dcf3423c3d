-- `printing::put_bytes` meets its contract. The loop's invariant: the first i bytes of the word are printed.
use Prim.Native.Nat.{◌+◌, ◌≤◌}
use lib.ListN.{length, take}
use Rattle.printing.specs.Clauses.{Put}
use Rattle.printing.proofs.put_bytes.Given as goal

abbrev pub invariant-loop-i : goal.invariant-loop-i
invariant-loop-i l = (l.i ≤ length l.word) × Put (take l.i l.word) l.fn.out l.at l.out (l.at + l.i)
