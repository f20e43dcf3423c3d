-- The numbers are handed on in 64 bits, place by place; the line is that of a word and numbers.
use lib.IntN.{pos}
use lib.ListN.{replicate}
use Rattle.limits.specs.Limits.{channel_limit}
use Rattle.lent.specs.Filled.{Filling}
use Rattle.reference_write.proofs.put_row.Given as goal

abbrev pub invariant-loop-i : goal.invariant-loop-i
invariant-loop-i l = Filling (replicate channel_limit (pos 0)) l.numbers l.n l.values l.i
