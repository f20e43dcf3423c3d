-- The first such byte from `at` on is the first one from `from` on, since each byte passed over is another.
use Rattle.std.proofs.Common.{◌≡◌, ◌+◌}
use Rattle.text.specs.Bytes.{index_of, slice}
use Rattle.text.proofs.scan.find.Given as goal

abbrev pub invariant-loop-at : goal.invariant-loop-at
invariant-loop-at l = l.from + index_of l.byte (slice l.from l.to l.text) ≡ l.at + index_of l.byte (slice l.at l.to l.text)
