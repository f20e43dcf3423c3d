-- The word and n are printed as a word and a number. The loop's invariant: after them stand the tags of the first i codes, each after a
-- comma and in its room.
use Prim.Native.Nat.{◌+◌, ◌≤◌}
use lib.ListN.{take}
use Rattle.printing.specs.Clauses.{Put}
use Rattle.channel.specs.Channel.{channel_types}
use Rattle.heading.specs.Clauses.{heading_room}
use Rattle.heading.proofs.PrintSteps.{tags_after}
use Rattle.heading.proofs.put_heading.Given as goal

abbrev pub invariant-loop-code : goal.invariant-loop-code
invariant-loop-code l = (l.from ≤ l.at + heading_room l.word l.code-index) × Put (tags_after channel_types (take l.code-index l.codes)) l.initial.out l.initial.from l.out l.from
