-- The loop's invariant: the values so far are those of the walk over the values alone, two fields a turn are passed, and the tags
-- of all agree where those so far do and those of the fields from here on. A field that is missing, too many or no value decides
-- the answer.
use lib.ListN.{take}
use Rattle.text.specs.Parts.{comma, parts_from}
use Rattle.channel.specs.Channel.{channel_types}
use Rattle.reading_line.proofs.LineSteps.{PairsSoFar}
use Rattle.reading_line.proofs.read_pairs.Given as goal

abbrev pub invariant-loop-i : goal.invariant-loop-i
invariant-loop-i l = PairsSoFar channel_types (take l.n l.codes) (parts_from comma l.line l.at) (parts_from comma l.line l.from) l.fn.places l.places l.tags_agree l.out_of_range l.i
