-- The loop's invariant: the codes of the tags so far stand in the first places, and the codes of all are they with those of the
-- fields from here on. A field that is missing, unknown or too many decides the answer.
use Rattle.text.specs.Parts.{comma, parts_from}
use Rattle.channel.specs.Channel.{channel_types}
use Rattle.heading.proofs.HeadingSteps.{TagsSoFar}
use Rattle.heading.proofs.read_tags.Given as goal

abbrev pub invariant-loop-i : goal.invariant-loop-i
invariant-loop-i l = TagsSoFar channel_types l.n (parts_from comma l.line l.at) (parts_from comma l.line l.from) l.codes l.i
