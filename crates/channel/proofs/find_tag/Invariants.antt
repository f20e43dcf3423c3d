-- `channel::find_tag` meets its contract. The loop's invariant: the code of the field is that among the types from `at` on. The type at
-- `at` has the tag compared there, or the code is among the types after it.
use mathlib.Core.Path.{◌≡◌}
use lib.ListN.{drop}
use Rattle.channel.specs.Channel.{house_types, code_in}
use Rattle.channel.proofs.find_tag.Given as goal

abbrev pub invariant-loop-at : goal.invariant-loop-at
invariant-loop-at l = code_in house_types l.field ≡ code_in (drop l.at house_types) l.field
