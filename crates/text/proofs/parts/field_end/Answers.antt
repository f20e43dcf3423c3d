-- `text::parts::field_end` meets its contract: a search up to the end of the list finds where the part ends (`end-found`). Assumes nothing.
use Rattle.text.specs.Parts.{comma}
use Rattle.text.specs.PartsLaws.{end-found}
use Rattle.text.proofs.parts.field_end.Goals as goal

pub returns : goal.returns
returns c = end-found comma _ _ _ c.find.ensures.is c.find.ensures.high
