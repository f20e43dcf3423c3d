-- The answer in numbers is the program's, and so is what is left in the lent slice.
use Rattle.export_programs.proofs.Handed.{handed}
use Rattle.export_programs.proofs.draw.Goals as goal

pub returns : goal.returns
returns c =
    let h = handed _ _ _ c.draw.result c.into.ensures c.draw.ensures.answer c.draw.ensures.output_filled in
    record { answer = h.0; output_filled = h.1 }
