-- The answer in numbers is the program's, and so is what is left in the lent slice.
use Rattle.export_programs.proofs.Handed.{handed}
use Rattle.export_programs.proofs.plain.Goals as goal

pub returns : goal.returns
returns c =
    let h = handed _ _ _ c.plain.result c.into.ensures c.plain.ensures.answer c.plain.ensures.output_filled in
    record { answer = h.0; output_filled = h.1 }
