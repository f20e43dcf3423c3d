-- The answer in numbers is the program's, and so is what is left in the lent slice.
use Rattle.export_programs.proofs.Handed.{handed}
use Rattle.export_programs.proofs.panel.Goals as goal

pub returns : goal.returns
returns c =
    let h = handed _ _ _ c.panel.result c.into.ensures c.panel.ensures.answer c.panel.ensures.output_filled in
    record { answer = h.0; output_filled = h.1 }
