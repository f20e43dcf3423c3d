-- The answer in numbers is the program's, and so is what is left in the lent slice.
use Rattle.export_programs.proofs.Handed.{handed}
use Rattle.export_programs.proofs.judge.Goals as goal

pub returns : goal.returns
returns c =
    let h = handed _ _ _ c.judge.result c.into.ensures c.judge.ensures.answer c.judge.ensures.output_filled in
    record { answer = h.0; output_filled = h.1 }
