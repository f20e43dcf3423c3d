-- The output is printed into an array with room for every output, and handed out from there.
use native.Mathlib.Omega.{arith}
use Rattle.program_lines.proofs.LineSteps.{printed-part, handed}
use Rattle.program_plain.proofs.plain.Goals as goal

pub slice_bounds-text-end : goal.slice_bounds-text-end
slice_bounds-text-end c = omega (arith, (printed-part c.put_output-length.ensures).within)

pub slice_bounds-hand_out-end : goal.slice_bounds-hand_out-end
slice_bounds-hand_out-end c = (printed-part c.put_output-length.ensures).taken

pub returns : goal.returns
returns c =
    let out = c.hand_out.ensures in
    let h = handed c.put_output-length.ensures _ _ _ (out.answer, (out.buffer_filled, out.part)) in
    record { answer = h.0; output_filled = h.1.0; output_part = h.1.1.0; output_room = h.1.1.1 }
