-- `value::read_written_at` meets its contract: the number is read after `<`, or from the start on where there is none.
use Rattle.value.proofs.read_written_at.Goals as goal

pub returns : goal.returns
returns c = record { start = _; past = c.past_byte-below.ensures; read = c.plain_number_at-plain.ensures }
