-- The name's first bytes, then the separator.
use native.Mathlib.Omega.{arith}
use Rattle.printing.specs.ContractLaws.{put_then}
use Rattle.file_name.specs.PutLaws.{put_within}
use Rattle.message.proofs.put_program.Goals as goal

pub returns : goal.returns
returns c = put_within (put_then c.put_start-end.ensures.put c.put_bytes.ensures) (omega arith) (omega arith)
