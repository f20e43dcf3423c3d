-- The program's part, then the name.
use native.Mathlib.Omega.{arith}
use Rattle.printing.specs.ContractLaws.{put_then}
use Rattle.file_name.specs.PutLaws.{put_within}
use Rattle.message.proofs.put_file.Goals as goal

pub returns : goal.returns
returns c = put_within (put_then c.put_program-start.ensures.put c.put_name.ensures.put) (omega arith) (omega arith)
