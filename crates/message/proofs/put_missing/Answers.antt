-- The argument's part, then the words.
use native.Mathlib.Omega.{arith}
use Rattle.printing.specs.ContractLaws.{put_then}
use Rattle.file_name.specs.PutLaws.{put_within}
use Rattle.message.proofs.put_missing.Goals as goal

pub returns : goal.returns
returns c = put_within (put_then c.put_argument-end.ensures.put c.put_bytes.ensures) (omega arith) (omega arith)
