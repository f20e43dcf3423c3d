-- The argument's part, a blank, then the name.
use native.Mathlib.Omega.{arith}
use Rattle.printing.specs.ContractLaws.{put_then}
use Rattle.file_name.specs.PutLaws.{put_within}
use Rattle.message.proofs.put_named_argument.Goals as goal

pub returns : goal.returns
returns c =
    put_within (put_then (put_then c.put_argument-end.ensures.put c.put_bytes-start.ensures) c.put_name.ensures.put) (omega arith)
    (omega arith)
