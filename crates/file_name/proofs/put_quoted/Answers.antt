-- Each byte has room.
use native.Mathlib.Omega.{arith}
use Rattle.printing.specs.ContractLaws.{put_then}
use Rattle.file_name.specs.PutLaws.{put_within}
use Rattle.file_name.proofs.put_quoted.Goals as goal

pub returns : goal.returns
returns c =
    put_within (put_then (put_then c.put_bytes-start.ensures c.put_start-end.ensures.put) c.put_bytes.ensures) (omega arith)
    (omega arith)
