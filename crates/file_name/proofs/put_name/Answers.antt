-- The dots are printed where the name has more bytes than are told.
use mathlib.Core.Path.{refl}
use native.Mathlib.Omega.{arith}
use Rattle.printing.specs.ContractLaws.{put_then, put_as}
use Rattle.file_name.specs.NameLaws.{name_whole, name_cut}
use Rattle.file_name.specs.PutLaws.{put_within}
use Rattle.file_name.proofs.put_name.Goals as goal

pub returns-then-name-le-NAME_MOST : goal.returns-then-name-le-NAME_MOST
returns-then-name-le-NAME_MOST c =
    let name = c.args.name.now in
    put_within (put_as c.put_quoted-end.ensures.put (name_whole name c.if-name-le-NAME_MOST.true) refl) (omega arith) (omega arith)

pub returns : goal.returns
returns c =
    let name = c.args.name.now in
    put_within (put_as (put_then c.put_quoted-end.ensures.put c.put_bytes.ensures) (name_cut name c.if-name-le-NAME_MOST.false) refl)
    (omega arith) (omega arith)
