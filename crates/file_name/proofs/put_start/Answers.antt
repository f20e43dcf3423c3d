use Prim.Native.Nat.{ℕ, ◌+◌, ◌<◌}
use mathlib.Core.Path.{◌≡◌, refl, sym, ap, ◌∙◌}
use mathlib.Core.List.{List, ◌++◌}
use native.Mathlib.Omega.{arith}
use lib.ListN.{length, get_or, take, length-take}
use lib.Seq.{take_all}
use Rattle.printing.specs.ContractLaws.{put_none, put_then, put_as, take_next}
use Rattle.file_name.specs.Name.{escaped_byte, escaped}
use Rattle.file_name.specs.NameLaws.{escaped_none, escaped-more, start_taken}
use Rattle.file_name.specs.PutLaws.{put_within}
use Rattle.file_name.proofs.put_start.Goals as goal

byte_more : (name : List ℕ) (i : ℕ) → i < length name → escaped (take i name) ++ escaped_byte (get_or name i 0) ≡ escaped (take (i + 1) name)
byte_more name i h = sym (escaped-more (take i name) (get_or name i 0)) ∙ ap escaped (take_next name i 0 h)

pub loop-byte-init : goal.loop-byte-init
loop-byte-init c = (omega arith, put_as (put_none _ _) (sym escaped_none) refl)

pub put_escaped_byte-end-requires : goal.put_escaped_byte-end-requires
put_escaped_byte-end-requires c = omega (arith, length-take c.shown_length-count.result c.args.name.now)

pub loop-byte-preserved : goal.loop-byte-preserved
loop-byte-preserved c =
    let more = byte_more (take c.shown_length-count.result c.args.name.now) c.loop-byte.byte-index c.loop-byte-test.true in
    let printed = c.put_escaped_byte-end.ensures in
    (omega arith, put_as (put_then c.loop-byte.invariant.1 printed.put) more refl)

pub returns : goal.returns
returns c =
    let name = c.args.name.now in
    let count = c.shown_length-count.result in
    let shown = c.shown_length-count.ensures in
    let short = length-take count name in
    let all : take c.loop-byte.byte-index (take count name) ≡ take count name = take_all _ _ (omega arith) in
    put_within (put_as c.loop-byte.invariant.1 (ap escaped (all ∙ start_taken name count shown.is)) refl) (omega (arith, short)) (omega (arith, short))
