use Prim.Native.Nat.{ℕ, ◌+◌, ◌<◌}
use mathlib.Core.Path.{refl}
use mathlib.Core.List.{List}
use native.Mathlib.Omega.{arith}
use lib.ListN.{length, get_or, set, take}
use lib.Seq.{take_all}
use Rattle.printing.specs.Clauses.{Put}
use Rattle.printing.specs.ContractLaws.{put_none, put_byte, put_then, put_as, take_next}
use Rattle.printing.proofs.put_bytes.Goals as goal

-- one byte more of the word
word_more : (word out₀ out : List ℕ) (at i : ℕ) → i < length word → at + i < length out → Put (take i word) out₀ at out (at + i)
    → Put (take (i + 1) word) out₀ at (set out (at + i) (get_or word i 0)) (at + (i + 1))
word_more word out₀ out at i h k f =
    put_as (put_then f (put_byte out (at + i) (get_or word i 0) k)) (take_next word i 0 h) (omega arith)

pub loop-i-init : goal.loop-i-init
loop-i-init c = (omega arith, put_as (put_none _ _) refl (omega arith))

pub loop-i-preserved : goal.loop-i-preserved
loop-i-preserved c = (omega arith, word_more _ _ _ _ _ c.loop-i-test.true (omega arith) c.loop-i.invariant.1)

pub returns : goal.returns
returns c = put_as c.loop-i.invariant.1 (take_all _ _ c.loop-i-test.false) (omega arith)
