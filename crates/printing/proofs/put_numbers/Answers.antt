use Prim.Native.Nat.{ℕ, ◌+◌, ◌^◌, ◌≤◌, ◌<◌}
use mathlib.Core.Path.{◌≡◌, refl, sym, ap, ◌∙◌}
use mathlib.Core.List.{List, []}
use native.Mathlib.Omega.{arith}
use lib.IntN.{ℤ, pos, nat_abs}
use lib.ListN.{length, get_or, set, take}
use lib.Seq.{length-take-le}
use mir.Syntax.{w64}
use Rattle.std.proofs.Common.{get_or-take}
use Rattle.integers.specs.Absolute.{back64}
use Rattle.integers.specs.Reading.{back}
use Rattle.text.specs.Parts.{comma}
use Rattle.number.specs.Number.{print}
use Rattle.number.specs.NumberLaws.{print_short}
use Rattle.printing.specs.Clauses.{number_digits, field_room, numbers_after, Put}
use Rattle.printing.specs.ContractLaws.{put_none, put_byte, put_then, put_as, take_next, numbers_none, numbers_more, numbers_after_lem}
use Rattle.printing.proofs.put_numbers.Goals as goal

module _ (numbers : List ℤ) (i : ℕ) (h : i < length numbers) (most : nat_abs (get_or numbers i (pos 0)) < 2 ^ 63) where
  -- one number more, after a comma
  number_more : {out₀ out out' : List ℕ} {from₀ from r : ℕ} → from < length out → Put (numbers_after [] (take i numbers)) out₀ from₀ out from
      → Put (print (back w64 (get_or numbers i (pos 0)))) (set out from comma) (from + 1) out' r
      → (r ≤ from + field_room) × Put (numbers_after [] (take (i + 1) numbers)) out₀ from₀ out' r
  number_more {out} {from = from} within f p =
      let z = get_or numbers i (pos 0) in
      let printed : Put (print z) _ _ _ _ = put_as p (ap print (back64 z most)) refl in (
        omega (arith, printed.next, print_short number_digits z (omega arith) (omega arith)),
        put_as (put_then f (put_then (put_byte out from comma within) printed))
            (sym (numbers_more [] (take i numbers) z) ∙ ap (numbers_after []) (take_next numbers i (pos 0) h)) refl,
      )

pub loop-number-init : goal.loop-number-init
loop-number-init c = (omega arith, put_as (put_none _ _) (sym (numbers_none [])) refl)

pub loop-number-preserved : goal.loop-number-preserved
loop-number-preserved c =
    let all = length-take-le c.args.count c.args.numbers.now c.requires.0 in
    let i = c.loop-number.number-index in
    let printed = rw (get_or-take c.args.count c.args.numbers.now i (pos 0) (omega arith)) at c.put_number-from.ensures in
    let more =
    number_more c.args.numbers.now i (omega arith) (c.requires.1.0 i (omega arith)) (omega arith) c.loop-number.invariant.1 printed in
    (omega arith, more.1)

pub returns : goal.returns
returns c =
    let all = length-take-le c.args.count c.args.numbers.now c.requires.0 in
    let done : c.loop-number.number-index ≡ c.args.count = omega arith in
    put_as (put_then c.put_bytes-from.ensures c.loop-number.invariant.1)
    (numbers_after_lem _ _ ∙ ap (λ (j : ℕ). numbers_after c.args.word.now (take j c.args.numbers.now)) done) refl
