use Prim.Native.Nat.{ℕ, ◌+◌, ◌^◌, ◌≤◌, ◌<◌}
use mathlib.Core.Path.{◌≡◌, refl, sym, ap, ap₂, ◌∙◌}
use mathlib.Core.List.{List, [], ◌∷◌, ◌++◌}
use native.Mathlib.Omega.{arith}
use lib.IntN.{pos}
use lib.ListN.{length, get_or, set, take}
use lib.Seq.{length-take-le}
use mir.Syntax.{w64}
use Rattle.std.proofs.Common.{get_or-take}
use mir.Val.{to_z}
use Rattle.integers.specs.Absolute.{fits64}
use Rattle.limits.specs.Limits.{channel_limit}
use Rattle.text.specs.Parts.{comma}
use Rattle.printing.specs.Clauses.{number_digits, field_room, numbers_after, Put}
use Rattle.printing.specs.ContractLaws.{put_none, put_byte, put_then, put_as, take_next, numbers_short}
use Rattle.printing.specs.UnsignedLaws.{Below, below_none, below_more, below_signed, held-signed, held_below}
use Rattle.channel.specs.Channel.{channel_types, tag_of}
use Rattle.channel.specs.ContractLaws.{house_short, type_short}
use Rattle.heading.specs.Clauses.{tag_room}
use Rattle.heading.proofs.PrintSteps.{tags_after, tags_first, tags_more, heading-after}
use Rattle.heading.proofs.put_heading.Goals as goal

-- n is the only number after the word
alone : (limit n : ℕ) → n < limit → Below limit (n ∷ [])
alone limit n h = below_more limit n [] h (below_none limit)

-- the word and n, in their room
counted : (n : ℕ) → n ≤ channel_limit → (word : List ℕ) {out out' : List ℕ} {at r : ℕ} → Put (numbers_after word (to_z w64 n ∷ [])) out at out' r
    → (r ≤ at + length word + field_room) × Put (numbers_after word (pos n ∷ [])) out at out' r
counted n h word f =
    let printed : Put (numbers_after word (pos n ∷ [])) _ _ _ _ = put_as f (ap (numbers_after word) (held-signed (n ∷ []) (alone (2 ^ 63) n (omega arith)))) refl in
    (omega (arith, printed.next, numbers_short number_digits word (pos n ∷ []) (omega arith) (below_signed (10 ^ number_digits) (n ∷ []) (alone (10 ^ number_digits) n (omega arith)))), printed)

-- one tag more, after a comma
tag-more : (codes : List ℕ) (i : ℕ) → i < length codes → {out₀ out out' : List ℕ} {from₀ from r : ℕ} → from < length out
    → Put (tags_after channel_types (take i codes)) out₀ from₀ out from
    → Put (tag_of channel_types (get_or codes i 0)) (set out from comma) (from + 1) out' r
    → (r ≤ from + tag_room) × Put (tags_after channel_types (take (i + 1) codes)) out₀ from₀ out' r
tag-more codes i h {out} {from = from} within f p = (
  omega (arith, p.next, type_short channel_types house_short (get_or codes i 0)),
  put_as (put_then f (put_then (put_byte out from comma within) p))
      (tags_more channel_types (take i codes) (get_or codes i 0) ∙ ap (tags_after channel_types) (take_next codes i 0 h)) refl,
)

pub overflow_cast-count : goal.overflow_cast-count
overflow_cast-count c = fits64 (pos c.args.n) (omega arith)

pub put_numbers-from-requires : goal.put_numbers-from-requires
put_numbers-from-requires c =
    let n = c.args.n in
    (omega arith, (held_below (n ∷ []) (alone (2 ^ 63) n (omega arith)), omega arith))

pub loop-code-init : goal.loop-code-init
loop-code-init c =
    let first = counted c.args.n (omega arith) c.args.word.now c.put_numbers-from.ensures in
    (omega arith, put_as (put_none _ _) (sym (tags_first channel_types)) refl)

pub loop-code-preserved : goal.loop-code-preserved
loop-code-preserved c =
    let all = length-take-le c.args.n c.args.codes.now (omega arith) in
    let i = c.loop-code.code-index in
    let printed = put_as c.put_tag-from.ensures (ap (tag_of channel_types) (get_or-take c.args.n c.args.codes.now i 0 (omega arith))) refl in
    let more = tag-more c.args.codes.now i (omega arith) (omega arith) c.loop-code.invariant.1 printed in
    (omega arith, more.1)

pub returns : goal.returns
returns c =
    let all = length-take-le c.args.n c.args.codes.now (omega arith) in
    let done : c.loop-code.code-index ≡ c.args.n = omega arith in
    let codes = take c.args.n c.args.codes.now in
    let n : c.args.n ≡ length codes = sym all in
    let word = c.args.word.now in
    let first = counted c.args.n (omega arith) word c.put_numbers-from.ensures in
    put_as (put_then first.1 c.loop-code.invariant.1)
    (ap₂ (λ k j. numbers_after word (pos k ∷ []) ++ tags_after channel_types (take j c.args.codes.now)) n done
    ∙ heading-after channel_types word codes) refl
