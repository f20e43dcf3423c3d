-- `channel::is_known` meets its contract: the codes count from 1, so that the type of a code stands at the place before its number, and
-- past the table for a code above 8. Code 0 has no type.
use mathlib.Core.Path.{◌≡◌, ◌∙◌, refl, sym, ap}
use Prim.Native.Nat.{suc, ◌-◌}
use native.Mathlib.Omega.{arith}
use lib.Dec.{leb}
use Rattle.std.proofs.Common.{subst}
use Rattle.channel.specs.Channel.{house_types, house_count, channel_types, known, known_in}
use Rattle.channel.proofs.Laws.{type_place, known-place}
use Rattle.channel.proofs.is_known.Goals as goal

pub returns-then-code-ge1 : goal.returns-then-code-ge1
returns-then-code-ge1 c =
    let code = c.args.code in
    let after : code ≡ suc (code - 1) = omega arith in
    ap (λ k. leb k house_count) after ∙ known-place code (code - 1) (type_place code c.if-code-ge1.true)

pub returns-else-code-ge1 : goal.returns-else-code-ge1
unfolding known known_in house_types
returns-else-code-ge1 c =
    let none : c.args.code ≡ 0 = omega arith in
    subst (λ code. leb 1 code ≡ known channel_types code) (sym none) refl
