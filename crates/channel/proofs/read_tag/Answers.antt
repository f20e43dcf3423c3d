-- `channel::read_tag` meets its contract: where the tag stands at the index the field is the tag if it ends there (`word_stands`), else
-- it is another (`word_other`).
use Prim.Native.Nat.{ℕ, ◌+◌, ◌-◌}
use mathlib.Core.Path.{◌≡◌, sym, ap, ◌∙◌}
use native.Mathlib.Omega.{arith}
use mathlib.Core.Bool.{Bool}
use mathlib.Core.List.{List}
use lib.Dec.{eqb}
use lib.ListN.{length, take, drop, length-drop}
use Rattle.std.proofs.Common.{take_all}
use Rattle.std.specs.List.{starts_with}
use Rattle.text.specs.Parts.{same}
use Rattle.text.specs.PartsLaws.{same_pointwise}
use Rattle.text.specs.FieldsLaws.{word_stands, word_other}
use Rattle.channel.specs.Channel.{channel_types, tag_of}
use Rattle.channel.specs.ContractLaws.{house_free}
use Rattle.channel.proofs.read_tag.Goals as goal

-- what is compared is the tag of the code, with as many bytes
stands : (tag : List ℕ) (code : ℕ) (line : List ℕ) (at : ℕ) {is : Bool} → tag ≡ tag_of channel_types code → is ≡ starts_with eqb (take (length line - at) (drop at line)) tag
    → is ≡ same (tag_of channel_types code) (take (length (tag_of channel_types code)) (drop at line))
stands tag code line at here e =
    e ∙ ap (λ l. starts_with eqb l tag) (take_all (length line - at) (drop at line) (omega (arith, length-drop at line)))
    ∙ same_pointwise tag (take (length tag) (drop at line)) ∙ ap (λ t. same t (take (length t) (drop at line))) here

pub returns-then-not-starts_with : goal.returns-then-not-starts_with
returns-then-not-starts_with c =
    word_other _ _ _ _ (sym (stands _ c.args.code c.args.line.now c.args.at c.tag_of-tag.ensures.tag c.starts_with.ensures.value) ∙ c.if-not-starts_with.true)
    c.field_end.ensures

pub returns : goal.returns
returns c =
    let args = c.args in
    word_stands (tag_of channel_types args.code) _ _ _ _ (house_free args.code)
    (sym (stands _ args.code args.line.now args.at c.tag_of-tag.ensures.tag c.starts_with.ensures.value) ∙ c.if-not-starts_with.false)
    (ap (λ (t : List ℕ). args.at + length t) c.tag_of-tag.ensures.tag) c.field_end-end.ensures
