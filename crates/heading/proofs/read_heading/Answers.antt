-- The line is its first field, its second and the others, and each way out is what the definition says of them.
use Prim.Native.Nat.{◌+◌, ◌-◌}
use mathlib.Core.Path.{◌≡◌, sym, ap, ◌∙◌}
use mathlib.Core.List.{◌∷◌}
use lib.ListN.{length, take, drop}
use Rattle.std.proofs.Common.{ℕ, ◌≤◌, List}
use Rattle.text.specs.Clauses.{PartEnd}
use lib.Seq.{length-take-le}
use Rattle.limits.specs.Limits.{channel_limit}
use Rattle.text.specs.Parts.{comma, cut, parts_from}
use Rattle.text.specs.PartsLaws.{parts_none, parts_from_lem, first_part_from}
use Rattle.channel.specs.Channel.{channel_types}
use Rattle.heading.specs.Clauses.{heading_read, tags_read}
use Rattle.heading.proofs.HeadingSteps.{no_count, some_count, count_most, heading_other_word, heading_short, heading_no_count, heading_tags}
use Rattle.heading.proofs.read_heading.Goals as goal
use Rattle.heading.proofs.read_heading.Goals.{then-not-same_bytes-via-then-not-same_bytes, then-not-same_bytes-via-else-not-same_bytes+then-line-at}

first : {line : List ℕ} {end : ℕ} → PartEnd comma line 0 end → cut comma line ≡ take end line ∷ parts_from comma line (end + 1)
first = first_part_from comma _ _

fields : {line : List ℕ} {word_end end : ℕ} → PartEnd comma line 0 word_end → word_end + 1 ≤ length line → PartEnd comma line (word_end + 1) end
    → cut comma line ≡ take word_end line ∷ take (end - (word_end + 1)) (drop (word_end + 1) line) ∷ parts_from comma line (end + 1)
fields {line} {word_end} {end} word within count =
    first word ∙ ap (λ l. take word_end line ∷ l) (parts_from_lem comma line (word_end + 1) end within count)

pub slice_bounds-same_bytes-end : goal.slice_bounds-same_bytes-end
slice_bounds-same_bytes-end c = sym (length-take-le _ _ c.field_end-word_end.ensures.high)

pub returns-then-not-same_bytes : goal.returns-then-not-same_bytes
returns-then-not-same_bytes c =
    let line = c.args.line.now in
    let end = c.field_end-word_end.result in
    elim c.then-not-same_bytes.branch [
      | then-not-same_bytes-via-then-not-same_bytes w ↦
          sym (ap heading_read (heading_other_word c.args.word.now channel_limit channel_types _ (first c.field_end-word_end.ensures)
          (sym c.same_bytes.ensures ∙ w.if-not-same_bytes.true)))
      | then-not-same_bytes-via-else-not-same_bytes+then-line-at w ↦
          sym (ap heading_read (heading_short c.args.word.now channel_limit channel_types _
          (first c.field_end-word_end.ensures ∙ ap (λ l. take end line ∷ l) (parts_none comma line (end + 1) w.if-line-at.true))))
    ]

pub returns-in_err-n : goal.returns-in_err-n
returns-in_err-n c =
    c.from_residual.ensures
    ∙ sym (ap heading_read (heading_no_count c.args.word.now channel_limit channel_types _ (fields c.field_end-word_end.ensures c.if-line-at.false c.field_end-count_end.ensures)
    (no_count channel_limit _ c.in_err-n.ensures)))

pub read_tags-requires : goal.read_tags-requires
read_tags-requires c = rw (← (some_count channel_limit _ c.in_ok-n.ensures).0) (count_most channel_limit _)

pub returns : goal.returns
returns c =
    let line = c.args.line.now in
    let count = some_count channel_limit _ c.in_ok-n.ensures in
    c.read_tags.ensures
    ∙ ap (λ n. tags_read channel_types n (parts_from comma line (c.field_end-count_end.result + 1))) (sym count.0)
    ∙ sym (heading_tags c.args.word.now channel_limit channel_types _ (fields c.field_end-word_end.ensures c.if-line-at.false c.field_end-count_end.ensures)
    (sym c.same_bytes.ensures ∙ c.if-not-same_bytes.false)
    (λ z. count.1 (sym count.0 ∙ z)))
