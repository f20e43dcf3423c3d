-- The line is its first field and the others. The first is tested for a label, and the others are what the walk over the pairs says.
-- A line not in form is so whatever stands in it, and one with every tag its channel's has no byte 10; where a tag differs, the
-- end of the first line decides.
use Rattle.std.proofs.Common.{◌≡◌, refl, ◌∙◌, sym, true, ℕ, ◌+◌, List, ℤ}
use native.Mathlib.Omega.{arith}
use lib.ListN.{take}
use Rattle.std.specs.Prelude.{Err}
use Rattle.integers.specs.Tests.{impossible}
use Rattle.text.specs.Parts.{comma, line_end, parts_from}
use Rattle.text.specs.PartsLaws.{first_part_from, free-end}
use Rattle.std.specs.Prelude.{Option as Answer, None, Some}
use Rattle.label.specs.Clauses.{FirstFieldRead, label_found}
use Rattle.label.specs.ContractLaws.{found_label, found_no_label}
use Rattle.channel.specs.Channel.{channel_types, codes_known}
use Rattle.channel.specs.ChannelLaws.{house_sound}
use Rattle.reading_line.specs.Clauses.{Line, line_of, PairsRead, LineRead}
use Rattle.reading_line.specs.declared.Fault.{Fault}
use Rattle.reading_line.specs.declared.Fault.TheVariants as fault
use Rattle.reading_line.proofs.LineSteps.{FieldsRead, fields_no_label, fields_pairs, line-ended, line_whole, line_malformed, line_agreed}
use Rattle.reading_line.proofs.read_line.Goals as goal

-- what the fields say, by what the pairs are
told : {codes line : List ℕ} {key end : ℕ} {lent₀ lent : List ℤ} {r : Line} → FirstFieldRead label_found line (Some key) end
    → PairsRead channel_types codes (parts_from comma line (end + 1)) lent₀ lent r → FieldsRead channel_types codes line lent₀ lent r
told {codes} {line} label pairs =
    fields_pairs channel_types codes line _ (first_part_from comma _ _ label.part) (found_label label) pairs

-- the first field, whose number is found
labelled : {line : List ℕ} {end key : ℕ} {value : Answer ℕ} → FirstFieldRead label_found line value end → value ≡ Some key
    → FirstFieldRead label_found line (Some key) end
labelled label e = record { part = label.part; is = sym e ∙ label.is }

pub returns-in_default : goal.returns-in_default
returns-in_default c =
    let args = c.args in
    let label = c.label_field-label.ensures in
    let none : FirstFieldRead label_found args.line.now None c.label_field-label.result.end =
    record { part = label.part; is = sym c.in_default.is ∙ label.is } in
    line_malformed channel_types (take args.n args.codes.now) args.line.now
    (fields_no_label channel_types (take args.n args.codes.now) args.line.now _ (first_part_from comma _ _ label.part) (found_no_label none))

pub returns-in_default-read_pairs : goal.returns-in_default-read_pairs
returns-in_default-read_pairs c =
    line_agreed channel_types _ _ (told (labelled c.label_field-label.ensures c.in-Some.is) c.in_default-read_pairs.ensures) house_sound c.requires.0
    (λ e. impossible (cc)) (λ e. impossible (cc))

pub returns-then-line_end-line : goal.returns-then-line_end-line
returns-then-line_end-line c = line-ended channel_types _ _ ((free-end line_end _ _ c.line_end.ensures).1 c.if-line_end-line.true) c.read_pairs.ensures.same_length

pub returns-else-line_end-line : goal.returns-else-line_end-line
returns-else-line_end-line c =
    line_whole channel_types _ _ (told (labelled c.label_field-label.ensures c.in-Some.is) c.in-Err.ensures)
    ((free-end line_end _ _ c.line_end.ensures).0 (omega arith))

-- a line not in form is so whatever stands in it, and one whose tags are those of the channels has no byte 10
other : {codes line : List ℕ} {lent₀ lent : List ℤ} (f : Fault) → (f ≡ fault.TagDiffers → ⊥) → codes_known channel_types codes ≡ true
    → FieldsRead channel_types codes line lent₀ lent (line_of (Err f)) → LineRead channel_types codes line lent₀ lent (line_of (Err f))
other fault.Malformed apart known fields = line_malformed channel_types _ _ fields
other fault.TagDiffers apart known fields = absurd (apart refl)
other fault.OutOfRange apart known fields = line_agreed channel_types _ _ fields house_sound known (λ e. impossible (cc)) (λ e. impossible (cc))

pub returns-in_default-fault : goal.returns-in_default-fault
returns-in_default-fault c =
    other c.in-Err.fault c.in_default-fault.not-TagDiffers c.requires.0
    (told (labelled c.label_field-label.ensures c.in-Some.is) c.in-Err.ensures)
