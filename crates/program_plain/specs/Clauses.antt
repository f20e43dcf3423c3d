-- What plain asks and promises besides equations.
--     plain_room                              room for its output
--     label_from text start                   the bytes from an index to the comma after it
--     labels_at text starts count             those from each of the first starts
--     LabelsStart text starts count          the first starts are within the text, and no label from there is too long
--     Gathered labels bytes count ends size  these labels as they are lent, in the first places of two slices
--     PlainWritten reference lent after a    what is written of a reference text, or why not
use Rattle.std.specs.Prelude.{ℕ, zero, suc, ◌≤◌, ◌<◌, ◌≡◌, List, [], ◌∷◌, ◌++◌, length, get_or, take, drop, Result, Ok, Err}
use Rattle.text.specs.Bytes.{index_of}
use Rattle.limits.specs.Limits.{row_limit, label_limit}
use Rattle.text.specs.Parts.{comma}
use Rattle.reference.specs.Printing.{reference_most}
use Rattle.reference_write.specs.Labels.{labels_joined, ends_from}
use Rattle.refusal.specs.Outcome.{kind_number}
use Rattle.refusal.specs.declared.Refusal.{Refusal}
use Rattle.printing.specs.Clauses.{Put}
use Rattle.channel.specs.Channel.{channel_types}
use Rattle.program_lines.specs.Lines.{print_refusal}
use Rattle.program_plain.specs.Output.{plain_output}

abbrev pub plain_room : ℕ
plain_room = reference_most row_limit

-- ---- labels that are gathered

abbrev pub label_from : List ℕ → ℕ → List ℕ
label_from text start = take (index_of comma (drop start text)) (drop start text)

-- the default of get_or is never met
unfoldable pub labels_at : List ℕ → List ℕ → ℕ → List (List ℕ)
labels_at text starts zero = []
labels_at text starts (suc k) = labels_at text starts k ++ (label_from text (get_or starts k 0) ∷ [])

pub record LabelsStart (text starts : List ℕ) (count : ℕ) : Type 0 where
  pub most : count ≤ row_limit
  pub each_start : (k : ℕ) → k < count → get_or starts k 0 ≤ length text
  pub each_short : (k : ℕ) → k < count → length (label_from text (get_or starts k 0)) ≤ label_limit

-- one end for each label
pub record Gathered (labels : List (List ℕ)) (bytes : List ℕ) (count : ℕ) (ends : List ℕ) (size : ℕ) : Type 0 where
  pub within : size ≤ length bytes
  pub all_bytes : take size bytes ≡ labels_joined labels
  pub all_ends : take count ends ≡ ends_from 0 labels

-- ---- what is written of a reference text

-- what is printed of an accepted one, or nothing of a refused one, of which its refusal is printed
abbrev pub PlainWritten : List ℕ → List ℕ → List ℕ → Result ℕ Refusal → Type 0
PlainWritten reference lent after (Ok bytes) = Put (plain_output row_limit channel_types reference) lent 0 after bytes
PlainWritten reference lent after (Err r) =
    (after ≡ lent) × (plain_output row_limit channel_types reference ≡ print_refusal (kind_number r.kind) r.line)
