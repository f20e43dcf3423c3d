-- What a call answers: accepted, or refused with document 01's number and the line at fault.
--     Outcome, RefusalNumbers   the answer in numbers
--     refused_at k l     refused with number k at line l
--     refused k         refused with number k, no line at fault
--     number_of o        the number of an outcome, 0 where accepted
--     line_of o          the line of an outcome, 0 where accepted or no line is at fault
-- The same of what the code answers:
--     kind_number k        the number of each kind of refusal
--     refusal_numbers r, refusal_outcome r       a refusal by its number and line
--     outcome_of a         the outcome of an answer that holds something, or a refusal
-- The tests of a call in the order in which they are made, each with its refusal:
--     require t r rest          the rest where t holds, else the refusal r
--     require_some o r rest      the rest for what o holds, where it holds something, else the refusal r
use Rattle.std.specs.Prelude.{ℕ, Bool, true, false, Result, Ok, Err}
use Rattle.std.proofs.Math.Option.{Option, none, some}
use Rattle.refusal.specs.Number.{text_length, heading, line_form, value_range, label_repeated, row_count_number, table_short, outside_limits, budget_too_large, tag_differs, record_form, disagreement, buffer_short, alert_settings}
use Rattle.refusal.specs.declared.Kind.{Kind}
use Rattle.refusal.specs.declared.Kind.TheVariants.{TextLength, Heading, LineForm, ValueRange, LabelRepeated, RowCount, TableShort, OutsideLimits, BudgetTooLarge, TagDiffers, RecordForm, Disagreement, BufferShort, AlertSettings}
use Rattle.refusal.specs.declared.Refusal.{Refusal}

pub record RefusalNumbers : Type 0 where
  pub number : ℕ
  pub line : ℕ

pub data Outcome : Type 0 where
  Accepted : Outcome
  Refused : RefusalNumbers → Outcome

abbrev pub refused_at : ℕ → ℕ → Outcome
refused_at k l = Refused (record { number = k; line = l })

abbrev pub refused : ℕ → Outcome
refused k = refused_at k 0

abbrev pub number_of : Outcome → ℕ
number_of Accepted = 0
number_of (Refused r) = r.number

abbrev pub line_of : Outcome → ℕ
line_of Accepted = 0
line_of (Refused r) = r.line

-- ---- what the code answers, in numbers

abbrev pub kind_number : Kind → ℕ
kind_number TextLength = text_length
kind_number Heading = heading
kind_number LineForm = line_form
kind_number ValueRange = value_range
kind_number LabelRepeated = label_repeated
kind_number RowCount = row_count_number
kind_number TableShort = table_short
kind_number OutsideLimits = outside_limits
kind_number BudgetTooLarge = budget_too_large
kind_number TagDiffers = tag_differs
kind_number RecordForm = record_form
kind_number Disagreement = disagreement
kind_number BufferShort = buffer_short
kind_number AlertSettings = alert_settings

abbrev pub refusal_numbers : Refusal → RefusalNumbers
refusal_numbers r = record { number = kind_number r.kind; line = r.line }

abbrev pub refusal_outcome : Refusal → Outcome
refusal_outcome r = Refused (refusal_numbers r)

abbrev pub outcome_of : {A : Type 0} → Result A Refusal → Outcome
outcome_of (Ok x) = Accepted
outcome_of (Err r) = refusal_outcome r

-- ---- tests in their order

-- the rest is a function, so that it is computed only where the test holds
abbrev pub require : {A : Type 0} → Bool → A → (Unit {0} → A) → A
require true refusal rest = rest tt
require false refusal rest = refusal

abbrev pub require_some : {A B : Type 0} → Option A → B → (A → B) → B
require_some (some x) refusal rest = rest x
require_some none refusal rest = refusal
