-- Demand 1, which of its refusals a reading with other tags and values outside their ranges meets, for the total and the types of the calls.
--     promise_1_5     a reading's tags are compared before any value meets its range (`TagsFirst`)
use Rattle.std.specs.Prelude.{ℕ, ◌≡◌, true, List, map}
use Rattle.std.proofs.Math.Option.{some}
use Rattle.refusal.specs.Number.{tag_differs, value_range}
use Rattle.limits.specs.Limits.{total}
use Rattle.text.specs.Parts.{text_within}
use Rattle.channel.specs.Channel.{channel_types, tag_of}
use Rattle.reading_line.specs.Reading.{Reading, print_reading, reading_of}
use Rattle.reading_line.specs.ReadingLaws.{InForm}
use Rattle.envelope.specs.Figures.{channel_codes, figures_known}
use Rattle.envelope.specs.declared.Figures.{Figures}
use Rattle.reading.specs.Verdict.{judged, refused_verdict, verdict_number}
use Rattle.reading.specs.VerdictLaws.{range_after_tags, tags_before_range}
use Rattle.promises.specs.MeasureAnswers.{MeasureRefused, measures_refused}

pub record TagsFirst (f : Figures) : Type 0 where
  -- an answer 4 says that every tag was the envelope's
  pub range_after_tags : (text : List ℕ) → verdict_number (judged total channel_types f text) ≡ value_range
      → (reading : Reading) × (reading_of f.n text ≡ some reading) × (reading.tags ≡ map (tag_of channel_types) (channel_codes f))
  -- a reading in form with another tag answers 10, whatever its values
  pub tags_before_range : (reading : Reading) → figures_known total channel_types f ≡ true → InForm f.n reading → text_within (print_reading reading) ≡ true
      → (reading.tags ≡ map (tag_of channel_types) (channel_codes f) → ⊥) → judged total channel_types f (print_reading reading) ≡ refused_verdict tag_differs 1
  -- and a reading that is measured has the same verdict and refusals, however many places are lent
  pub measured_alike : (text : List ℕ) (places : ℕ) → MeasureRefused f text places

pub promise_1_5 : (f : Figures) → TagsFirst f
promise_1_5 f =
    record {
      range_after_tags = range_after_tags total channel_types f;
      tags_before_range = tags_before_range total channel_types f;
      measured_alike = measures_refused f;
    }
