-- What the exported calls on records answer in numbers.
--     read_answer r m n c w                   the answer to a record that is lent c places for X and w for the weights
--     envelope_whole limit given ..           what is given in numbers and lent slices is an envelope
--     FiguresPlaces n codes X                the places that are then lent for its figures
--     figures_kept given codes X              its figures as one value
--     envelope_given limit given ..           that envelope
--     write_answer D limit types given ..     what the exported call answers
use Rattle.std.specs.Prelude.{ℕ, ◌≤◌, Bool, ◌&&◌, List, leb, ℤ, pos, length, replicate}
use Rattle.refusal.specs.Number.{outside_limits}
use Rattle.refusal.specs.Outcome.{refused, require}
use Rattle.limits.specs.Limits.{channel_limit}
use Rattle.lent.specs.Clauses.{not_written, with_room}
use Rattle.lent.specs.Filled.{filled}
use Rattle.channel.specs.Channel.{Types}
use Rattle.envelope.specs.Clauses.{places_lent}
use Rattle.envelope.specs.Figures.{envelope_of}
use Rattle.envelope.specs.declared.Figures.{Figures}
use Rattle.envelope.specs.declared.Envelope.{Envelope}
use Rattle.record_write.specs.Clauses.{record_written}
use Rattle.export_answers.specs.Clauses.{envelope_in_numbers, written_in_numbers}
use Rattle.export_answers.specs.declared.EnvelopeAnswer.{EnvelopeAnswer}
use Rattle.export_answers.specs.declared.WrittenAnswer.{WrittenAnswer}
use Rattle.export_figures.specs.Clauses.{ending_known, figures_given}
use Rattle.export_figures.specs.declared.FiguresGiven.{FiguresGiven}
use Rattle.record_read.specs.Clauses.{EnvelopeRead}

abbrev pub read_answer : EnvelopeRead → ℕ → ℕ → ℕ → ℕ → EnvelopeAnswer
read_answer r m n centrePlaces weightsPlaces =
    envelope_in_numbers (with_room (leb n centrePlaces && leb m weightsPlaces) r.outcome) r.envelope.figures.ball r.envelope.figures.moves

-- an ending outside its two values, n above its limit, fewer than n codes or places of X, and weights that are not those of m rows or
-- more are 8
abbrev pub envelope_whole : ℕ → FiguresGiven → List ℕ → List ℤ → List ℕ → ℕ → Bool
envelope_whole limit given codes scaled_centre ws m =
    (ending_known given && (leb given.n channel_limit && places_lent given.n codes scaled_centre))
    && (leb m (length ws) && leb (length ws) limit)

pub record FiguresPlaces (n : ℕ) (codes : List ℕ) (scaled_centre : List ℤ) : Type 0 where
  pub channels : n ≤ channel_limit
  pub typed : n ≤ length codes
  pub places : n ≤ length scaled_centre

-- codes and places of X past n are 0
abbrev pub figures_kept : FiguresGiven → List ℕ → List ℤ → Figures
figures_kept given codes scaled_centre =
    figures_given given (filled 0 given.n codes (replicate channel_limit 0))
    (filled 0 given.n scaled_centre (replicate channel_limit (pos 0)))

-- weights past those that are lent are 0
abbrev pub envelope_given : ℕ → FiguresGiven → List ℕ → List ℤ → List ℕ → Envelope
envelope_given limit given codes scaled_centre ws =
    envelope_of (figures_kept given codes scaled_centre) (filled 0 (length ws) ws (replicate limit 0))

unfoldable pub write_answer : ℕ → ℕ → Types → FiguresGiven → List ℕ → List ℤ → List ℕ → List ℤ → ℕ → ℕ → WrittenAnswer
write_answer D limit types given codes scaled_centre ws rows m places =
    written_in_numbers (
    require (envelope_whole limit given codes scaled_centre ws m) (not_written (refused outside_limits)) (λ _.
    record_written D limit types rows m (envelope_given limit given codes scaled_centre ws) places))
