-- What reading a record answers, for any total D, row limit and table of types.
--     EnvelopeRead, envelope_outcome limit a            what reading a record answers, in numbers
--     not_read limit outcome                            a refused record: every figure and weight 0
--     stated_ball X M L settled                         the ball of these figures, if M and L are 0 or more
--     ball_of_record r                                   the ball that a record states, X in its eight places
--     stated_envelope limit r ball                      the envelope that a record states, with this ball
--     agreed_ball D limit rows m codes stated ws ball   this ball, if there is one, and it agrees with rows and codes
--     record_read D limit types rows m n codes text     what reading answers
--     ball_answer D limit rows m codes stated ball      the same for what the reader of the form hands over, if there is this ball
--     stated_answer D limit rows m codes stated         the same for what it hands over
--     Agreeing rows m n codes stated                   what is asked of that
use Rattle.std.specs.Prelude.{ℕ, ◌≤◌, ◌≡◌, Bool, true, cond, ◌&&◌, List, ℤ, pos, negsuc, length, take, Result, Ok, Err}
use Rattle.std.proofs.Math.Option.{Option, none, some}
use Rattle.lists.specs.Padded.{padded}
use Rattle.refusal.specs.Number.{text_length, outside_limits, record_form, disagreement}
use Rattle.refusal.specs.Outcome.{refused, refused_at, require, require_some, Outcome, Accepted, refusal_outcome}
use Rattle.geometry.specs.Table.{rows_within}
use Rattle.limits.specs.Limits.{channel_limit, row_limit}
use Rattle.geometry.specs.Places.{centre_list, centre_of}
use Rattle.ball.specs.declared.Ball.{Ball}
use Rattle.text.specs.Parts.{text_within, same}
use Rattle.channel.specs.Channel.{Types}
use Rattle.typed_rows.specs.Given.{given_within}
use Rattle.envelope.specs.Figures.{figures_of, envelope_of, empty_envelope}
use Rattle.agreement.specs.Agreement.{agrees}
use Rattle.envelope.specs.declared.Envelope.{Envelope}
use Rattle.record_form.specs.Record.{Record, require_sound, form}
use Rattle.record_form.specs.Weights.{weights_of}
use Rattle.record_form.specs.declared.form.Stated.{Stated}
use Rattle.ball.specs.Ball.{filled_ball}
use Rattle.refusal.specs.declared.Refusal.{Refusal}

-- what reading a record answers, in numbers
pub record EnvelopeRead : Type 0 where
  pub outcome : Outcome
  pub envelope : Envelope

abbrev pub not_read : ℕ → Outcome → EnvelopeRead
not_read limit o = record { outcome = o; envelope = empty_envelope limit }

abbrev pub envelope_outcome : ℕ → Result Envelope Refusal → EnvelopeRead
envelope_outcome limit (Ok e) = record { outcome = Accepted; envelope = e }
envelope_outcome limit (Err r) = not_read limit (refusal_outcome r)

abbrev pub stated_ball : List ℤ → ℤ → ℤ → Bool → Option Ball
stated_ball X (pos M) (pos L) s = some (filled_ball X M L s)
stated_ball X (pos M) (negsuc k) s = none
stated_ball X (negsuc k) L s = none

abbrev pub ball_of_record : Record → Option Ball
ball_of_record r =
    stated_ball (centre_list (length r.codes) (centre_of r.scaled_centre)) r.result.scaled_squared_radius r.result.scaled_lower_bound r.result.settled

-- a row without a `W` line has weight 0; moves are taken as written
abbrev pub stated_envelope : ℕ → Record → Ball → Envelope
stated_envelope limit r ball =
    envelope_of (figures_of (length r.codes) (padded channel_limit r.codes) ball r.result.moves) (weights_of limit r.weights)

-- n and tags are those given; figures and letter are what the check gives of the weights, none of which stands past the m rows
abbrev pub agreed_ball : ℕ → ℕ → List ℤ → ℕ → List ℕ → List ℕ → List ℕ → Option Ball → Option Ball
agreed_ball D limit rows m codes stated ws none = none
agreed_ball D limit rows m codes stated ws (some ball) = cond (same codes stated && agrees D limit rows m (length codes) ball ws) (some ball) none

-- 8, 1, 11, 12
unfoldable pub record_read : ℕ → ℕ → Types → List ℤ → ℕ → ℕ → List ℕ → List ℕ → EnvelopeRead
record_read D limit types rows m n codes text =
    require (given_within limit types rows m n codes) (not_read limit (refused outside_limits)) (λ _.
    require (text_within text) (not_read limit (refused text_length)) (λ _.
    require_sound (form limit types text) (λ line. not_read limit (refused_at record_form line)) (λ r.
    require_some (agreed_ball D limit rows m (take n codes) r.codes (weights_of limit r.weights) (ball_of_record r)) (not_read limit (refused disagreement)) (λ ball.
    record { outcome = Accepted; envelope = stated_envelope limit r ball }))))

-- ---- reading, by what the reader of the form hands over

abbrev pub ball_answer : ℕ → ℕ → List ℤ → ℕ → List ℕ → Stated → Option Ball → EnvelopeRead
ball_answer D limit rows m codes s o =
    require_some (agreed_ball D limit rows m codes (take s.n s.codes) s.weights o) (not_read limit (refused disagreement)) (λ ball.
    record { outcome = Accepted; envelope = envelope_of (figures_of s.n s.codes ball s.moves) s.weights })

unfoldable pub stated_answer : ℕ → ℕ → List ℤ → ℕ → List ℕ → Stated → EnvelopeRead
stated_answer D limit rows m codes s = ball_answer D limit rows m codes s (stated_ball s.scaled_centre s.scaled_squared_radius s.scaled_lower_bound s.settled)

pub record Agreeing (rows : List ℤ) (m n : ℕ) (codes : List ℕ) (s : Stated) : Type 0 where
  pub within : rows_within row_limit rows m n ≡ true
  pub count : length codes ≡ n
  pub channels : s.n ≤ channel_limit
