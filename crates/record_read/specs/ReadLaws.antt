-- What reading a record answers, for any total D, row limit and sound table of types.
--     accepting e                    the answer with this envelope
--     agreed_ball_lem, ball_agreed       a ball that agrees with rows and codes, test by test
--     sound_answer D limit ..         what a record in form answers
--     read_limits, read_length       8 and 1
--     read_faulty, read_sound        11, and what is answered past it
--     Accepting                      what an accepted record is: in form, with the codes given, and in agreement with the rows
--     each_read                      what holds of each answer holds of the call
--     read_zero                      only an accepted record has the number 0
--     accepted-read, read-accepted   a record is accepted exactly where it is an accepted one
--     read-otherwise                 an accepted record, read against other rows, is kept where it agrees with them, else 12
--     not_11_printed                 a text of 1 to 65,536 bytes that 11 does not meet is the printing of a record within the limits
--     printed_not_11                 the printing of a record within the limits is not met by 11
use Rattle.std.specs.Prelude.{ℕ, ◌<◌, ◌≡◌, refl, Bool, true, false, cond, ◌&&◌, List, ℤ, length, take}
use Rattle.std.proofs.Common.{sym, ◌∙◌, ap, ap₂, arith, length-take-le}
use Rattle.std.proofs.Math.Option.{Option, none, some}
use Rattle.integers.specs.Tests.{both, cond_some, impossible, nonzero, unlike}
use Rattle.refusal.specs.Number.{text_length, outside_limits, record_form, disagreement}
use Rattle.refusal.specs.Outcome.{refused, refused_at, number_of, require_some, Accepted}
use Rattle.refusal.specs.OutcomeLaws.{each_answer, each_found}
use Rattle.geometry.specs.Table.{rows_within}
use Rattle.ball.specs.declared.Ball.{Ball}
use Rattle.text.specs.Parts.{text_within, same}
use Rattle.text.specs.PartsLaws.{same_eq, same_refl}
use Rattle.number.specs.Clauses.{magnitude_limit}
use Rattle.channel.specs.Channel.{Types}
use Rattle.channel.specs.ChannelLaws.{SoundTypes}
use Rattle.agreement.specs.Agreement.{agrees}
use Rattle.envelope.specs.declared.Envelope.{Envelope}
use Rattle.record_form.specs.Record.{Record, Form, faulty, sound, form, print_record, Within}
use Rattle.record_form.specs.RecordLaws.{each_sound, form_printed, printed_form}
use Rattle.record_form.specs.Weights.{weights_of}
use Rattle.record_read.specs.Clauses.{not_read, ball_of_record, stated_envelope, agreed_ball, record_read, EnvelopeRead}
use Rattle.typed_rows.specs.Given.{given_within}
use Rattle.typed_rows.specs.GivenLaws.{given-within, within-given}

abbrev pub accepting : Envelope → EnvelopeRead
accepting e = record { outcome = Accepted; envelope = e }

-- ---- 12

module _ (D limit : ℕ) (rows : List ℤ) (m : ℕ) (codes stated ws : List ℕ) where
  pub agreed_ball_lem : (o : Option Ball) {ball : Ball} → agreed_ball D limit rows m codes stated ws o ≡ some ball
      → (o ≡ some ball) × (codes ≡ stated) × (agrees D limit rows m (length codes) ball ws ≡ true)
  agreed_ball_lem none e = unlike e
  agreed_ball_lem (some b) {ball} e =
      let agreeing = agrees D limit rows m (length codes) b ws in
      let test = cond_some (same codes stated && agreeing) e in
      let tests = both (same codes stated) agreeing test.0 in
      let is : b ≡ ball = cc test.1 in
      (test.1, same_eq codes stated tests.0, ap (λ (x : Ball). agrees D limit rows m (length codes) x ws) (sym is) ∙ tests.1)

  pub ball_agreed : {o : Option Ball} {ball : Ball} → o ≡ some ball → codes ≡ stated → agrees D limit rows m (length codes) ball ws ≡ true
      → agreed_ball D limit rows m codes stated ws o ≡ some ball
  ball_agreed {ball = ball} states alike agreeing =
      ap (agreed_ball D limit rows m codes stated ws) states
      ∙ ap (λ (t : Bool). cond t (some ball) none) (ap₂ ◌&&◌ (ap (same codes) (sym alike) ∙ same_refl codes) agreeing)

-- ---- the order

-- a record in form, past 11
abbrev pub sound_answer : ℕ → ℕ → List ℤ → ℕ → List ℕ → Record → EnvelopeRead
sound_answer D limit rows m codes r =
    require_some (agreed_ball D limit rows m codes r.codes (weights_of limit r.weights) (ball_of_record r)) (not_read limit (refused disagreement)) (λ ball.
    accepting (stated_envelope limit r ball))

module _ (D limit : ℕ) (types : Types) (rows : List ℤ) (m n : ℕ) (codes text : List ℕ) where
  pub read_limits : given_within limit types rows m n codes ≡ false → record_read D limit types rows m n codes text ≡ not_read limit (refused outside_limits)
  unfolding record_read
  read_limits h = rw (h, record_read)

  module _ (given : given_within limit types rows m n codes ≡ true) where
    pub read_length : text_within text ≡ false → record_read D limit types rows m n codes text ≡ not_read limit (refused text_length)
    unfolding record_read
    read_length h = rw (given, h, record_read)

    module _ (within : text_within text ≡ true) where
      pub read_faulty : (line : ℕ) → form limit types text ≡ faulty line
          → record_read D limit types rows m n codes text ≡ not_read limit (refused_at record_form line)
      unfolding record_read
      read_faulty line h = rw (given, within, h, record_read)

      pub read_sound : (r : Record) → form limit types text ≡ sound r
          → record_read D limit types rows m n codes text ≡ sound_answer D limit rows m (take n codes) r
      unfolding record_read
      read_sound r h = rw (given, within, h, record_read)

-- ---- what may be answered

-- an accepted record: what it states is in form, has the codes given, and agrees with the rows
pub record Accepting (D limit : ℕ) (types : Types) (rows : List ℤ) (m n : ℕ) (codes text : List ℕ) (e : Envelope) : Type 0 where
  pub given : given_within limit types rows m n codes ≡ true
  pub some_text : text_within text ≡ true
  pub stated : Record
  pub ball : Ball
  pub in_form : form limit types text ≡ sound stated
  pub states : ball_of_record stated ≡ some ball
  pub same_codes : take n codes ≡ stated.codes
  pub agreeing : agrees D limit rows m (length (take n codes)) ball (weights_of limit stated.weights) ≡ true
  pub envelope_is : e ≡ stated_envelope limit stated ball

-- what holds of each answer holds of the call
module _ (D limit : ℕ) (types : Types) (rows : List ℤ) (m n : ℕ) (codes text : List ℕ) (P : EnvelopeRead → Type 0)
    (outside : P (not_read limit (refused outside_limits))) (no_text : P (not_read limit (refused text_length)))
    (faulted : (line : ℕ) → form limit types text ≡ faulty line → P (not_read limit (refused_at record_form line)))
    (disagreed : P (not_read limit (refused disagreement)))
    (accepted : (e : Envelope) → Accepting D limit types rows m n codes text e → P (accepting e)) where
  pub each_read : P (record_read D limit types rows m n codes text)
  unfolding record_read
  each_read =
      each_answer P (given_within limit types rows m n codes) (λ _. outside) (λ given.
      each_answer P (text_within text) (λ _. no_text) (λ within.
      each_sound P (form limit types text) faulted (λ r in_form.
      each_found P (agreed_ball D limit rows m (take n codes) r.codes (weights_of limit r.weights) (ball_of_record r)) (λ _. disagreed) (λ ball agreed.
      let agreement = agreed_ball_lem D limit rows m (take n codes) r.codes (weights_of limit r.weights) (ball_of_record r) agreed in
      accepted (stated_envelope limit r ball)
      record {
        given = given;
        some_text = within;
        stated = r;
        ball = ball;
        in_form = in_form;
        states = agreement.0;
        same_codes = agreement.1;
        agreeing = agreement.2;
        envelope_is = refl;
      }))))

module _ (D limit : ℕ) (types : Types) (rows : List ℤ) (m n : ℕ) (codes text : List ℕ) where
  pub read_zero : number_of (record_read D limit types rows m n codes text).outcome ≡ 0 → (record_read D limit types rows m n codes text).outcome ≡ Accepted
  read_zero =
      each_read D limit types rows m n codes text (λ (a : EnvelopeRead). number_of a.outcome ≡ 0 → a.outcome ≡ Accepted)
      nonzero nonzero (λ line e. nonzero) nonzero (λ e a h. refl)

  pub accepted-read : (record_read D limit types rows m n codes text).outcome ≡ Accepted
      → Accepting D limit types rows m n codes text (record_read D limit types rows m n codes text).envelope
  accepted-read h =
      each_read D limit types rows m n codes text
      (λ (a : EnvelopeRead). number_of a.outcome ≡ 0 → Accepting D limit types rows m n codes text a.envelope)
      nonzero nonzero (λ line e. nonzero) nonzero (λ e a k. a) (ap number_of h)

  pub read-accepted : (e : Envelope) → Accepting D limit types rows m n codes text e → record_read D limit types rows m n codes text ≡ accepting e
  read-accepted e a =
      read_sound D limit types rows m n codes text a.given a.some_text a.stated a.in_form
      ∙ ap (λ (o : Option Ball). require_some o (not_read limit (refused disagreement)) (λ ball. accepting (stated_envelope limit a.stated ball)))
      (ball_agreed D limit rows m (take n codes) a.stated.codes (weights_of limit a.stated.weights) a.states a.same_codes a.agreeing)
      ∙ ap accepting (sym a.envelope_is)

-- an accepted record, by whether it agrees with other rows
module _ (D limit : ℕ) (types : Types) (rows others : List ℤ) (m n : ℕ) (codes text : List ℕ) where
  -- what it is read as
  abbrev accepted : EnvelopeRead
  accepted = record_read D limit types rows m n codes text

  -- what is answered of an envelope that the text states
  abbrev otherwise : Envelope → EnvelopeRead
  otherwise e = cond (agrees D limit others m n e.figures.ball e.weights) (accepting e) (not_read limit (refused disagreement))

  module _ (h : accepted.outcome ≡ Accepted) where
    abbrev a : Accepting D limit types rows m n codes text accepted.envelope
    a = accepted-read D limit types rows m n codes text h

    abbrev ws : List ℕ
    ws = weights_of limit a.stated.weights

    abbrev answer : Option Ball → EnvelopeRead
    answer o = require_some o (not_read limit (refused disagreement)) (λ ball. accepting (stated_envelope limit a.stated ball))

    kept : (t : Bool) → answer (cond t (some a.ball) none) ≡ cond t (accepting (stated_envelope limit a.stated a.ball)) (not_read limit (refused disagreement))
    kept true = refl
    kept false = refl

    pub read-otherwise : rows_within limit others m n ≡ true
        → record_read D limit types others m n codes text
        ≡ cond (agrees D limit others m n accepted.envelope.figures.ball accepted.envelope.weights) accepted (not_read limit (refused disagreement))
    read-otherwise within =
        let given = given-within limit types rows m n codes a.given in
        let count = ap (λ (k : ℕ). agrees D limit others m k a.ball ws) (length-take-le n codes given.1) in
        let alike = ap (same (take n codes)) (sym a.same_codes) ∙ same_refl (take n codes) in
        read_sound D limit types others m n codes text (within-given limit types others m n codes within given.1 given.2) a.some_text
        a.stated a.in_form
        ∙ ap (λ (o : Option Ball). answer (agreed_ball D limit others m (take n codes) a.stated.codes ws o)) a.states
        ∙ ap (λ (t : Bool). answer (cond t (some a.ball) none)) (ap₂ ◌&&◌ alike count)
        ∙ kept (agrees D limit others m n a.ball ws)
        ∙ ap otherwise (sym a.envelope_is)
        ∙ ap (λ (e : EnvelopeRead). cond (agrees D limit others m n accepted.envelope.figures.ball accepted.envelope.weights) e (not_read limit (refused disagreement)))
        (sym (read-accepted D limit types rows m n codes text accepted.envelope a))

-- ---- 2.10: the form

module _ (D limit : ℕ) (types : Types) (types_sound : SoundTypes types) (rows : List ℤ) (m n : ℕ) (codes text : List ℕ) where
  pub not_11_printed : given_within limit types rows m n codes ≡ true → text_within text ≡ true
      → (number_of (record_read D limit types rows m n codes text).outcome ≡ record_form → ⊥)
      → (r : Record) × Within limit types r × (print_record types r ≡ text)
  not_11_printed given within other = go (form limit types text) refl
    where
      go : (f : Form Record) → form limit types text ≡ f → (r : Record) × Within limit types r × (print_record types r ≡ text)
      go (faulty line) e =
          absurd (other (ap (λ (a : EnvelopeRead). number_of a.outcome) (read_faulty D limit types rows m n codes text given within line e)))
      go (sound r) e = let printed = form_printed limit types types_sound text r e in (r, printed.0, printed.1)

  pub printed_not_11 : limit < magnitude_limit → (r : Record) → Within limit types r → print_record types r ≡ text
      → number_of (record_read D limit types rows m n codes text).outcome ≡ record_form → ⊥
  printed_not_11 small r within printed =
      each_read D limit types rows m n codes text (λ (a : EnvelopeRead). number_of a.outcome ≡ record_form → ⊥)
      (λ h. omega arith) (λ h. omega arith) (λ line e h. apart (sym e ∙ in_form)) (λ h. omega arith) (λ e a h. omega arith)
    where
      in_form : form limit types text ≡ sound r
      in_form = ap (form limit types) (sym printed) ∙ printed_form limit types types_sound r within small

      apart : {line : ℕ} → ◌≡◌ {A = Form Record} (faulty line) (sound r) → ⊥
      apart e = let z : ◌≡◌ {A = ℕ} 0 1 = cc in impossible z
