-- What a text and a record in form answer, test by test; M and L of the latter are signed numbers of the code.
--     stated_faulty, stated_sound     a text that is not in form, and one that is
--     read_channels                   n of what is handed over
--     sign_cast                       what the cast of a number of 0 or more asks
--     codes_differ                    n or the tags are not those given
--     radius_below, floor_below       M or L is below 0
--     Signs s                         both are 0 or more
--     ball_read s                      the ball of such a record
--     envelope_with s ball             the answer where this ball agrees
--     disagreeing, agreeing           its figures do not agree with the rows, or they do
use Prim.Native.Nat.{ℕ, ◌≤◌}
use mathlib.Core.Path.{◌≡◌, refl, sym, ap, ap₂, subst, ◌∙◌}
use mathlib.Core.Bool.{Bool, true, false, cond, ◌&&◌}
use mathlib.Core.List.{List}
use mathlib.Core.Option.{Option, none, some}
use Rattle.std.specs.Prelude.{Ok, Err}
use Rattle.integers.specs.Tests.{impossible}
use native.Mathlib.Omega.{arith}
use borrow.Author.Tests.{ltb-true}
use lib.Dec.{T}
use lib.IntN.{ℤ, pos, negsuc, nat_abs}
use lib.ListN.{length, take}
use lib.Signed.{lt_z, non_neg}
use mir.Syntax.{w64}
use mir.Val.{Fits, SFits}
use mir.Facts.{to_z-of_z}
use Rattle.integers.specs.Absolute.{abs_nonneg, fits_abs}
use Rattle.integers.specs.Reading.{back, number_cast}
use Rattle.refusal.specs.Number.{record_form, disagreement}
use Rattle.refusal.specs.Outcome.{refused, refused_at, require_some}
use Rattle.limits.specs.Limits.{row_limit, channel_limit}
use Rattle.ball.specs.declared.Ball.{Ball}
use Rattle.text.specs.Parts.{text_within, same}
use Rattle.channel.specs.Channel.{Types}
use Rattle.channel.specs.ChannelLaws.{SoundTypes}
use Rattle.envelope.specs.Figures.{figures_of, envelope_of}
use Rattle.agreement.specs.Agreement.{agrees}
use Rattle.envelope.specs.declared.Figures.{Figures}
use Rattle.envelope.specs.declared.Envelope.{Envelope}
use Rattle.record_form.specs.Record.{Record, Form, faulty, sound, form}
use Rattle.record_form.specs.RecordLaws.{form_printed}
use Rattle.record_form.specs.Clauses.{held_record, stated_record, stated_form}
use Rattle.record_form.specs.declared.form.Stated.{Stated}
use Rattle.ball.specs.Ball.{filled_ball}
use Rattle.record_read.specs.Clauses.{not_read, stated_ball, ball_answer, stated_answer, record_read, EnvelopeRead}
use Rattle.typed_rows.specs.Given.{given_within}
use Rattle.record_read.specs.ReadLaws.{accepting, read_faulty, read_sound}
use Rattle.record_read.specs.HeldLaws.{Holding, held-answer}

pub sign_cast : (z : ℤ) → SFits w64 z → lt_z (back w64 z) (pos 0) ≡ false → T (non_neg (back w64 z)) × Fits w64 (nat_abs (back w64 z))
sign_cast z f h =
    number_cast w64 (nat_abs (back w64 z)) (abs_nonneg (back w64 z) h) (omega (arith, ap nat_abs (to_z-of_z f), fits_abs w64 z f))

-- no number of 0 or more is below 0
none_below : {P : Type 0} (k : ℕ) → lt_z (pos k) (pos 0) ≡ true → P
none_below k h = absurd (omega (arith, ltb-true k 0 h))

pub record Signs (s : Stated) : Type 0 where
  pub radius_fits : SFits w64 s.scaled_squared_radius
  pub floor_fits : SFits w64 s.scaled_lower_bound
  pub radius_not : lt_z (back w64 s.scaled_squared_radius) (pos 0) ≡ false
  pub floor_not : lt_z (back w64 s.scaled_lower_bound) (pos 0) ≡ false

abbrev pub ball_read : Stated → Ball
ball_read s =
    filled_ball s.scaled_centre (nat_abs (back w64 s.scaled_squared_radius)) (nat_abs (back w64 s.scaled_lower_bound)) s.settled

abbrev pub envelope_with : Stated → Ball → EnvelopeRead
envelope_with s ball = accepting (envelope_of (figures_of s.n s.codes ball s.moves) s.weights)

module _ (D limit : ℕ) (rows : List ℤ) (m : ℕ) (codes : List ℕ) (s : Stated) where
  abbrev turned : EnvelopeRead
  turned = not_read limit (refused disagreement)

  pub codes_differ : same codes (take s.n s.codes) ≡ false → turned ≡ stated_answer D limit rows m codes s
  unfolding stated_answer
  codes_differ e = go (stated_ball s.scaled_centre s.scaled_squared_radius s.scaled_lower_bound s.settled)
    where
      go : (o : Option Ball) → turned ≡ ball_answer D limit rows m codes s o
      go none = refl
      go (some ball) = rw e

  pub radius_below : SFits w64 s.scaled_squared_radius → lt_z (back w64 s.scaled_squared_radius) (pos 0) ≡ true → turned ≡ stated_answer D limit rows m codes s
  unfolding stated_answer
  radius_below f h = go s.scaled_squared_radius (ap (λ x. lt_z x (pos 0)) (sym (to_z-of_z f)) ∙ h)
    where
      go : (M : ℤ) → lt_z M (pos 0) ≡ true → turned ≡ ball_answer D limit rows m codes s (stated_ball s.scaled_centre M s.scaled_lower_bound s.settled)
      go (pos k) h = none_below k h
      go (negsuc k) h = refl

  pub floor_below : SFits w64 s.scaled_lower_bound → lt_z (back w64 s.scaled_lower_bound) (pos 0) ≡ true → turned ≡ stated_answer D limit rows m codes s
  unfolding stated_answer
  floor_below f h = go s.scaled_squared_radius s.scaled_lower_bound (ap (λ x. lt_z x (pos 0)) (sym (to_z-of_z f)) ∙ h)
    where
      go : (M L : ℤ) → lt_z L (pos 0) ≡ true → turned ≡ ball_answer D limit rows m codes s (stated_ball s.scaled_centre M L s.settled)
      go (pos j) (pos k) h = none_below k h
      go (pos j) (negsuc k) h = refl
      go (negsuc j) L h = refl

  module _ (signs : Signs s) where
    stated : stated_ball s.scaled_centre s.scaled_squared_radius s.scaled_lower_bound s.settled ≡ some (ball_read s)
    stated =
        ap₂ (λ M L. stated_ball s.scaled_centre M L s.settled)
        (sym (to_z-of_z signs.radius_fits) ∙ abs_nonneg (back w64 s.scaled_squared_radius) signs.radius_not)
        (sym (to_z-of_z signs.floor_fits) ∙ abs_nonneg (back w64 s.scaled_lower_bound) signs.floor_not)

    -- n and the tags are those given
    module _ (n : ℕ) (count : length codes ≡ n) (agreed : same codes (take s.n s.codes) ≡ true) where
      answer : (t : Bool) → agrees D limit rows m n (ball_read s) s.weights ≡ t
          → require_some (cond t (some (ball_read s)) none) turned (envelope_with s) ≡ stated_answer D limit rows m codes s
      unfolding stated_answer
      answer t h =
          ap₂ (λ a b. require_some (cond (a && b) (some (ball_read s)) none) turned (envelope_with s)) (sym agreed)
          (sym h ∙ ap (λ j. agrees D limit rows m j (ball_read s) s.weights) (sym count))
          ∙ ap (ball_answer D limit rows m codes s) (sym stated)

      -- the ball as it is made
      module _ {ball : Ball} (is : ball ≡ ball_read s) where
        tested : (t : Bool) → agrees D limit rows m n ball s.weights ≡ t
            → require_some (cond t (some (ball_read s)) none) turned (envelope_with s) ≡ stated_answer D limit rows m codes s
        tested t h = answer t (ap (λ (b : Ball). agrees D limit rows m n b s.weights) (sym is) ∙ h)

        pub disagreeing : agrees D limit rows m n ball s.weights ≡ false → turned ≡ stated_answer D limit rows m codes s
        disagreeing = tested false

        pub agreeing : {figures : Figures} {envelope : Envelope} → figures ≡ figures_of s.n s.codes ball s.moves
            → envelope ≡ envelope_of figures s.weights → agrees D limit rows m n ball s.weights ≡ true
            → accepting envelope ≡ stated_answer D limit rows m codes s
        agreeing f e h =
            ap accepting
            (e ∙ ap (λ (x : Figures). envelope_of x s.weights) (f ∙ ap (λ (b : Ball). figures_of s.n s.codes b s.moves) is))
            ∙ tested true h

-- ---- a text

-- n of a record in form
form_channels : (types : Types) → SoundTypes types → (text : List ℕ) (r : Record) → form row_limit types text ≡ sound r
    → length r.codes ≤ channel_limit
form_channels types types_sound text r f = (form_printed row_limit types types_sound text r f).0.heading.channels

module _ (types : Types) (text : List ℕ) where
  abbrev read : Form Record
  read = form row_limit types text

  pub read_channels : {s : Stated} → Ok s ≡ stated_form read → SoundTypes types → s.n ≤ channel_limit
  read_channels {s} e types_sound = go read refl e
    where
      go : (f : Form Record) → read ≡ f → Ok s ≡ stated_form f → s.n ≤ channel_limit
      go (faulty line) is handed = impossible (cc)
      go (sound r) is handed =
          let same : s ≡ stated_record (held_record r) = cc in
          subst (λ (x : Stated). x.n ≤ channel_limit) (sym same) (form_channels types types_sound text r is)

  module _ (D : ℕ) (rows : List ℤ) (m n : ℕ) (codes : List ℕ) (given : given_within row_limit types rows m n codes ≡ true)
      (within : text_within text ≡ true) where
    pub stated_faulty : {line : ℕ} → Err line ≡ stated_form read
        → not_read row_limit (refused_at record_form line) ≡ record_read D row_limit types rows m n codes text
    stated_faulty {line} e = go read refl e
      where
        go : (f : Form Record) → read ≡ f → Err line ≡ stated_form f
            → not_read row_limit (refused_at record_form line) ≡ record_read D row_limit types rows m n codes text
        go (faulty fault) is handed =
            let same : line ≡ fault = cc in
            ap (λ (l : ℕ). not_read row_limit (refused_at record_form l)) same
            ∙ sym (read_faulty D row_limit types rows m n codes text given within fault is)
        go (sound r) is handed = impossible (cc)

    pub stated_sound : {s : Stated} → Ok s ≡ stated_form read → SoundTypes types → Holding D
        → stated_answer D row_limit rows m (take n codes) s ≡ record_read D row_limit types rows m n codes text
    stated_sound {s} e types_sound holding = go read refl e
      where
        go : (f : Form Record) → read ≡ f → Ok s ≡ stated_form f
            → stated_answer D row_limit rows m (take n codes) s ≡ record_read D row_limit types rows m n codes text
        go (faulty line) is handed = impossible (cc)
        go (sound r) is handed =
            let same : s ≡ stated_record (held_record r) = cc in
            ap (stated_answer D row_limit rows m (take n codes)) same
            ∙ held-answer D holding rows m (take n codes) r (form_channels types types_sound text r is)
            ∙ sym (read_sound D row_limit types rows m n codes text given within r is)
