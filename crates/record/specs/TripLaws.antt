-- The two round trips of a record, for any total D up to 65,536, row limit and sound table of types.
--     accepted_record                            the record of the envelope of an accepted record is that record
--     accepted-writing                           that envelope is written
--     accepted_bytes                             2.11: an accepted record, written to a buffer that holds it, gives its own bytes
--     accepted-within                            2.14: the figures of an accepted record are within their limits
--     accepted-cleared                           its envelope has 0 in the places past n
--     accepted_tight                             demand 3 holds of its figures
--     Holds limit e                              what the weights of an envelope keep as an array
--     record_within                              the record of an envelope within limits may be written, if some weight is above 0
--     written_envelope                           2.11: a written record, read against the same rows and codes, gives its own envelope, cleared
--     disagreement_unread, unread_disagreement   writing refuses with 12 exactly the envelopes whose record reading turns back
--     cleared-text, written-cleared              places past n are not looked at
use Prim.Native.Nat.{ℕ, ◌*◌, ◌≤◌, ◌<◌}
use Rattle.std.proofs.Math.Path.{◌≡◌, sym, ap, ap₂}
use Rattle.std.specs.Prelude.{refl, Bool, true, false, ◌&&◌, pos, negsuc, nat_abs, take}
use Rattle.std.proofs.Common.{◌∙◌, subst, arith, le_refl, mul-le-mul, le-leb, ext_get_or, get_or-take}
use mathlib.Core.List.{List}
use Rattle.std.proofs.Math.Option.{some}
use Rattle.std.proofs.Math.Decide.{dec_le}
use Rattle.std.proofs.Math.IntN.{ℤ}
use Rattle.std.proofs.Math.ListN.{length}
use Rattle.std.proofs.Math.Seq.{length-take-le}
use Rattle.integers.specs.Tests.{clash, unlike, test-same, range_in}
use Rattle.lists.specs.Each.{Each}
use Rattle.lists.specs.Padded.{padded, padded-take, padded_first, padded-length}
use Rattle.refusal.specs.Number.{disagreement}
use Rattle.refusal.specs.Outcome.{refused, number_of, Accepted}
use Rattle.geometry.specs.Table.{coordinate, rows_within}
use Rattle.limits.specs.Limits.{total, channel_limit, centre_limit, distance_limit, text_limit}
use Rattle.geometry.specs.Places.{centre_list, centre_of}
use Rattle.geometry.specs.PlacesLaws.{length_centre_list, centre_list_at, centre_list_cong}
use Rattle.ball.specs.Clauses.{Tight}
use Rattle.ball.specs.declared.Ball.{Ball}
use Rattle.text.specs.LinesLaws.{printed_some}
use Rattle.number.specs.Clauses.{magnitude_limit}
use Rattle.channel.specs.Channel.{Types, codes_known}
use Rattle.channel.specs.ChannelLaws.{SoundTypes}
use Rattle.heading.specs.Heading.{CodesWithin}
use Rattle.envelope.specs.Figures.{channel_codes, figures_known, figures_of}
use Rattle.envelope.specs.FigureLaws.{Within as FiguresWithin, Coded, known-within, known_coded, figures-known, known-refused}
use Rattle.channel.specs.CodesLaws.{codes_each, each_codes}
use Rattle.agreement.specs.Agreement.{agrees, with_centre, cleared_ball, cleared}
use Rattle.agreement.specs.AgreementLaws.{agrees_agreed, agrees-cleared, agreed_within, agreed_tight, agreed_some}
use Rattle.envelope.specs.declared.Envelope.{Envelope}
use Rattle.record_lines.specs.Lines.{Weight}
use Rattle.record_form.specs.Record.{Record, Form, sound, print_record, weights_within, Within}
use Rattle.record_form.specs.RecordLaws.{form_printed, printed_form, printed-count}
use Rattle.record_form.specs.Weights.{weights_of, listed}
use Rattle.record_form.specs.WeightsLaws.{ShortWeight, placed_listed, listed_placed, listed-within, listed_some}
use Rattle.record_print.specs.Printed.{record_of, record_text}
use Rattle.ball.specs.Ball.{filled_ball}
use Rattle.record_read.specs.Clauses.{stated_ball, ball_of_record, stated_envelope, record_read, EnvelopeRead}
use Rattle.typed_rows.specs.Given.{given_within}
use Rattle.record_write.specs.Clauses.{record_written}
use Rattle.lent.specs.Clauses.{not_written, written}
use Rattle.record_read.specs.ReadLaws.{Accepting, accepting, accepted-read, read-accepted}
use Rattle.typed_rows.specs.GivenLaws.{given-within}
use Rattle.record_write.specs.WriteLaws.{Writing, writing-written, refused-writing}
use Rattle.record_write.proofs.AnswerLaws.{writing-refused}

-- ---- the ball that a record states

record Stating (X : List ℤ) (M L : ℤ) (s : Bool) (b : Ball) : Type 0 where
  centre : b.scaled_centre ≡ X
  radius : pos b.scaled_squared_radius ≡ M
  floor : pos b.scaled_lower_bound ≡ L
  ending : b.settled ≡ s

ball_stated : (X : List ℤ) (M L : ℤ) (s : Bool) (b : Ball) → stated_ball X M L s ≡ some b → Stating X M L s b
ball_stated X (pos M) (pos L) s b e = go cc
  where
    go : filled_ball X M L s ≡ b → Stating X (pos M) (pos L) s b
    go h =
        record {
          centre = sym (ap (λ (x : Ball). x.scaled_centre) h);
          radius = sym (ap (λ (x : Ball). pos x.scaled_squared_radius) h);
          floor = sym (ap (λ (x : Ball). pos x.scaled_lower_bound) h);
          ending = sym (ap (λ (x : Ball). x.settled) h);
        }
ball_stated X (pos M) (negsuc k) s b e = unlike e
ball_stated X (negsuc k) L s b e = unlike e

-- the first n places of X in its eight are X
taken : (X : List ℤ) (n : ℕ) → length X ≡ n → n ≤ channel_limit → take n (centre_list n (centre_of X)) ≡ X
taken X n many most =
    let long : n ≤ length (centre_list n (centre_of X)) = omega (arith, length_centre_list n (centre_of X)) in
    let places = length-take-le n (centre_list n (centre_of X)) long in
    ext_get_or (pos 0) (take n (centre_list n (centre_of X))) X (places ∙ sym many)
    (λ k h. let below : k < n = omega arith in get_or-take n (centre_list n (centre_of X)) k (pos 0) below ∙ centre_list_at n (centre_of X) k most below)

-- and back
put_back : (X : List ℤ) (n : ℕ) → n ≤ channel_limit → centre_list n (centre_of (take n X)) ≡ centre_list n (centre_of X)
put_back X n most = centre_list_cong n (centre_of (take n X)) (centre_of X) most (λ k h. get_or-take n X k (pos 0) h)

module _ (limit : ℕ) (types : Types) (r : Record) (ball : Ball) (within : Within limit types r) (states : ball_of_record r ≡ some ball) where
  stated : Stating (centre_list (length r.codes) (centre_of r.scaled_centre)) r.result.scaled_squared_radius r.result.scaled_lower_bound r.result.settled ball
  stated = ball_stated (centre_list (length r.codes) (centre_of r.scaled_centre)) r.result.scaled_squared_radius r.result.scaled_lower_bound r.result.settled ball states

  stated_record_lem : record_of (stated_envelope limit r ball).figures (stated_envelope limit r ball).weights ≡ r
  stated_record_lem =
      same _ _ _ _ _ _ (padded-take channel_limit r.codes within.heading.channels)
      (ap (take (length r.codes)) stated.centre ∙ taken r.scaled_centre (length r.codes) within.complete within.heading.channels)
      stated.radius stated.floor stated.ending (placed_listed limit r.weights within.each_weight)
    where
      same : (codes : List ℕ) (centre : List ℤ) (M L : ℤ) (s : Bool) (ws : List Weight) → codes ≡ r.codes → centre ≡ r.scaled_centre → M ≡ r.result.scaled_squared_radius
          → L ≡ r.result.scaled_lower_bound → s ≡ r.result.settled → ws ≡ r.weights
          → ◌≡◌ {A = Record} (record { codes = codes; scaled_centre = centre; result = record { scaled_squared_radius = M; scaled_lower_bound = L; moves = r.result.moves; settled = s }; weights = ws }) r
      same codes centre M L s ws a b c d e f = rw (a, b, c, d, e, f)

-- ---- accepted records

module _ (D limit : ℕ) (types : Types) (types_sound : SoundTypes types) where
  module _ (rows : List ℤ) (m n : ℕ) (codes text : List ℕ) (e : Envelope) (a : Accepting D limit types rows m n codes text e) where
    printed : Within limit types a.stated × (print_record types a.stated ≡ text)
    printed = form_printed limit types types_sound text a.stated a.in_form

    many : length a.stated.codes ≡ n
    many = ap length (sym a.same_codes) ∙ length-take-le n codes (given-within limit types rows m n codes a.given).1

    -- n as the record states it
    agreed : agrees D limit rows m (length a.stated.codes) a.ball (weights_of limit a.stated.weights) ≡ true
    agreed = ap (λ (l : List ℕ). agrees D limit rows m (length l) a.ball (weights_of limit a.stated.weights)) (sym a.same_codes) ∙ a.agreeing

    pub accepted_record : record_of e.figures e.weights ≡ a.stated
    accepted_record =
        ap (λ (x : Envelope). record_of x.figures x.weights) a.envelope_is
        ∙ stated_record_lem limit types a.stated a.ball printed.0 a.states

    centre_is : a.ball.scaled_centre ≡ centre_list (length a.stated.codes) (centre_of a.stated.scaled_centre)
    centre_is = (stated limit types a.stated a.ball printed.0 a.states).centre

    ball_cleared : cleared_ball (length a.stated.codes) a.ball ≡ a.ball
    ball_cleared =
        let count = length a.stated.codes in
        let X = centre_of a.stated.scaled_centre in
        let again : centre_list count (centre_of a.ball.scaled_centre) ≡ a.ball.scaled_centre =
        ap (λ (l : List ℤ). centre_list count (centre_of l)) centre_is
        ∙ centre_list_cong count (centre_of (centre_list count X)) X printed.0.heading.channels (λ k h. centre_list_at count X k printed.0.heading.channels h)
        ∙ sym centre_is in
        ap (with_centre a.ball) again

    pub accepted-cleared : cleared e ≡ e
    accepted-cleared =
        let r = a.stated in
        let codes-are : padded channel_limit (take (length r.codes) (padded channel_limit r.codes)) ≡ padded channel_limit r.codes =
        ap (padded channel_limit) (padded-take channel_limit r.codes printed.0.heading.channels) in
        ap cleared a.envelope_is
        ∙ ap₂ of codes-are ball_cleared
        ∙ sym a.envelope_is
      where
        of : List ℕ → Ball → Envelope
        of codes b =
            record {
              figures = figures_of (length a.stated.codes) codes b a.stated.result.moves;
              weights = weights_of limit a.stated.weights;
            }

    module _ (positive : 0 < D) where
      stated-writing : Writing D limit types rows m (stated_envelope limit a.stated a.ball)
      stated-writing =
          let r = a.stated in
          let count = length r.codes in
          let most = printed.0.heading.channels in
          let codes-are = padded-take channel_limit r.codes most in
          record {
            figures_kept_lem =
                agreed_within D limit rows m count a.ball (weights_of limit r.weights)
                (agrees_agreed D limit rows m count a.ball (weights_of limit r.weights) agreed) positive types (padded channel_limit r.codes)
                r.result.moves (omega (arith, most, padded-length channel_limit r.codes))
                (omega (arith, most, ap length centre_is, length_centre_list count (centre_of r.scaled_centre)))
                (ap (codes_known types) codes-are ∙ each_codes types r.codes printed.0.heading.each_known) printed.0.moves_most;
            rows_kept = ap (rows_within limit rows m) many ∙ (given-within limit types rows m n codes a.given).0;
            agreeing = agreed;
          }

      pub accepted-writing : Writing D limit types rows m e
      accepted-writing = subst (Writing D limit types rows m) (sym a.envelope_is) stated-writing

      pub accepted_bytes : (record_text types e ≡ text) × ((places : ℕ) → length text ≤ places → record_written D limit types rows m e places ≡ written (length text))
      unfolding record_text
      accepted_bytes =
          let own : record_text types e ≡ text = ap (print_record types) accepted_record ∙ printed.1 in
          (own, λ places room. writing-written D limit types rows m e places accepted-writing (omega (arith, ap length own, room)) ∙ ap (λ (l : List ℕ). written (length l)) own)

      pub accepted-within : figures_known D types e.figures ≡ true
      accepted-within = accepted-writing.figures_kept_lem

      pub accepted_tight : Tight D m n (coordinate rows n) e.figures.ball
      accepted_tight =
          let count = length a.stated.codes in
          let ws = weights_of limit a.stated.weights in
          let tight = agreed_tight D limit rows m count a.ball ws (agrees_agreed D limit rows m count a.ball ws agreed) positive in
          subst (λ (k : ℕ). Tight D m k (coordinate rows k) e.figures.ball) many
          (subst (λ (x : Envelope). Tight D m count (coordinate rows count) x.figures.ball) (sym a.envelope_is)
          (subst (Tight D m count (coordinate rows count)) ball_cleared tight))

-- ---- written envelopes

-- as many places as the row limit, each a number of at most 19 digits
pub record Holds (limit : ℕ) (e : Envelope) : Type 0 where
  pub places : length e.weights ≡ limit
  pub short : Each ShortWeight 0 e.weights

distance_most : (D : ℕ) → D ≤ total → distance_limit D ≤ distance_limit total
distance_most D h =
    let twice : 2 * centre_limit D ≤ 2 * centre_limit total = omega arith in
    mul-le-mul (mul-le-mul (le_refl channel_limit) twice) twice

module _ (D limit : ℕ) (types : Types) (e : Envelope) (D-most : D ≤ total) (kept : figures_known D types e.figures ≡ true) (holds : Holds limit e) where
  figures : FiguresWithin D e.figures
  figures = known-within D types e.figures kept

  known-codes : Coded types e.figures
  known-codes = known_coded D types e.figures kept

  coded : length (channel_codes e.figures) ≡ e.figures.n
  coded = length-take-le e.figures.n e.figures.codes known-codes.typed

  placed : length (take e.figures.n e.figures.ball.scaled_centre) ≡ e.figures.n
  placed = length-take-le e.figures.n e.figures.ball.scaled_centre figures.places

  record_heading : CodesWithin channel_limit types (channel_codes e.figures)
  record_heading =
      record {
        some_channel = omega (arith, coded, figures.some_channel);
        channels = omega (arith, coded, figures.channels);
        each_known = codes_each types (channel_codes e.figures) known-codes.each_known;
      }

  pub record_within : 1 ≤ length (listed 1 e.weights) → Within limit types (record_of e.figures e.weights)
  record_within above =
      let distance = distance_most D D-most in
      record {
        heading = record_heading;
        complete = placed ∙ sym coded;
        centre_short =
            λ k h.
            let below : k < e.figures.n = omega (arith, placed, h) in
            omega (arith, ap nat_abs (get_or-take e.figures.n e.figures.ball.scaled_centre k (pos 0) below), figures.centre_limit k below);
        radius_short = omega (arith, figures.radius_limit, distance);
        floor_short = omega (arith, figures.floor_limit, distance);
        moves_most = figures.moves_limit;
        some_weight = above;
        each_weight = ap (λ (k : ℕ). weights_within k 0 (listed 1 e.weights)) (sym holds.places) ∙ listed-within e.weights holds.short;
      }

module _ (D limit : ℕ) (types : Types) (types_sound : SoundTypes types) (positive : 0 < D) (D-most : D ≤ total) (limit-small : limit < magnitude_limit) where
  module _ (rows : List ℤ) (m : ℕ) (e : Envelope) (holds : Holds limit e) where
    abbrev n : ℕ
    n = e.figures.n

    abbrev b : Ball
    b = e.figures.ball

    abbrev ws : List ℕ
    ws = e.weights

    -- what a written record is read against is within limits
    read-given : figures_known D types e.figures ≡ true → rows_within limit rows m n ≡ true → given_within limit types rows m n e.figures.codes ≡ true
    read-given kept rows_kept =
        let known = known_coded D types e.figures kept in
        ap₂ ◌&&◌ rows_kept (ap₂ ◌&&◌ (le-leb n (length e.figures.codes) known.typed) known.each_known)

    -- the ball that the envelope's own record states
    own_states : figures_known D types e.figures ≡ true → ball_of_record (record_of e.figures ws) ≡ some (cleared_ball n b)
    own_states kept =
        let figures = known-within D types e.figures kept in
        ap (λ (k : ℕ). some (with_centre b (centre_list k (centre_of (take n b.scaled_centre))))) (length-take-le n e.figures.codes (known_coded D types e.figures kept).typed)
        ∙ ap (λ (X : List ℤ). some (with_centre b X)) (put_back b.scaled_centre n figures.channels)

    module _ (w : Writing D limit types rows m e) where
      some_listed : 1 ≤ length (listed 1 ws)
      some_listed =
          let found = agreed_some D limit rows m n b ws (agrees_agreed D limit rows m n b ws w.agreeing) positive in
          listed_some 1 ws found.0 found.1

      written-accepting : length (record_text types e) ≤ text_limit
          → Accepting D limit types rows m n e.figures.codes (record_text types e) (cleared e)
      unfolding record_text print_record
      written-accepting room =
          let figures = known-within D types e.figures w.figures_kept_lem in
          let coded = length-take-le n e.figures.codes (known_coded D types e.figures w.figures_kept_lem).typed in
          let weights_are = listed_placed limit ws holds.places in
          record {
            given = read-given w.figures_kept_lem w.rows_kept;
            some_text = range_in 1 text_limit (length (record_text types e)) (printed_some _ _) room;
            stated = record_of e.figures ws;
            ball = cleared_ball n b;
            in_form = printed_form limit types types_sound (record_of e.figures ws) (record_within D limit types e D-most w.figures_kept_lem holds some_listed) limit-small;
            states = own_states w.figures_kept_lem;
            same_codes = refl;
            agreeing =
                ap₂ (λ (k : ℕ) (l : List ℕ). agrees D limit rows m k (cleared_ball n b) l) coded weights_are
                ∙ agrees-cleared D limit rows m n b ws figures.channels ∙ w.agreeing;
            envelope_is = sym (ap₂ envelope_with coded weights_are);
          }
        where
          envelope_with : ℕ → List ℕ → Envelope
          envelope_with k l =
              record { figures = figures_of k (padded channel_limit (channel_codes e.figures)) (cleared_ball n b) e.figures.moves; weights = l }

      pub written_envelope : length (record_text types e) ≤ text_limit
          → record_read D limit types rows m n e.figures.codes (record_text types e) ≡ accepting (cleared e)
      written_envelope room = read-accepted D limit types rows m n e.figures.codes (record_text types e) (cleared e) (written-accepting room)

    -- ---- 12

    -- an accepted text of an envelope within limits states that envelope's record
    read-own : figures_known D types e.figures ≡ true → (x : Envelope)
        → (a : Accepting D limit types rows m n e.figures.codes (record_text types e) x) → record_of e.figures ws ≡ a.stated
    unfolding record_text
    read-own kept x a =
        let own = record_of e.figures ws in
        let counted = printed-count limit types types_sound own a.stated (record_heading D limit types e D-most kept holds) a.in_form in
        let read = form_printed limit types types_sound (record_text types e) a.stated a.in_form in
        let some-line : 1 ≤ length (listed 1 ws) = omega (arith, counted, read.0.some_weight) in
        let form-is = printed_form limit types types_sound own (record_within D limit types e D-most kept holds some-line) limit-small in
        same (sym form-is ∙ a.in_form)
      where
        same : {r s : Record} → ◌≡◌ {A = Form Record} (sound r) (sound s) → r ≡ s
        same h = cc

    -- what such a text states agrees with the rows only where the envelope does
    own-agrees : figures_known D types e.figures ≡ true → (x : Envelope)
        → Accepting D limit types rows m n e.figures.codes (record_text types e) x → agrees D limit rows m n b ws ≡ true
    own-agrees kept x a =
        let figures = known-within D types e.figures kept in
        let own = read-own kept x a in
        let ball-is = inside (sym (own_states kept) ∙ ap ball_of_record own ∙ a.states) in
        let weights_are = sym (listed_placed limit ws holds.places) ∙ ap (λ (r : Record). weights_of limit r.weights) own in
        let coded = length-take-le n e.figures.codes (known_coded D types e.figures kept).typed in
        sym (agrees-cleared D limit rows m n b ws figures.channels)
        ∙ ap₂ (agrees D limit rows m n) ball-is weights_are
        ∙ ap (λ (k : ℕ). agrees D limit rows m k a.ball (weights_of limit a.stated.weights)) (sym coded)
        ∙ a.agreeing
      where
        inside : {x y : Ball} → some x ≡ some y → x ≡ y
        inside h = cc

    pub disagreement_unread : (places : ℕ) → number_of (record_written D limit types rows m e places).outcome ≡ disagreement
        → (record_read D limit types rows m n e.figures.codes (record_text types e)).outcome ≡ Accepted → ⊥
    disagreement_unread places refused accepted =
        let found = writing-refused D limit types rows m e places refused in
        let a = accepted-read D limit types rows m n e.figures.codes (record_text types e) accepted in
        clash (own-agrees found.0 _ a) found.2

    pub unread_disagreement : (places : ℕ) → figures_known D types e.figures ≡ true → rows_within limit rows m n ≡ true
        → length (record_text types e) ≤ text_limit
        → ((record_read D limit types rows m n e.figures.codes (record_text types e)).outcome ≡ Accepted → ⊥)
        → record_written D limit types rows m e places ≡ not_written (refused disagreement)
    unread_disagreement places kept rows_kept room unread = go (agrees D limit rows m n b ws) refl
      where
        go : (t : Bool) → agrees D limit rows m n b ws ≡ t → record_written D limit types rows m e places ≡ not_written (refused disagreement)
        go true h =
            let w : Writing D limit types rows m e = record { figures_kept_lem = kept; rows_kept = rows_kept; agreeing = h } in
            absurd (unread (ap (λ (r : EnvelopeRead). r.outcome) (written_envelope w room)))
        go false h = refused-writing D limit types rows m e places kept rows_kept h

-- ---- places past n

module _ (D limit : ℕ) (types : Types) (e : Envelope) (typed : length e.figures.codes ≡ channel_limit)
    (placed : length e.figures.ball.scaled_centre ≡ channel_limit) where
  abbrev count : ℕ
  count = e.figures.n

  abbrev X : List ℤ
  X = e.figures.ball.scaled_centre

  module _ (most : count ≤ channel_limit) where
    codes_kept : channel_codes (cleared e).figures ≡ channel_codes e.figures
    codes_kept = padded_first channel_limit count (channel_codes e.figures) (length-take-le count e.figures.codes (omega arith)) most

    places_kept : take count (centre_list count (centre_of X)) ≡ take count X
    places_kept =
        let many = length-take-le count X (omega arith) in
        ap (take count) (sym (put_back X count most)) ∙ taken (take count X) count many most

    pub cleared-text : record_text types (cleared e) ≡ record_text types e
    unfolding record_text
    cleared-text = ap₂ (λ (codes : List ℕ) (centre : List ℤ). print_record types (record_with codes centre)) codes_kept places_kept
      where
        record_with : List ℕ → List ℤ → Record
        record_with codes centre =
            record { codes = codes; scaled_centre = centre; result = (record_of e.figures e.weights).result; weights = listed 1 e.weights }

    figures_kept_lem : figures_known D types (cleared e).figures ≡ figures_known D types e.figures
    figures_kept_lem =
        test-same (figures_known D types (cleared e).figures) (figures_known D types e.figures)
        (other (cleared e).figures.codes e.figures.codes (cleared e).figures.ball.scaled_centre X (omega arith) (omega arith) (sym codes_kept)
        (λ k h. sym (places_kept_at k h)))
        (other e.figures.codes (cleared e).figures.codes X (cleared e).figures.ball.scaled_centre
        (omega (arith, padded-length channel_limit (channel_codes e.figures))) (omega (arith, length_centre_list count (centre_of X))) codes_kept places_kept_at)
      where
        places_kept_at : (k : ℕ) → k < count → centre_of (centre_list count (centre_of X)) k ≡ centre_of X k
        places_kept_at k h = centre_list_at count (centre_of X) k most h

        -- only the first n codes and places are looked at
        other : (codes codes' : List ℕ) (x x' : List ℤ) → count ≤ length codes' → count ≤ length x' → take count codes' ≡ take count codes
            → ((k : ℕ) → k < count → centre_of x' k ≡ centre_of x k)
            → figures_known D types (figures_of count codes (with_centre e.figures.ball x) e.figures.moves) ≡ true
            → figures_known D types (figures_of count codes' (with_centre e.figures.ball x') e.figures.moves) ≡ true
        other codes codes' x x' long wide same_codes same-places h =
            let given = figures_of count codes (with_centre e.figures.ball x) e.figures.moves in
            let w = known-within D types given h in
            figures-known D types (figures_of count codes' (with_centre e.figures.ball x') e.figures.moves)
            record {
              some_channel = w.some_channel;
              channels = most;
              places = wide;
              centre_limit = λ k l. omega (arith, ap nat_abs (same-places k l), w.centre_limit k l);
              radius_limit = w.radius_limit;
              floor_limit = w.floor_limit;
              moves_limit = w.moves_limit;
            }
            record { typed = long; each_known = ap (codes_known types) same_codes ∙ (known_coded D types given h).each_known }

  pub written-cleared : (rows : List ℤ) (m places : ℕ) → record_written D limit types rows m (cleared e) places ≡ record_written D limit types rows m e places
  unfolding record_written
  written-cleared rows m places = go (dec_le count channel_limit)
    where
      go : Dec (count ≤ channel_limit) → record_written D limit types rows m (cleared e) places ≡ record_written D limit types rows m e places
      go (yes most) =
          rw (figures_kept_lem most, agrees-cleared D limit rows m count e.figures.ball e.weights most, cleared-text most)
      go (no more) =
          rw (sym (known-refused D types e.figures (λ w. more w.channels)), sym (known-refused D types (cleared e).figures (λ w. more w.channels)))
