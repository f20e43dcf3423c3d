-- A record, both ways: a text is in form exactly when it is the printing of a record within the limits.
--     each_sound                           what holds of the refusal for a faulty line, and of the rest for what is in form, holds of the answer
--     line_sound                           what follows a line in form
--     weights_first, first_weights         weights within the limits are the first within them, and those after it
--     weights-printed, printed-weights     the parts of `W` lines are the printings of weights within the limits, and an empty part
--     form-read                            a text in form has each of its lines in form
--     form_printed                         it is the printing of what it states, which is within the limits
--     printed_form                         the printing of a record within the limits is in form, and states it
--     printed-count                        a record in form has as many `W` lines as what it is the printing of
--     weights_faults, form_faults          no line before the first is at fault; faulty lines count from 1
use Rattle.std.specs.Prelude.{ℕ, zero, suc, ◌+◌, ◌≤◌, ◌<◌, ◌≡◌, Bool, ℤ, drop}
use Rattle.std.proofs.Math.Path.{refl, sym, ap, ap₂}
use Rattle.std.proofs.Common.{◌∙◌, arith}
use Rattle.std.proofs.Math.Bool.{true, false, cond, ◌&&◌}
use mathlib.Core.List.{List, [], ◌∷◌, map}
use Rattle.std.proofs.Math.Option.{Option, none, some}
use borrow.Author.Tests.{leb-true, le-leb, ltb-true, lt-ltb}
use Rattle.std.proofs.Math.Dec.{leb, ltb}
use Rattle.std.proofs.Math.ListN.{length, length-append, length-map}
use Rattle.integers.specs.Tests.{both, unlike, impossible}
use Rattle.limits.specs.Limits.{channel_limit}
use Rattle.text.specs.Parts.{line_end, cut, join, same, all_free}
use Rattle.text.specs.PartsLaws.{same_eq, join-cut}
use Rattle.text.specs.Lines.{ended, ended_line}
use Rattle.text.specs.LinesLaws.{ended-printed, printed_ended}
use Rattle.label.specs.Label.{is_label, label_bytes}
use Rattle.number.specs.Clauses.{magnitude_limit}
use Rattle.channel.specs.Channel.{Types}
use Rattle.channel.specs.ChannelLaws.{SoundTypes}
use Rattle.heading.specs.Heading.{heading_of, print_heading, CodesWithin}
use Rattle.heading.specs.HeadingLaws.{heading-within, heading_printed, printed-heading, heading-free}
use Rattle.record_lines.specs.Lines.{
  record_word,
  Result,
  Weight,
  centre_line,
  result_line,
  weight_line,
  weight_within,
  print_centre,
  print_result,
  print_weight,
}
use Rattle.record_lines.specs.LinesLaws.{
  centre_printed,
  printed_centre,
  result_printed,
  printed_result,
  weight_within_lem,
  weight_printed,
  printed_weight,
  centre_free,
  result_free,
  weight_free,
}
use Rattle.record_form.specs.Record.{
  Record,
  Form,
  faulty,
  sound,
  require_sound,
  line_as,
  and_line,
  with_weight,
  weights_from,
  with_weights,
  form_of,
  form,
  print_record,
  weights_within,
  Within,
}

-- ---- one line

faulty_sound : {A P : Type 0} {line : ℕ} {a : A} → faulty line ≡ sound a → P
faulty_sound e = impossible cc

pub each_sound : {A B : Type 0} (P : B → Type 0) (f : Form A) {refusal : ℕ → B} {rest : A → B}
    → ((line : ℕ) → f ≡ faulty line → P (refusal line)) → ((a : A) → f ≡ sound a → P (rest a)) → P (require_sound f refusal rest)
each_sound P (sound a) hr hs = hs a refl
each_sound P (faulty line) hr hs = hr line refl

pub line_sound : {A B : Type 0} (line : ℕ) (o : Option A) {further : A → Form B} {b : B} → and_line line o further ≡ sound b
    → (a : A) × (o ≡ some a) × (further a ≡ sound b)
line_sound line none e = faulty_sound e
line_sound line (some a) e = (a, refl, e)

module _ {A : Type 0} (read : List ℕ → Option A) where
  -- a line that is there, and the parts after it
  line_there : (k : ℕ) (parts : List (List ℕ)) (a : A) → line_as read (ended_line (drop k parts)) ≡ some a
      → (line : List ℕ) × (drop k parts ≡ line ∷ drop (suc k) parts) × (read line ≡ some a)
  line_there zero [] a e = unlike e
  line_there zero (part ∷ []) a e = unlike e
  line_there zero (part ∷ next ∷ parts) a e = (part, refl, e)
  line_there (suc k) [] a e = unlike e
  line_there (suc k) (part ∷ parts) a e = line_there k parts a e

  there_line : (line : List ℕ) (lines : List (List ℕ)) → line_as read (ended_line (line ∷ ended lines)) ≡ read line
  there_line line [] = refl
  there_line line (next ∷ lines) = refl

-- ---- the `W` lines

with_weight_lem : (w : Weight) (f : Form (List Weight)) (ws : List Weight) → with_weight w f ≡ sound ws
    → (rest : List Weight) × (f ≡ sound rest) × (ws ≡ w ∷ rest)
with_weight_lem w (faulty line) ws e = faulty_sound e
with_weight_lem w (sound rest) ws e = (rest, refl, cc)

module _ (limit last : ℕ) (w : Weight) (ws : List Weight) where
  pub weights_first : weights_within limit last (w ∷ ws) ≡ true
      → (weight_within limit last w ≡ true) × (w.weight < magnitude_limit) × (weights_within limit w.row ws ≡ true)
  unfolding weights_within
  weights_first h =
      let tests = both (weight_within limit last w && ltb w.weight magnitude_limit) (weights_within limit w.row ws) h in
      let here = both (weight_within limit last w) (ltb w.weight magnitude_limit) tests.0 in
      (here.0, ltb-true w.weight magnitude_limit here.1, tests.1)

  pub first_weights : weight_within limit last w ≡ true → w.weight < magnitude_limit → weights_within limit w.row ws ≡ true
      → weights_within limit last (w ∷ ws) ≡ true
  unfolding weights_within
  first_weights within short others = ap₂ ◌&&◌ (ap₂ ◌&&◌ within (lt-ltb w.weight magnitude_limit short)) others

module _ (limit : ℕ) where
  pub weights-printed : (line last : ℕ) (parts : List (List ℕ)) (ws : List Weight) → weights_from limit line last parts ≡ sound ws
      → (parts ≡ ended (map print_weight ws)) × (weights_within limit last ws ≡ true) × (1 ≤ last + length ws)
  unfolding weights_from weights_within
  weights-printed line last [] ws e = faulty_sound e
  weights-printed line last (part ∷ []) ws e = go (same part [] && leb 1 last) refl e
    where
      go : (t : Bool) → (same part [] && leb 1 last) ≡ t → cond t (sound []) (faulty line) ≡ sound ws
          → (part ∷ [] ≡ ended (map print_weight ws)) × (weights_within limit last ws ≡ true) × (1 ≤ last + length ws)
      go false h read = faulty_sound read
      go true h read =
          let empty : [] ≡ ws = cc in
          let tests = both (same part []) (leb 1 last) h in
          rw (← empty) (ap (λ (l : List ℕ). l ∷ []) (same_eq part [] tests.0), refl, omega (arith, leb-true 1 last tests.1))
  weights-printed line last (part ∷ next ∷ parts) ws e =
      let first = line_sound line (weight_line limit last part) e in
      let w = first.0 in
      let others = with_weight_lem w (weights_from limit (suc line) w.row (next ∷ parts)) ws first.2 in
      let read = weight_printed limit last part w first.1 in
      let further = weights-printed (suc line) w.row (next ∷ parts) others.0 others.1 in
      rw others.2
      (ap₂ ◌∷◌ (sym read.0) further.0, first_weights limit last w others.0 read.1 read.2 further.1, omega arith)

  weights-more : (line last : ℕ) (w : Weight) (part : List ℕ) (lines : List (List ℕ)) → weight_line limit last part ≡ some w
      → weights_from limit line last (part ∷ ended lines) ≡ with_weight w (weights_from limit (suc line) w.row (ended lines))
  unfolding weights_from
  weights-more line last w part [] e = rw e
  weights-more line last w part (next ∷ lines) e = rw e

  module _ (below : limit < magnitude_limit) where
    pub printed-weights : (line last : ℕ) (ws : List Weight) → weights_within limit last ws ≡ true → 1 ≤ last + length ws
        → weights_from limit line last (ended (map print_weight ws)) ≡ sound ws
    unfolding weights_from same
    printed-weights line last [] h some_weight = rw (le-leb 1 last (omega arith))
    printed-weights line last (w ∷ ws) h some_weight =
        let first = weights_first limit last w ws h in
        let past = (weight_within_lem limit last w first.0).0 in
        weights-more line last w (print_weight w) (map print_weight ws) (printed_weight limit last below w first.0 first.1)
        ∙ ap (with_weight w) (printed-weights (suc line) w.row ws first.2 (omega arith))

-- ---- the text

with_weights_lem : (codes : List ℕ) (centre : List ℤ) (result : Result) (f : Form (List Weight)) (r : Record)
    → with_weights codes centre result f ≡ sound r
    → (f ≡ sound r.weights) × (r ≡ record { codes = codes; scaled_centre = centre; result = result; weights = r.weights })
with_weights_lem codes centre result (faulty line) r e = faulty_sound e
with_weights_lem codes centre result (sound ws) r e =
    let made : record { codes = codes; scaled_centre = centre; result = result; weights = ws } ≡ r = cc in
    rw (← made) (refl, refl)

lines_of : Types → Record → List (List ℕ)
lines_of types r = print_heading record_word types r.codes ∷ print_centre r.scaled_centre ∷ print_result r.result ∷ map print_weight r.weights

pub form-read : (limit : ℕ) (types : Types) (parts : List (List ℕ)) (r : Record) → form_of limit types parts ≡ sound r
    → (line_as (heading_of record_word channel_limit types) (ended_line parts) ≡ some r.codes)
    × (line_as (centre_line (length r.codes)) (ended_line (drop 1 parts)) ≡ some r.scaled_centre)
    × (line_as result_line (ended_line (drop 2 parts)) ≡ some r.result)
    × (weights_from limit 4 0 (drop 3 parts) ≡ sound r.weights)
unfolding form_of
form-read limit types parts r e =
    let first = line_sound 1 (line_as (heading_of record_word channel_limit types) (ended_line parts)) e in
    let second = line_sound 2 (line_as (centre_line (length first.0)) (ended_line (drop 1 parts))) first.2 in
    let third = line_sound 3 (line_as result_line (ended_line (drop 2 parts))) second.2 in
    let others = with_weights_lem first.0 second.0 third.0 (weights_from limit 4 0 (drop 3 parts)) r third.2 in
    rw others.1 (first.1, second.1, third.1, others.0)

module _ (limit : ℕ) (types : Types) (types_sound : SoundTypes types) where
  parts_printed : (parts : List (List ℕ)) (r : Record) → form_of limit types parts ≡ sound r → Within limit types r × (parts ≡ ended (lines_of types r))
  unfolding lines_of
  parts_printed parts r e =
      let read = form-read limit types parts r e in
      let heading = line_there (heading_of record_word channel_limit types) 0 parts r.codes read.0 in
      let centre = line_there (centre_line (length r.codes)) 1 parts r.scaled_centre read.1 in
      let result = line_there result_line 2 parts r.result read.2 in
      let centre_read = centre_printed (length r.codes) centre.0 r.scaled_centre centre.2 in
      let result_read_lem = result_printed result.0 r.result result.2 in
      let weights-read = weights-printed limit 4 0 (drop 3 parts) r.weights read.3 in (
        record {
          heading = heading-within types record_word channel_limit heading.0 r.codes heading.2;
          complete = centre_read.1;
          centre_short = centre_read.2;
          radius_short = result_read_lem.1.radius_short;
          floor_short = result_read_lem.1.floor_short;
          moves_most = result_read_lem.1.moves_most;
          some_weight = omega (arith, weights-read.2);
          each_weight = weights-read.1;
        },
        heading.1
            ∙ ap₂ ◌∷◌ (sym (heading_printed types types_sound record_word channel_limit heading.0 r.codes heading.2))
            (centre.1 ∙ ap₂ ◌∷◌ (sym centre_read.0) (result.1 ∙ ap₂ ◌∷◌ (sym result_read_lem.0) weights-read.0)),
      )

  pub form_printed : (text : List ℕ) (r : Record) → form limit types text ≡ sound r → Within limit types r × (print_record types r ≡ text)
  unfolding form print_record lines_of
  form_printed text r e =
      let read = parts_printed (cut line_end text) r e in
      (read.0, sym (ended-printed (lines_of types r)) ∙ ap (join line_end) (sym read.1) ∙ join-cut line_end text)

  lines-free : (r : Record) → CodesWithin channel_limit types r.codes → all_free line_end (lines_of types r) ≡ true
  unfolding lines_of all_free is_label label_bytes
  lines-free r heading =
      rw (
        heading-free types types_sound record_word channel_limit refl line_end refl (λ e. omega arith) r.codes heading,
        centre_free r.scaled_centre,
        result_free r.result,
      )
      (go r.weights)
    where
      go : (ws : List Weight) → all_free line_end (map print_weight ws) ≡ true
      go [] = refl
      go (w ∷ ws) = rw (weight_free w) (go ws)

  printed_lines : (r : Record) → CodesWithin channel_limit types r.codes → cut line_end (print_record types r) ≡ ended (lines_of types r)
  unfolding print_record lines_of
  printed_lines r heading = printed_ended (lines_of types r) (lines-free r heading)

  pub printed-count : (r s : Record) → CodesWithin channel_limit types r.codes → form limit types (print_record types r) ≡ sound s
      → length r.weights ≡ length s.weights
  unfolding form lines_of
  printed-count r s heading e =
      let lines = ap length (sym (printed_lines r heading) ∙ (parts_printed (cut line_end (print_record types r)) s e).1) in
      omega (arith, lines, counted r, counted s)
    where
      counted : (r : Record) → length (ended (lines_of types r)) ≡ length r.weights + 4
      counted r = omega (arith, length-append (lines_of types r) ([] ∷ []), length-map r.weights print_weight)

  module _ (r : Record) (within : Within limit types r) where
    printed_parts : limit < magnitude_limit → form_of limit types (ended (lines_of types r)) ≡ sound r
    unfolding form_of lines_of is_label label_bytes
    printed_parts below =
        rw (
          printed-heading types types_sound record_word channel_limit refl r.codes within.heading,
          printed_centre (length r.codes) r.scaled_centre within.complete within.centre_short,
          there_line result_line (print_result r.result) (map print_weight r.weights),
          printed_result r.result
              (record { radius_short = within.radius_short; floor_short = within.floor_short; moves_most = within.moves_most }),
          printed-weights limit below 4 0 r.weights within.each_weight (omega (arith, within.some_weight)),
        )

    pub printed_form : limit < magnitude_limit → form limit types (print_record types r) ≡ sound r
    unfolding form
    printed_form below = ap (form_of limit types) (printed_lines r within.heading) ∙ printed_parts below

-- ---- faulty lines

line_faulty : {A B : Type 0} (least line : ℕ) (o : Option A) {further : A → Form B} (fault : ℕ) → least ≤ line
    → ((a : A) → further a ≡ faulty fault → least ≤ fault) → and_line line o further ≡ faulty fault → least ≤ fault
line_faulty least line none fault h later e = let is : line ≡ fault = cc in omega arith
line_faulty least line (some a) fault h later e = later a e

pub weights_faults : (limit line last : ℕ) (parts : List (List ℕ)) (fault : ℕ) → weights_from limit line last parts ≡ faulty fault → line ≤ fault
unfolding weights_from
weights_faults limit line last [] fault e = let is : line ≡ fault = cc in omega arith
weights_faults limit line last (part ∷ []) fault e = go (same part [] && leb 1 last) e
  where
    go : (t : Bool) → ◌≡◌ {A = Form (List Weight)} (cond t (sound []) (faulty line)) (faulty fault) → line ≤ fault
    go true read = faulty_sound (sym read)
    go false read = let is : line ≡ fault = cc in omega arith
weights_faults limit line last (part ∷ next ∷ parts) fault e =
    line_faulty line line (weight_line limit last part) fault (omega arith)
    (λ w. go w (weights_from limit (suc line) w.row (next ∷ parts)) (weights_faults limit (suc line) w.row (next ∷ parts) fault)) e
  where
    go : (w : Weight) (f : Form (List Weight)) → (f ≡ faulty fault → suc line ≤ fault) → with_weight w f ≡ faulty fault → line ≤ fault
    go w (faulty k) later read = omega (arith, later read)
    go w (sound ws) later read = faulty_sound (sym read)

pub form_faults : (limit : ℕ) (types : Types) (text : List ℕ) (line : ℕ) → form limit types text ≡ faulty line → 1 ≤ line
unfolding form form_of
form_faults limit types text line e =
    let parts = cut line_end text in
    line_faulty 1 1 (line_as (heading_of record_word channel_limit types) (ended_line parts)) line (omega arith)
    (λ codes. line_faulty 1 2 (line_as (centre_line (length codes)) (ended_line (drop 1 parts))) line (omega arith)
    (λ centre. line_faulty 1 3 (line_as result_line (ended_line (drop 2 parts))) line (omega arith)
    (λ result. go codes centre result (weights_from limit 4 0 (drop 3 parts)) (weights_faults limit 4 0 (drop 3 parts) line))))
    e
  where
    go : (codes : List ℕ) (centre : List ℤ) (result : Result) (f : Form (List Weight)) → (f ≡ faulty line → 4 ≤ line)
        → with_weights codes centre result f ≡ faulty line → 1 ≤ line
    go codes centre result (faulty k) later read = let is : k ≡ line = cc in omega (arith, later (ap faulty is))
    go codes centre result (sound ws) later read = faulty_sound (sym read)
