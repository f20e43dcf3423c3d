-- The first faulty line of a record, from the lines before it, for any limit on rows and table of types: where the lines before are
-- each the printing of their part of a record within the limits, and the next is not in form, not ended or not there, it is that one.
--     AfterHeading types codes text parts             the text begins with the heading of these codes, and then has these parts
--     AfterCentre types codes X text parts            then the `C` line of X
--     AfterResult types codes X result text parts     then the `R` line
--     AfterWeights limit types r text parts           then the `W` lines of r
--     last_row last ws                                 the row of the last of these `W` lines, `last` where there is none
--     heading_unread, centre_unread, result_unread, weight_unread
--                                                     a line that is the printing of no such part is not in form
--     heading_unended, heading_faulty                 line 1
--     centre_unended, centre_faulty                   line 2
--     result_unended, result_faulty                   line 3
--     weight_unended, weight_faulty                   the line after so many `W` lines
--     weight_empty                                    the case of `weight_faulty` whose line is empty
--     weight_missing                                  no `W` line
use Rattle.std.specs.Prelude.{ℕ, suc, ◌+◌, ◌≤◌, ◌<◌, ◌≡◌, true, ◌≢◌, ℤ, pos, nat_abs, length, get_or, drop}
use Rattle.std.proofs.Math.Path.{refl, ap}
use Rattle.std.proofs.Common.{◌∙◌}
use mathlib.Core.List.{List, [], ◌∷◌, ◌++◌, map}
use Rattle.std.proofs.Math.Option.{Option, none, some}
use native.Mathlib.Omega.{arith}
use Rattle.std.proofs.Math.ListN.{length-append}
use Rattle.limits.specs.Limits.{channel_limit}
use Rattle.text.specs.Parts.{line_end, cut, same}
use Rattle.text.specs.Lines.{ended_line}
use Rattle.label.specs.Label.{is_label, label_bytes}
use Rattle.number.specs.Clauses.{magnitude_limit}
use Rattle.channel.specs.Channel.{Types}
use Rattle.channel.specs.ChannelLaws.{SoundTypes}
use Rattle.heading.specs.Heading.{heading_of, print_heading, CodesWithin}
use Rattle.heading.specs.HeadingLaws.{heading-within, heading_printed, printed-heading}
use Rattle.record_lines.specs.Lines.{record_word, Result, Weight, numbers_line, centre_line, result_line, weight_line, weight_within, print_centre, print_result, print_weight}
use Rattle.record_lines.specs.LinesLaws.{ResultWithin, centre_printed, printed_centre, result_printed, printed_result, weight_printed, printed_weight}
use Rattle.record_form.specs.Record.{Record, Form, faulty, line_as, and_line, with_weight, weights_from, with_weights, form_of, form, weights_within}
use Rattle.record_form.specs.RecordLaws.{weights_first}

-- ---- the lines before

pub record AfterHeading (types : Types) (codes text : List ℕ) (parts : List (List ℕ)) : Type 0 where
  pub heading : CodesWithin channel_limit types codes
  pub lines : cut line_end text ≡ print_heading record_word types codes ∷ parts

-- the default of get_or is never met
pub record AfterCentre (types : Types) (codes : List ℕ) (X : List ℤ) (text : List ℕ) (parts : List (List ℕ)) : Type 0 where
  pub begins : AfterHeading types codes text (print_centre X ∷ parts)
  pub complete : length X ≡ length codes
  pub centre_short : (k : ℕ) → k < length X → nat_abs (get_or X k (pos 0)) < magnitude_limit

pub record AfterResult (types : Types) (codes : List ℕ) (X : List ℤ) (result : Result) (text : List ℕ) (parts : List (List ℕ)) : Type 0 where
  pub begins : AfterCentre types codes X text (print_result result ∷ parts)
  pub within : ResultWithin result

pub record AfterWeights (limit : ℕ) (types : Types) (r : Record) (text : List ℕ) (parts : List (List ℕ)) : Type 0 where
  pub begins : AfterResult types r.codes r.scaled_centre r.result text (map print_weight r.weights ++ parts)
  pub each_weight : weights_within limit 0 r.weights ≡ true

unfoldable pub last_row : ℕ → List Weight → ℕ
last_row last [] = last
last_row last (w ∷ ws) = last_row w.row ws

-- ---- a line that is not in form

unread : {A : Type 0} (o : Option A) → ((a : A) → o ≡ some a → ⊥) → o ≡ none
unread none never = refl
unread (some a) never = absurd (never a refl)

pub heading_unread : (types : Types) → SoundTypes types → (line : List ℕ)
    → ((codes : List ℕ) → CodesWithin channel_limit types codes → print_heading record_word types codes ≢ line)
    → heading_of record_word channel_limit types line ≡ none
heading_unread types types_sound line other =
    unread (heading_of record_word channel_limit types line)
    (λ codes is. other codes (heading-within types record_word channel_limit line codes is) (heading_printed types types_sound record_word channel_limit line codes is))

pub centre_unread : (n : ℕ) (line : List ℕ)
    → ((X : List ℤ) → length X ≡ n → ((k : ℕ) → k < length X → nat_abs (get_or X k (pos 0)) < magnitude_limit) → print_centre X ≢ line)
    → centre_line n line ≡ none
centre_unread n line other = unread (centre_line n line) (λ X is. let read = centre_printed n line X is in other X read.1 read.2 read.0)

pub result_unread : (line : List ℕ) → ((x : Result) → ResultWithin x → print_result x ≢ line) → result_line line ≡ none
result_unread line other = unread (result_line line) (λ x is. let read = result_printed line x is in other x read.1 read.0)

pub weight_unread : (limit last : ℕ) (line : List ℕ)
    → ((w : Weight) → weight_within limit last w ≡ true → w.weight < magnitude_limit → print_weight w ≢ line) → weight_line limit last line ≡ none
weight_unread limit last line other =
    unread (weight_line limit last line) (λ w is. let read = weight_printed limit last line w is in other w read.1 read.2 read.0)

-- ---- lines 1 to 3

module _ (limit : ℕ) (types : Types) (text : List ℕ) where
  pub heading_unended : {part : List ℕ} → cut line_end text ≡ part ∷ [] → form limit types text ≡ faulty 1
  unfolding form form_of
  heading_unended is = ap (form_of limit types) is

  pub heading_faulty : {line next : List ℕ} {parts : List (List ℕ)} → cut line_end text ≡ line ∷ next ∷ parts
      → heading_of record_word channel_limit types line ≡ none → form limit types text ≡ faulty 1
  unfolding form form_of
  heading_faulty is wrong = ap (form_of limit types) is ∙ rw wrong

module _ (limit : ℕ) (types : Types) (types_sound : SoundTypes types) where
  -- what the parts after a `C` line, and after a heading, make of the text
  abbrev past_centre : List ℕ → List ℤ → List (List ℕ) → Form Record
  past_centre codes X parts =
      and_line 3 (line_as result_line (ended_line parts)) (λ result. with_weights codes X result (weights_from limit 4 0 (drop 1 parts)))

  abbrev past_heading : List ℕ → List (List ℕ) → Form Record
  past_heading codes parts = and_line 2 (line_as (centre_line (length codes)) (ended_line parts)) (λ X. past_centre codes X (drop 1 parts))

  after-heading : {codes text : List ℕ} (parts : List (List ℕ)) → 1 ≤ length parts → AfterHeading types codes text parts
      → form limit types text ≡ past_heading codes parts
  unfolding form form_of is_label label_bytes
  after-heading [] more begins = absurd (omega arith)
  after-heading {codes} (part ∷ parts) more begins =
      ap (form_of limit types) begins.lines ∙ rw (printed-heading types types_sound record_word channel_limit refl codes begins.heading)

  after_centre : {codes text : List ℕ} {X : List ℤ} (parts : List (List ℕ)) → 1 ≤ length parts → AfterCentre types codes X text parts
      → form limit types text ≡ past_centre codes X parts
  after_centre [] more begins = absurd (omega arith)
  after_centre {codes} {X = X} (part ∷ parts) more begins =
      after-heading (print_centre X ∷ part ∷ parts) (omega arith) begins.begins
      ∙ rw (printed_centre (length codes) X begins.complete begins.centre_short)

  after_result : {codes text : List ℕ} {X : List ℤ} {result : Result} (parts : List (List ℕ)) → 1 ≤ length parts
      → AfterResult types codes X result text parts → form limit types text ≡ with_weights codes X result (weights_from limit 4 0 parts)
  after_result [] more begins = absurd (omega arith)
  after_result {result = result} (part ∷ parts) more begins =
      after_centre (print_result result ∷ part ∷ parts) (omega arith) begins.begins ∙ rw (printed_result result begins.within)

  module _ {codes text : List ℕ} where
    pub centre_unended : {part : List ℕ} → AfterHeading types codes text (part ∷ []) → form limit types text ≡ faulty 2
    centre_unended {part} begins = after-heading (part ∷ []) (omega arith) begins

    pub centre_faulty : {line next : List ℕ} {parts : List (List ℕ)} → AfterHeading types codes text (line ∷ next ∷ parts)
        → centre_line (length codes) line ≡ none → form limit types text ≡ faulty 2
    centre_faulty {line} {next} {parts} begins wrong = after-heading (line ∷ next ∷ parts) (omega arith) begins ∙ rw wrong

    module _ {X : List ℤ} where
      pub result_unended : {part : List ℕ} → AfterCentre types codes X text (part ∷ []) → form limit types text ≡ faulty 3
      result_unended {part} begins = after_centre (part ∷ []) (omega arith) begins

      pub result_faulty : {line next : List ℕ} {parts : List (List ℕ)} → AfterCentre types codes X text (line ∷ next ∷ parts)
          → result_line line ≡ none → form limit types text ≡ faulty 3
      result_faulty {line} {next} {parts} begins wrong = after_centre (line ∷ next ∷ parts) (omega arith) begins ∙ rw wrong

      -- nothing follows the `R` line
      pub weight_missing : {result : Result} → AfterResult types codes X result text ([] ∷ []) → form limit types text ≡ faulty 4
      unfolding weights_from same
      weight_missing begins = after_result ([] ∷ []) (omega arith) begins

-- ---- the `W` lines

module _ (limit : ℕ) (below : limit < magnitude_limit) where
  weights_next : (line last : ℕ) (w : Weight) (part : List ℕ) (parts : List (List ℕ)) → 1 ≤ length parts → weight_line limit last part ≡ some w
      → weights_from limit line last (part ∷ parts) ≡ with_weight w (weights_from limit (suc line) w.row parts)
  unfolding weights_from
  weights_next line last w part [] more is = absurd (omega arith)
  weights_next line last w part (next ∷ parts) more is = rw is

  -- the `W` lines ws being sound, what follows them decides
  weights-passed : (line last here fault : ℕ) (ws : List Weight) (parts : List (List ℕ)) → 1 ≤ length parts → line + length ws ≡ here
      → weights_within limit last ws ≡ true → weights_from limit here (last_row last ws) parts ≡ faulty fault
      → weights_from limit line last (map print_weight ws ++ parts) ≡ faulty fault
  unfolding last_row
  weights-passed line last here fault [] parts more count within wrong =
      let is : line ≡ here = omega arith in
      ap (λ (l : ℕ). weights_from limit l last parts) is ∙ wrong
  weights-passed line last here fault (w ∷ ws) parts more count within wrong =
      let first = weights_first limit last w ws within in
      weights_next line last w (print_weight w) (map print_weight ws ++ parts) (omega (arith, length-append (map print_weight ws) parts))
      (printed_weight limit last below w first.0 first.1)
      ∙ ap (with_weight w) (weights-passed (suc line) w.row here fault ws parts more (omega arith) first.2 wrong)

  module _ (types : Types) (types_sound : SoundTypes types) {r : Record} {text : List ℕ} where
    after-weights : (parts : List (List ℕ)) → 1 ≤ length parts → AfterWeights limit types r text parts
        → weights_from limit (4 + length r.weights) (last_row 0 r.weights) parts ≡ faulty (4 + length r.weights)
        → form limit types text ≡ faulty (4 + length r.weights)
    after-weights parts more begins wrong =
        after_result limit types types_sound (map print_weight r.weights ++ parts) (omega (arith, length-append (map print_weight r.weights) parts)) begins.begins
        ∙ ap (with_weights r.codes r.scaled_centre r.result)
        (weights-passed 4 0 (4 + length r.weights) (4 + length r.weights) r.weights parts more refl begins.each_weight wrong)

    pub weight_unended : {b : ℕ} {part : List ℕ} → AfterWeights limit types r text ((b ∷ part) ∷ []) → form limit types text ≡ faulty (4 + length r.weights)
    unfolding weights_from same
    weight_unended {b} {part} begins = after-weights ((b ∷ part) ∷ []) (omega arith) begins refl

    pub weight_faulty : {line next : List ℕ} {parts : List (List ℕ)} → AfterWeights limit types r text (line ∷ next ∷ parts)
        → weight_line limit (last_row 0 r.weights) line ≡ none → form limit types text ≡ faulty (4 + length r.weights)
    unfolding weights_from
    weight_faulty {line} {next} {parts} begins wrong = after-weights (line ∷ next ∷ parts) (omega arith) begins (rw wrong)

    pub weight_empty : {next : List ℕ} {parts : List (List ℕ)} → AfterWeights limit types r text ([] ∷ next ∷ parts)
        → form limit types text ≡ faulty (4 + length r.weights)
    unfolding weight_line numbers_line cut same
    weight_empty begins = weight_faulty begins refl
