-- A whole record that is read line by line.
--     Reached, AtHeading, AtCentre, AtWeights    what is known of a text from one of its lines on
--     line-unended, line_read_lem                    a line without its end, and what the text is past one with it
--     at-heading, heading_read_lem, past_heading_lem     the text from its heading on, and past it
--     at_result                                  the text from its `R` line on
--     found, not_found                           whether a `C` line is there
--     result_kept s, no_result, in_form          what a record keeps of an `R` line, and what the answer says of it
--     weights_faulty, rest-stated                the answer by the `W` lines, where the lines before them are in form
--     form-stated                                the answer by the lines after the `C` line, where the lines before them are in form
use Prim.Native.Nat.{ℕ, ◌+◌, ◌-◌, ◌≤◌}
use mathlib.Core.Path.{◌≡◌, refl, sym, ap, ap₂, ◌∙◌}
use mathlib.Core.Bool.{true, false}
use mathlib.Core.List.{List, [], ◌∷◌, ◌++◌, map}
use mathlib.Core.Option.{Option, none, some}
use Rattle.std.specs.Prelude.{None, Some, Result as Answer, Ok, Err}
use native.Mathlib.Omega.{arith}
use lib.IntN.{ℤ, pos}
use lib.ListN.{length, take, drop, replicate}
use mir.Syntax.{w64}
use mir.Facts.{to_z-of_z}
use Rattle.integers.specs.Reading.{back}
use Rattle.integers.specs.Tests.{clash, impossible}
use Rattle.lists.specs.Padded.{padded}
use Rattle.limits.specs.Limits.{row_limit, channel_limit}
use Rattle.geometry.specs.Places.{centre_list, centre_of}
use Rattle.geometry.specs.PlacesLaws.{centre_list_zeros}
use Rattle.text.specs.Parts.{line_end, cut, parts_from}
use Rattle.text.specs.Clauses.{PartEnd}
use Rattle.text.specs.Lines.{ended_line}
use Rattle.text.specs.PartsLaws.{parts_whole, part_at, last_part_lem, followed}
use Rattle.channel.specs.Channel.{Types}
use Rattle.heading.specs.Heading.{heading_of}
use Rattle.heading.specs.declared.Heading.{Heading}
use Rattle.heading.proofs.Headed.{Headed, codes_in}
use Rattle.record_lines.specs.Lines.{record_word, Result, centre_line, result_line, Weight}
use Rattle.record_form.specs.Record.{Record, Form, faulty, sound, line_as, and_line, weights_from, with_weights, form_of, form}
use Rattle.record_form.specs.Weights.{weights_of}
use Rattle.record_lines.specs.Clauses.{held, is_there, result_read}
use Rattle.record_form.specs.Clauses.{weights_fault, WeightsRead, stated_form, form_after_centre, AfterCentreRead}
use Rattle.record_lines.specs.declared.line.ResultLine.{ResultLine}
use Rattle.record_form.specs.declared.form.Stated.{Stated}
use Rattle.record_lines.specs.ContractLaws.{held_fits}

-- ---- the first three lines

-- the parts by their first line, and those after it
abbrev and_ended : {A B : Type 0} → ℕ → (List ℕ → Option A) → (A → List (List ℕ) → Form B) → List (List ℕ) → Form B
and_ended line read further parts = and_line line (line_as read (ended_line parts)) (λ a. further a (drop 1 parts))

-- what x is is known from the line at an index on
pub record Reached {A B : Type 0} (line : ℕ) (read : List ℕ → Option A) (further : A → List (List ℕ) → Form B) (x : Form B) (text : List ℕ)
    (from : ℕ) : Type 0 where
  pub is : x ≡ and_ended line read further (parts_from line_end text from)
  pub inside : from ≤ length text

module _ {A B : Type 0} {line : ℕ} {read : List ℕ → Option A} {further : A → List (List ℕ) → Form B} {x : Form B} {text : List ℕ}
    {from e : ℕ} (here : Reached line read further x text from) (p : PartEnd line_end text from e) where
  pub line-unended : e ≡ length text → x ≡ faulty line
  line-unended q = here.is ∙ ap (and_ended line read further) (last_part_lem line_end text from e here.inside p q)

  pub line_read_lem : (e ≡ length text → ⊥) → {o : Option A} → read (part_at text from e) ≡ o
      → x ≡ and_line line o (λ a. further a (parts_from line_end text (e + 1)))
  line_read_lem q o =
      let f = followed line_end text from e here.inside p q in
      here.is ∙ ap (and_ended line read further) f.is
      ∙ ap₂ (λ o k. and_line line o (λ a. further a k)) o (sym f.after)

abbrev from_weights : List ℕ → List ℤ → Result → List (List ℕ) → Form Record
from_weights codes centre result parts = with_weights codes centre result (weights_from row_limit 4 0 parts)

abbrev from_centre : ℕ → List ℕ → List (List ℕ) → Form Record
from_centre n codes = and_ended 2 (centre_line n) (form_after_centre codes)

abbrev from_heading : Types → List (List ℕ) → Form Record
from_heading types = and_ended 1 (heading_of record_word channel_limit types) (λ codes. from_centre (length codes) codes)

module _ (types : Types) (text : List ℕ) where
  abbrev pub AtHeading : Type 0
  AtHeading =
      Reached 1 (heading_of record_word channel_limit types) (λ codes. from_centre (length codes) codes) (form row_limit types text) text 0

  abbrev pub AtCentre : ℕ → List ℕ → ℕ → Type 0
  AtCentre n codes from = Reached 2 (centre_line n) (form_after_centre codes) (form row_limit types text) text from

  pub at-heading : AtHeading
  unfolding form form_of
  at-heading = record { is = go (cut line_end text) ∙ ap (from_heading types) (sym (parts_whole line_end text)); inside = omega arith }
    where
      go : (parts : List (List ℕ)) → form_of row_limit types parts ≡ from_heading types parts
      go [] = refl
      go (heading ∷ []) = refl
      go (heading ∷ centre ∷ parts) = refl

  module _ {e : ℕ} (p : PartEnd line_end text 0 e) (q : e ≡ length text → ⊥) where
    pub heading_read_lem : {o : Option (List ℕ)} → heading_of record_word channel_limit types (take e text) ≡ o
        → form row_limit types text ≡ and_line 1 o (λ codes. from_centre (length codes) codes (parts_from line_end text (e + 1)))
    heading_read_lem o =
        let whole : e - 0 ≡ e = omega arith in
        line_read_lem at-heading p q (ap (λ k. heading_of record_word channel_limit types (take k text)) whole ∙ o)

    pub past_heading_lem : {h : Heading} → Headed record_word types (take e text) h → AtCentre h.n (codes_in h) (e + 1)
    past_heading_lem {h} head =
        record {
          is =
              heading_read_lem head.codes
              ∙ ap (λ (n : ℕ). from_centre n (codes_in h) (parts_from line_end text (e + 1))) (sym (ap (λ (g : Heading). g.n) head.is));
          inside = omega (arith, p.high);
        }

-- what a record keeps of an `R` line
abbrev pub result_kept : Result → ResultLine
result_kept s = record { scaled_squared_radius = held s.scaled_squared_radius; scaled_lower_bound = held s.scaled_lower_bound; moves = s.moves; settled = s.settled }

-- a line that is there
pub found : {A : Type 0} (o : Option A) → is_there o ≡ true → (a : A) × (o ≡ some a)
found none h = clash h refl
found (some a) h = (a, refl)

pub not_found : {A : Type 0} (o : Option A) → is_there o ≡ false → o ≡ none
not_found none h = refl
not_found (some a) h = clash refl h

module _ (line : List ℕ) where
  pub no_result : None ≡ result_read (result_line line) → result_line line ≡ none
  no_result r = go (result_line line) r
    where
      go : (o : Option Result) → None ≡ result_read o → o ≡ none
      go none e = refl
      go (some s) e = impossible (cc)

  pub in_form : {r : ResultLine} → Some r ≡ result_read (result_line line) → (s : Result) × (result_line line ≡ some s) × (r ≡ result_kept s)
  in_form {r} e = go (result_line line) e
    where
      go : (o : Option Result) → Some r ≡ result_read o → (s : Result) × (o ≡ some s) × (r ≡ result_kept s)
      go none e = impossible (cc)
      go (some s) e = (s, refl, cc)

-- ---- the answer

held_back : (z : ℤ) → back w64 (held z) ≡ held z
held_back z = to_z-of_z (held_fits z)

module _ (codes : List ℕ) (X : List ℤ) (text : List ℕ) (at : ℕ) where
  abbrev rest : Form Record
  rest = form_after_centre codes X (parts_from line_end text at)

  pub at_result : at ≤ length text → Reached 3 result_line (from_weights codes X) rest text at
  at_result inside = record { is = refl; inside = inside }

  -- past the `R` line
  pub record AtWeights (result : Result) (next : ℕ) : Type 0 where
    pub is : rest ≡ from_weights codes X result (parts_from line_end text next)

-- the answer from n, the codes and X in their places, and the answers to the lines after them
abbrev stated_by : ℕ → List ℕ → List ℤ → ResultLine → List ℕ → Stated
stated_by n code-places centre-places r weights =
    record {
      n = n;
      codes = code-places;
      scaled_centre = centre-places;
      scaled_squared_radius = back w64 r.scaled_squared_radius;
      scaled_lower_bound = back w64 r.scaled_lower_bound;
      moves = r.moves;
      settled = r.settled;
      weights = weights;
    }

module _ {codes : List ℕ} {X : List ℤ} {text : List ℕ} {at next : ℕ} {result : Result} (here : AtWeights codes X text at result next) where
  abbrev weights : Form (List Weight)
  weights = weights_from row_limit 4 0 (parts_from line_end text next)

  pub weights_faulty : {lent : List ℕ} {line : ℕ} → WeightsRead text next (replicate row_limit 0) lent (Err line) → rest codes X text at ≡ faulty line
  weights_faulty {line = line} w = go weights refl
    where
      go : (x : Form (List Weight)) → weights ≡ x → rest codes X text at ≡ faulty line
      go (faulty l) f = let same : l ≡ line = cc (w.is ∙ ap weights_fault f) in here.is ∙ ap (with_weights codes X result) f ∙ ap faulty same
      go (sound ws) f = impossible (cc (w.is ∙ ap weights_fault f))

  module _ {lent : List ℕ} (w : WeightsRead text next (replicate row_limit 0) lent (Ok tt)) where
    weights_sound : (ws : List Weight) × (weights ≡ sound ws)
    weights_sound = go weights refl
      where
        go : (x : Form (List Weight)) → weights ≡ x → (ws : List Weight) × (weights ≡ sound ws)
        go (faulty l) f = impossible (cc (w.is ∙ ap weights_fault f))
        go (sound ws) f = (ws, f)

    pub rest-stated : {n : ℕ} {code-places : List ℕ} {centre-places : List ℤ} {r : ResultLine} → r ≡ result_kept result → n ≡ length codes
        → code-places ≡ padded channel_limit codes → centre-places ≡ centre_list (length codes) (centre_of (map held X))
        → Ok (stated_by n code-places centre-places r lent) ≡ stated_form (rest codes X text at)
    unfolding weights_of
    rest-stated {n} {code-places} {centre-places} {r} read count tags point =
        let is = here.is ∙ ap (with_weights codes X result) weights_sound.1 in
        ap Ok
        (ap₂ (λ j places. stated_by j places centre-places r lent) count tags
        ∙ ap₂ (λ x s. stated_by (length codes) (padded channel_limit codes) x s lent) point read)
        ∙ rw (held_back result.scaled_squared_radius, held_back result.scaled_lower_bound, w.written weights_sound.0 weights_sound.1) (ap stated_form (sym is))

pub form-stated : {types : Types} {text first : List ℕ} {h : Heading} {centre : List ℤ} {at : ℕ} {r : Answer Stated ℕ} (X : List ℤ)
    → AfterCentreRead text at h.n h.codes centre r → Headed record_word types first h
    → centre ≡ map held X ++ drop h.n (replicate channel_limit (pos 0)) → length centre ≡ channel_limit
    → r ≡ stated_form (form_after_centre (codes_in h) X (parts_from line_end text at))
form-stated {h = h} {centre = centre} X after head c long =
    after.is (codes_in h) X (ap (λ (g : Heading). g.n) head.is) (ap (λ (g : Heading). g.codes) head.is)
    (centre_list_zeros h.n (map held X) centre head.channels long c
    ∙ ap (λ (g : Heading). centre_list g.n (centre_of (map held X))) head.is)
