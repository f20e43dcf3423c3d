-- The lines of a record as they are printed.
--     Line line out at out' r                      a line is printed, and there is room for its byte 10
--     centre_put, weight_below, weight_put         the lines `C` and `W` from their numbers; those of a `W` line are below 2 ^ 63
--     numbers_put, result_put                      the numbers of an `R` line, and the line with its letter
--     WeightsSoFar, weights_none, -zero, -more     the `W` lines as they are printed row by row
--     weights_done                                 all of them
--     heading_put                                  the heading of a record
--     line-end                                     where a line with its byte 10 ends
--     record_put                                   the whole record from its parts
use Prim.Native.Nat.{ℕ, zero, suc, ◌+◌, ◌*◌, ◌^◌, ◌≤◌, ◌<◌}
use mathlib.Core.Path.{◌≡◌, refl, sym, ap, ◌∙◌}
use mathlib.Core.Bool.{Bool}
use mathlib.Core.List.{List, [], ◌∷◌, ◌++◌, map, append-nil, append_assoc}
use native.Mathlib.Numerals.{add-one}
use native.Mathlib.Omega.{arith}
use lib.IntN.{ℤ, pos}
use lib.ListN.{length, get_or, set, take, drop, length-append, drop_of_length-le}
use lib.Seq.{append_snoc, drop-cons}
use mir.Syntax.{w64}
use mir.Val.{to_z}
use Rattle.text.specs.Parts.{comma, line_end}
use Rattle.text.specs.Lines.{print_lines}
use Rattle.printing.specs.Clauses.{numbers_after, print_numbers, Put}
use Rattle.printing.specs.ContractLaws.{put_none, put_byte, put_then, put_as, put_ended}
use Rattle.printing.specs.UnsignedLaws.{Below, below_none, below_more, held-signed}
use Rattle.channel.specs.Channel.{channel_types}
use Rattle.channel.specs.ContractLaws.{house_short}
use Rattle.heading.specs.Heading.{print_heading}
use Rattle.envelope.specs.Figures.{channel_codes}
use Rattle.envelope.specs.declared.Figures.{Figures}
use Rattle.record_lines.specs.Lines.{record_word, centre_word, result_word, weight_word, letter_of, print_centre, print_result, print_weight}
use Rattle.record_form.specs.Record.{print_record}
use Rattle.record_form.specs.Weights.{listed}
use Rattle.record_print.specs.Printed.{result_for, record_of}
use Rattle.record_print.specs.Clauses.{weight_lines, numbers_room, result_room, record_room, Printing}
use Rattle.record_print.specs.PrintedLaws.{result_numbers_lem, result_length, weight_length, lines_from, record_lines, heading_most_lem}

-- a line that is printed, with room for its byte 10
pub record Line (line out : List ℕ) (at : ℕ) (out' : List ℕ) (r : ℕ) : Type 0 where
  pub room : r < length out
  pub within : r < length out'
  pub ended : Put (line ++ (line_end ∷ [])) out at (set out' r line_end) (r + 1)

ending : {line out out' : List ℕ} {at r : ℕ} → Put line out at out' r → at + length line < length out → Line line out at out' r
ending {line} {out} {out'} {at} {r} f h =
    let within : r < length out' = omega (arith, f.next, f.same_length) in
    record { room = omega (arith, f.next); within = within; ended = put_ended f within }

pub weight_below : (row weight : ℕ) → row < 2 ^ 63 → weight < 2 ^ 63 → Below (2 ^ 63) (row ∷ weight ∷ [])
weight_below row weight few small = below_more (2 ^ 63) row (weight ∷ []) few (below_more (2 ^ 63) weight [] small (below_none (2 ^ 63)))

module _ {out out' : List ℕ} {at r : ℕ} where
  pub centre_put : (X : List ℤ) → Put (print_numbers centre_word X) out at out' r → Put (print_centre X ++ (line_end ∷ [])) out at out' r
  unfolding print_centre
  centre_put X f = f

  pub weight_put : (row weight : ℕ) → Below (2 ^ 63) (row ∷ weight ∷ [])
      → Put (print_numbers weight_word (map (to_z w64) (row ∷ weight ∷ []))) out at out' r
      → Put (print_weight (record { row = row; weight = weight }) ++ (line_end ∷ [])) out at out' r
  unfolding print_weight
  weight_put row weight below f = put_as f (ap (print_numbers weight_word) (held-signed (row ∷ weight ∷ []) below)) refl

  module _ (M L moves : ℕ) (below : Below (2 ^ 63) (M ∷ L ∷ moves ∷ [])) where
    pub numbers_put : Put (numbers_after result_word (map (to_z w64) (M ∷ L ∷ moves ∷ []))) out at out' r
        → (r < at + numbers_room result_word 3) × Put (numbers_after result_word (map pos (M ∷ L ∷ moves ∷ []))) out at out' r
    numbers_put f =
        let ns = M ∷ L ∷ moves ∷ [] in
        let printed : Put (numbers_after result_word (map pos ns)) out at out' r = put_as f (ap (numbers_after result_word) (held-signed ns below)) refl in
        (omega (arith, printed.next, result_numbers_lem M L moves below), printed)

    pub result_put : (settled : Bool) (letter : List ℕ) {out'' : List ℕ} {s : ℕ} → letter ≡ letter_of settled → at + result_room ≤ length out
        → Put (numbers_after result_word (map (to_z w64) (M ∷ L ∷ moves ∷ []))) out at out' r
        → Put letter (set out' r comma) (r + 1) out'' s
        → Line (print_result (result_for M L moves settled)) out at out'' s
    unfolding print_result
    result_put settled letter e h f g =
        let printed = numbers_put f in
        let comma-put = put_byte out' r comma (omega (arith, f.same_length, printed.0)) in
        ending (put_then printed.1 (put_then comma-put (put_as g e refl))) (omega (arith, result_length M L moves below settled))

-- ---- the `W` lines

lines_first : (weights : List ℕ) → lines_from 1 weights ≡ weight_lines weights
unfolding weight_lines
lines_first weights = refl

lines_none : (row : ℕ) → lines_from row [] ≡ []
unfolding listed print_lines
lines_none row = refl

lines_zero : (row : ℕ) (weights : List ℕ) → lines_from row (0 ∷ weights) ≡ lines_from (suc row) weights
unfolding listed
lines_zero row weights = refl

lines_more : (row weight : ℕ) (weights : List ℕ) → (weight ≡ 0 → ⊥)
    → lines_from row (weight ∷ weights) ≡ (print_weight (record { row = row; weight = weight }) ++ (line_end ∷ [])) ++ lines_from (suc row) weights
unfolding listed print_lines
lines_more row zero weights h = absurd (h refl)
lines_more row (suc w) weights h = sym (append_snoc (print_weight (record { row = row; weight = suc w })) line_end (lines_from (suc row) weights))

-- before turn i of the walk over the weights: what is printed so far and the lines from the next row on are the whole
pub record WeightsSoFar (weights out₀ : List ℕ) (at : ℕ) (out : List ℕ) (from i : ℕ) : Type 0 where
  pub within : i ≤ length weights
  pub room : from ≤ at + i * numbers_room weight_word 2
  pub printed : List ℕ
  pub put : Put printed out₀ at out from
  pub continues : printed ++ lines_from (suc i) (drop i weights) ≡ weight_lines weights

pub weights_none : (weights out : List ℕ) (at : ℕ) → WeightsSoFar weights out at out at 0
weights_none weights out at =
    record { within = omega arith; room = omega arith; printed = []; put = put_none out at; continues = lines_first weights }

module _ {weights out₀ : List ℕ} {at : ℕ} {out : List ℕ} {from i : ℕ} (f : WeightsSoFar weights out₀ at out from i) where
  pub weights_done : length weights ≤ i → Put (weight_lines weights) out₀ at out from
  weights_done h =
      put_as f.put
      (sym (append-nil f.printed) ∙ ap (λ l. f.printed ++ l) (sym (lines_none (suc i)))
      ∙ ap (λ l. f.printed ++ lines_from (suc i) l) (sym (drop_of_length-le weights h)) ∙ f.continues)
      refl

  module _ (h : i < length weights) where
    -- the next weight and those after it
    next : f.printed ++ lines_from (suc i) (get_or weights i 0 ∷ drop (suc i) weights) ≡ weight_lines weights
    next = ap (λ l. f.printed ++ lines_from (suc i) l) (sym (drop-cons weights i 0 h)) ∙ f.continues

    pub weights_zero : get_or weights i 0 ≡ 0 → WeightsSoFar weights out₀ at out from (i + 1)
    weights_zero e =
        record {
          within = omega arith;
          room = omega (arith, f.room);
          printed = f.printed;
          put = f.put;
          continues =
              ap (λ j. f.printed ++ lines_from (suc j) (drop j weights)) (add-one i)
              ∙ ap (λ l. f.printed ++ l) (sym (lines_zero (suc i) (drop (suc i) weights)))
              ∙ ap (λ w. f.printed ++ lines_from (suc i) (w ∷ drop (suc i) weights)) (sym e)
              ∙ next;
        }

    pub weights-more : (get_or weights i 0 ≡ 0 → ⊥) → Below (2 ^ 63) ((i + 1) ∷ get_or weights i 0 ∷ []) → {out' : List ℕ} {r : ℕ}
        → Put (print_weight (record { row = i + 1; weight = get_or weights i 0 }) ++ (line_end ∷ [])) out from out' r
        → WeightsSoFar weights out₀ at out' r (i + 1)
    weights-more some below p =
        let weight = get_or weights i 0 in
        let line = print_weight (record { row = i + 1; weight = weight }) ++ (line_end ∷ []) in
        let rest = lines_from (suc (i + 1)) (drop (i + 1) weights) in
        record {
          within = omega arith;
          room =
              omega (
                arith,
                f.room,
                p.next,
                length-append (print_weight (record { row = i + 1; weight = weight })) (line_end ∷ []),
                weight_length (i + 1) weight below,
              );
          printed = f.printed ++ line;
          put = put_then f.put p;
          continues =
              append_assoc f.printed line rest
              ∙ ap (λ j. f.printed ++ ((print_weight (record { row = j; weight = weight }) ++ (line_end ∷ [])) ++ lines_from (suc j) (drop j weights))) (add-one i)
              ∙ ap (λ l. f.printed ++ l) (sym (lines_more (suc i) weight (drop (suc i) weights) some))
              ∙ next;
        }

-- ---- the whole record

pub heading_put : (f : Figures) (weights : List ℕ) → Printing f weights → {out out' : List ℕ} {r : ℕ} → record_room (length weights) ≤ length out
    → Put (print_heading record_word channel_types (channel_codes f)) out 0 out' r → Line (print_heading record_word channel_types (channel_codes f)) out 0 out' r
heading_put f weights p room g = ending g (omega (arith, heading_most_lem f weights p channel_types house_short))

pub line-end : (line : List ℕ) {out out' : List ℕ} {at r : ℕ} → Put (line ++ (line_end ∷ [])) out at out' r → r ≡ at + length line + 1
line-end line g = omega (arith, g.next, length-append line (line_end ∷ []))

pub record_put : (f : Figures) (weights : List ℕ) {a b c d e : List ℕ} {h i j k : ℕ} → Line (print_heading record_word channel_types (channel_codes f)) a 0 b h
    → Put (print_centre (take f.n f.ball.scaled_centre) ++ (line_end ∷ [])) (set b h line_end) (h + 1) c i
    → Put (print_result (record_of f weights).result ++ (line_end ∷ [])) c i d j
    → Put (weight_lines weights) d j e k
    → Put (print_record channel_types (record_of f weights)) a 0 e k
record_put f weights first second third lines =
    put_as (put_then first.ended (put_then second (put_then third (put_as lines (sym (lines_first weights)) refl))))
    (sym (record_lines channel_types (record_of f weights))) refl
