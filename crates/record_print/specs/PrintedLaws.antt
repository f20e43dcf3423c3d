-- Laws of the text of a record, for any table of types whose tags are within their limit.
--     Small limit n X, taken_small                    the first n numbers are below the limit; so is each of the list of them
--     heading_short, centre_short,                    how many bytes the lines of a record have at most, without their byte 10, for any
--     result_short, weight_short                      numbers of digits
--     result_numbers_short                            the same of the word and the numbers of an `R` line
--     lines_short                                     the same of the `W` lines of so many rows, with their bytes 10
--     letter_length                                   a letter is one byte
--     lines_from row weights                           the `W` lines of weights, the first of which is that of this row
--     record_lines, record_length                     a record is its lines, each with its byte 10, and as long as they are
--     result_below                                    the numbers of an `R` line are below 2 ^ 63 where each is
--     result_numbers_lem, result_length, weight_length    `R` and `W` lines of such numbers are within their room
--     heading_most_lem, centre_most_lem, result_most_lem          so are the first three lines of an envelope's record
--     record_room_lem                                     the text of the record is within record_room
use Prim.Native.Nat.{ℕ, zero, suc, ◌+◌, ◌*◌, ◌^◌, ◌≤◌, ◌<◌}
use Rattle.std.specs.Prelude.{◌≡◌, refl, Bool, true, false, ℤ, pos, nat_abs, length, get_or, take}
use Rattle.std.proofs.Common.{sym, ap, ◌∙◌, length-take-le, get_or-take}
use mathlib.Core.List.{List, [], ◌∷◌, ◌++◌, map, append_assoc}
use Rattle.std.proofs.Math.Nat.{suc-mul}
use native.Mathlib.Omega.{arith}
use Rattle.std.proofs.Math.ListN.{length-append, get_or-eq_default}
use Rattle.limits.specs.Limits.{channel_limit, channel_digits, distance_digits}
use Rattle.text.specs.Parts.{comma, line_end, join}
use Rattle.text.specs.Lines.{print_lines}
use Rattle.number.specs.Number.{print}
use Rattle.number.specs.NumberLaws.{magnitude_short}
use Rattle.printing.specs.Clauses.{numbers_after}
use Rattle.printing.specs.ContractLaws.{numbers_short}
use Rattle.printing.specs.UnsignedLaws.{Below, below_none, below_more}
use Rattle.channel.specs.Channel.{Types}
use Rattle.channel.specs.ContractLaws.{ShortTags}
use Rattle.heading.specs.Heading.{print_heading}
use Rattle.heading.specs.HeadingLaws.{heading-length}
use Rattle.envelope.specs.Figures.{channel_codes}
use Rattle.envelope.specs.declared.Figures.{Figures}
use Rattle.record_lines.specs.Lines.{record_word, centre_word, result_word, weight_word, letter_of, print_centre, print_result, print_weight}
use Rattle.record_form.specs.Record.{Record, print_record}
use Rattle.record_form.specs.Weights.{listed}
use Rattle.record_print.specs.Printed.{result_for, record_of, unsigned_most, signed_most, centre_most, result_most, weight_most}
use Rattle.heading.specs.Clauses.{heading_most}
use Rattle.record_print.specs.Clauses.{numbers_room, result_room, centre_start, record_room, Printing}

-- ---- the lines, for numbers of so many digits

-- the default of get_or is never met
abbrev pub Small : ℕ → ℕ → List ℤ → Type 0
Small limit n X = (k : ℕ) → k < n → nat_abs (get_or X k (pos 0)) < limit

pub taken_small : (limit n : ℕ) (X : List ℤ) → n ≤ length X → Small limit n X → Small limit (length (take n X)) (take n X)
taken_small limit n X h small k l =
    let places : length (take n X) ≡ n = length-take-le n X h in
    omega (arith, ap nat_abs (get_or-take n X k (pos 0) (omega arith)), small k (omega arith))

pub heading_short : (f : Figures) (types : Types) → ShortTags types → f.n ≤ channel_limit → f.n ≤ length f.codes
    → length (print_heading record_word types (channel_codes f)) ≤ heading_most record_word f.n
heading_short f types short few typed =
    let codes : length (channel_codes f) ≡ f.n = length-take-le f.n f.codes typed in
    omega (arith, heading-length types short channel_digits record_word (channel_codes f) (omega arith) (omega arith))

-- a hyphen, digits and a comma for each place
pub centre_short : (digits n : ℕ) (X : List ℤ) → 1 ≤ digits → n ≤ length X → Small (10 ^ digits) n X
    → length (print_centre (take n X)) ≤ centre_most digits n
unfolding print_centre
centre_short digits n X some places small =
    omega (
      arith,
      ap (λ (k : ℕ). signed_most digits * k) (length-take-le n X places),
      numbers_short digits centre_word (take n X) some (taken_small (10 ^ digits) n X places small),
    )

pub letter_length : (settled : Bool) → length (letter_of settled) ≡ 1
letter_length true = refl
letter_length false = refl

result_ended : (M L moves : ℕ) (settled : Bool)
    → length (print_result (result_for M L moves settled))
    ≡ length (numbers_after result_word (pos M ∷ pos L ∷ pos moves ∷ [])) + 2
unfolding print_result
result_ended M L moves settled =
    omega (arith, length-append (numbers_after result_word (pos M ∷ pos L ∷ pos moves ∷ [])) (comma ∷ letter_of settled), letter_length settled)

-- M and L of so many digits, and moves of so many
module _ (distance made M L moves : ℕ) (some-distance : 1 ≤ distance) (some-made : 1 ≤ made) (radius : M < 10 ^ distance) (floor : L < 10 ^ distance)
    (few : moves < 10 ^ made) where
  pub result_numbers_short : length (numbers_after result_word (pos M ∷ pos L ∷ pos moves ∷ [])) + unsigned_most 1 ≤ result_most distance made
  unfolding numbers_after join print
  result_numbers_short =
      omega (
        arith,
        length-append (print (pos M)) (comma ∷ (print (pos L) ++ (comma ∷ print (pos moves)))),
        length-append (print (pos L)) (comma ∷ print (pos moves)),
        magnitude_short distance M some-distance radius,
        magnitude_short distance L some-distance floor,
        magnitude_short made moves some-made few,
      )

  pub result_short : (settled : Bool)
      → length (print_result (result_for M L moves settled)) ≤ result_most distance made
  result_short settled = omega (arith, result_ended M L moves settled, result_numbers_short)

abbrev pub lines_from : ℕ → List ℕ → List ℕ
lines_from row weights = print_lines (map print_weight (listed row weights))

-- rows and weights of so many digits
module _ (row_digits_lem weight_digits_lem : ℕ) (some_row : 1 ≤ row_digits_lem) (some_weight : 1 ≤ weight_digits_lem) where
  pub weight_short : (row weight : ℕ) → row < 10 ^ row_digits_lem → weight < 10 ^ weight_digits_lem
      → length (print_weight (record { row = row; weight = weight })) ≤ weight_most row_digits_lem weight_digits_lem
  unfolding print_weight numbers_after join print
  weight_short row weight r w =
      omega (
        arith,
        length-append (print (pos row)) (comma ∷ print (pos weight)),
        magnitude_short row_digits_lem row some_row r,
        magnitude_short weight_digits_lem weight some_weight w,
      )

  -- so many rows, and no weight past them
  pub lines_short : (row count : ℕ) (weights : List ℕ) → ((i : ℕ) → i < count → row + i < 10 ^ row_digits_lem) → Below (10 ^ weight_digits_lem) weights
      → ((i : ℕ) → count ≤ i → get_or weights i 0 ≡ 0) → length (lines_from row weights) ≤ count * (weight_most row_digits_lem weight_digits_lem + 1)
  unfolding listed print_lines
  lines_short row count [] few below rest = omega arith
  lines_short row zero (zero ∷ weights) few below rest =
      lines_short (suc row) zero weights (λ i h. absurd (omega arith)) (λ i h. below (suc i) (omega arith)) (λ i h. rest (suc i) (omega arith))
  lines_short row zero (suc w ∷ weights) few below rest = absurd (omega (arith, rest 0 (omega arith)))
  lines_short row (suc count) (zero ∷ weights) few below rest =
      omega (
        arith,
        suc-mul count (weight_most row_digits_lem weight_digits_lem + 1),
        lines_short (suc row) count weights (λ i h. omega (arith, few (suc i) (omega arith))) (λ i h. below (suc i) (omega arith))
            (λ i h. rest (suc i) (omega arith)),
      )
  lines_short row (suc count) (suc w ∷ weights) few below rest =
      omega (
        arith,
        suc-mul count (weight_most row_digits_lem weight_digits_lem + 1),
        length-append (print_weight (record { row = row; weight = suc w })) (line_end ∷ lines_from (suc row) weights),
        weight_short row (suc w) (omega (arith, few 0 (omega arith))) (below 0 (omega arith)),
        lines_short (suc row) count weights (λ i h. omega (arith, few (suc i) (omega arith))) (λ i h. below (suc i) (omega arith))
            (λ i h. rest (suc i) (omega arith)),
      )

-- ---- the whole record

pub record_lines : (types : Types) (r : Record)
    → print_record types r
    ≡ (print_heading record_word types r.codes ++ (line_end ∷ []))
    ++ ((print_centre r.scaled_centre ++ (line_end ∷ []))
    ++ ((print_result r.result ++ (line_end ∷ []))
    ++ print_lines (map print_weight r.weights)))
unfolding print_record print_lines
record_lines types r = sym (simp append_assoc)

-- a line with its byte 10, before others
line-length : (line rest : List ℕ) → length ((line ++ (line_end ∷ [])) ++ rest) ≡ length line + 1 + length rest
line-length line rest = length-append (line ++ (line_end ∷ [])) rest ∙ ap (λ n. n + length rest) (length-append line (line_end ∷ []))

pub record_length : (types : Types) (r : Record)
    → length (print_record types r)
    ≡ (length (print_heading record_word types r.codes) + 1)
    + (length (print_centre r.scaled_centre) + 1)
    + (length (print_result r.result) + 1)
    + length (print_lines (map print_weight r.weights))
record_length types r =
    let heading = print_heading record_word types r.codes in
    let centre = print_centre r.scaled_centre in
    let result = print_result r.result in
    let lines = print_lines (map print_weight r.weights) in
    omega (
      arith,
      ap length (record_lines types r),
      line-length heading ((centre ++ (line_end ∷ [])) ++ ((result ++ (line_end ∷ [])) ++ lines)),
      line-length centre ((result ++ (line_end ∷ [])) ++ lines),
      line-length result lines,
    )

-- ---- the room: as many digits for each number

pub result_below : (M L moves : ℕ) → M < 2 ^ 63 → L < 2 ^ 63 → moves < 2 ^ 63 → Below (2 ^ 63) (M ∷ L ∷ moves ∷ [])
result_below M L moves radius floor made =
    let most = 2 ^ 63 in
    below_more most M (L ∷ moves ∷ []) radius (below_more most L (moves ∷ []) floor (below_more most moves [] made (below_none most)))

module _ (M L moves : ℕ) (below : Below (2 ^ 63) (M ∷ L ∷ moves ∷ [])) where
  pub result_numbers_lem : length (numbers_after result_word (pos M ∷ pos L ∷ pos moves ∷ [])) < numbers_room result_word 3
  result_numbers_lem =
      omega (
        arith,
        result_numbers_short distance_digits distance_digits M L moves (omega arith) (omega arith) (omega (arith, below 0 (omega arith)))
            (omega (arith, below 1 (omega arith))) (omega (arith, below 2 (omega arith))),
      )

  pub result_length : (settled : Bool) → length (print_result (result_for M L moves settled)) < result_room
  result_length settled = omega (arith, result_ended M L moves settled, result_numbers_lem)

pub weight_length : (row weight : ℕ) → Below (2 ^ 63) (row ∷ weight ∷ [])
    → length (print_weight (record { row = row; weight = weight })) < numbers_room weight_word 2
weight_length row weight below =
    omega (
      arith,
      weight_short distance_digits distance_digits (omega arith) (omega arith) row weight (omega (arith, below 0 (omega arith)))
          (omega (arith, below 1 (omega arith))),
    )

module _ (f : Figures) (weights : List ℕ) (p : Printing f weights) where
  pub heading_most_lem : (types : Types) → ShortTags types → length (print_heading record_word types (channel_codes f)) < centre_start
  heading_most_lem types short = omega (arith, p.channels, heading_short f types short p.channels p.typed)

  pub centre_most_lem : length (print_centre (record_of f weights).scaled_centre) < numbers_room centre_word channel_limit
  centre_most_lem =
      omega (
        arith,
        p.channels,
        centre_short distance_digits f.n f.ball.scaled_centre (omega arith) p.places (λ k h. omega (arith, p.centre_small k h)),
      )

  pub result_most_lem : f.moves < 2 ^ 63 → length (print_result (record_of f weights).result) < result_room
  result_most_lem made =
      let M = f.ball.scaled_squared_radius in
      let L = f.ball.scaled_lower_bound in
      result_length M L f.moves (result_below M L f.moves p.radius_small p.floor_small made) f.ball.settled

  pub record_room_lem : (types : Types) → ShortTags types → f.moves < 2 ^ 63 → Below (2 ^ 63) weights
      → length (print_record types (record_of f weights)) ≤ record_room (length weights)
  record_room_lem types short made below =
      omega (
        arith,
        record_length types (record_of f weights),
        heading_most_lem types short,
        centre_most_lem,
        result_most_lem made,
        lines_short distance_digits distance_digits (omega arith) (omega arith) 1 (length weights) weights (λ i h. omega (arith, p.rows))
            (λ i h. omega (arith, below i h)) (λ i h. get_or-eq_default weights 0 h),
      )
