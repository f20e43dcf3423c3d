-- Laws of lines.
--     ended-printed     a text of lines is its parts with byte 10 between each two
--     printed_ended     it is cut into its lines and an empty part
--     printed_some      a text of a line or more has a byte
--     printed-more      a text with one line more
--     printed_short     the most bytes of a text of lines, none of which is longer than k
use Rattle.std.specs.Prelude.{ℕ, suc, ◌*◌, ◌≤◌, ◌<◌, ◌≡◌, refl, true, List, [], ◌∷◌, ◌++◌, map, length, get_or}
use Rattle.std.proofs.Common.{sym, ◌∙◌, ap, append_assoc, mul-suc, arith, length-append}
use Rattle.integers.specs.Tests.{both}
use Rattle.text.specs.Parts.{line_end, cut, join, free, all_free}
use Rattle.text.specs.PartsLaws.{cut-join}
use Rattle.text.specs.Lines.{print_lines, ended}

pub ended-printed : (lines : List (List ℕ)) → join line_end (ended lines) ≡ print_lines lines
unfolding join print_lines
ended-printed [] = refl
ended-printed (line ∷ []) = refl
ended-printed (line ∷ next ∷ lines) = ap (λ (l : List ℕ). line ++ (line_end ∷ l)) (ended-printed (next ∷ lines))

ended-free : (lines : List (List ℕ)) → all_free line_end lines ≡ true → all_free line_end (ended lines) ≡ true
unfolding all_free free
ended-free [] h = refl
ended-free (line ∷ lines) h =
    let parts = both (free line_end line) (all_free line_end lines) h in
    rw parts.0 (ended-free lines parts.1)

cut-ended : (lines : List (List ℕ)) → all_free line_end lines ≡ true → cut line_end (join line_end (ended lines)) ≡ ended lines
cut-ended [] h = cut-join line_end [] [] (ended-free [] h)
cut-ended (line ∷ lines) h = cut-join line_end line (ended lines) (ended-free (line ∷ lines) h)

pub printed_ended : (lines : List (List ℕ)) → all_free line_end lines ≡ true → cut line_end (print_lines lines) ≡ ended lines
printed_ended lines h = ap (cut line_end) (sym (ended-printed lines)) ∙ cut-ended lines h

pub printed_some : (line : List ℕ) (lines : List (List ℕ)) → 1 ≤ length (print_lines (line ∷ lines))
unfolding print_lines
printed_some line lines = rw length-append (omega arith)

pub printed-more : (lines : List (List ℕ)) (line : List ℕ) → print_lines (lines ++ (line ∷ [])) ≡ print_lines lines ++ (line ++ (line_end ∷ []))
unfolding print_lines
printed-more [] line = refl
printed-more (first ∷ lines) line =
    ap (λ (l : List ℕ). first ++ (line_end ∷ l)) (printed-more lines line)
    ∙ sym (append_assoc first (line_end ∷ print_lines lines) (line ++ (line_end ∷ [])))

pub printed_short : {A : Type 0} (f : A → List ℕ) (d : A) (k : ℕ) (l : List A) → ((j : ℕ) → j < length l → length (f (get_or l j d)) ≤ k)
    → length (print_lines (map f l)) ≤ suc k * length l
unfolding print_lines
printed_short f d k [] h = omega arith
printed_short f d k (x ∷ l) h =
    omega (
      arith,
      length-append (f x) (line_end ∷ print_lines (map f l)),
      h 0 (omega arith),
      printed_short f d k l (λ j b. h (suc j) (omega arith)),
      mul-suc (suc k) (length l),
    )
