-- How many lines a text has, and which.
--     bytes_of c text           how many bytes c stand in a text
--     missing ended            1 where the test whether a byte is byte 10 fails, else 0
--     unended text             1 where the text has a byte and its last is not byte 10, else 0
--     unended_last             so by the last byte
--     unended-free             so where a byte stands in it, but no byte 10
--     line-free, line_whole    a text that has a byte, none of them byte 10, is one line; so is a text with byte 10 after it
--     lines-count              a text has a line for each byte 10, and one more where its last byte is not byte 10
--     lines_most               it has no more lines than bytes
--     lines-append             the lines of a text after one that is ended
--     lines-printed            the lines of a text of lines, each ended by byte 10
--     LastPiece text           what follows the last byte 10, where that has a byte
--     last_piece               a text whose last byte is not byte 10 has such a piece
--     lines_last               which is its last line
use Rattle.std.specs.Prelude.{ℕ, suc, ◌+◌, ◌≤◌, ◌≡◌, refl, Bool, true, false, not, cond, ◌&&◌, List, [], ◌∷◌, ◌++◌, map, eqb, length}
use Rattle.std.proofs.Common.{sym, ap, ap₂, ◌∙◌, arith}
use Rattle.std.proofs.Math.Seq.{append_snoc}
use Rattle.integers.specs.Tests.{both, clash}
use Rattle.text.specs.Parts.{line_end, same, extend, cut, join, free, all_free}
use Rattle.text.specs.PartsLaws.{cut_some, cut-join}
use Rattle.text.specs.Lines.{print_lines}
use Rattle.text.specs.EndedLines.{with_ends, lines_with_ends}

unfoldable pub bytes_of : ℕ → List ℕ → ℕ
bytes_of c [] = 0
bytes_of c (b ∷ l) = cond (eqb b c) (suc (bytes_of c l)) (bytes_of c l)

-- 1 where the test whether a byte is byte 10 fails
abbrev pub missing : Bool → ℕ
missing true = 0
missing false = 1

unfoldable pub unended : List ℕ → ℕ
unended [] = 0
unended (b ∷ []) = missing (eqb b line_end)
unended (b ∷ next ∷ l) = unended (next ∷ l)

pub unended_last : (before : List ℕ) (b : ℕ) → unended (before ++ (b ∷ [])) ≡ missing (eqb b line_end)
unfolding unended
unended_last [] b = refl
unended_last (a ∷ []) b = refl
unended_last (a ∷ next ∷ before) b = unended_last (next ∷ before) b

pub unended-free : (b : ℕ) (l : List ℕ) → free line_end (b ∷ l) ≡ true → unended (b ∷ l) ≡ 1
unfolding unended free
unended-free b [] h = go (eqb b line_end) h
  where
    go : (t : Bool) → (not t && true) ≡ true → missing t ≡ 1
    go true e = clash e refl
    go false e = refl
unended-free b (next ∷ l) h = unended-free next l (both (not (eqb b line_end)) (free line_end (next ∷ l)) h).1

-- ---- line by line

abbrev Parts : ℕ → List ℕ → Type 0
Parts c l = (p : List ℕ) × (ps : List (List ℕ)) × (cut c l ≡ p ∷ ps)

-- a byte 10 ends a line
after-end : (l : List ℕ) → with_ends ([] ∷ cut line_end l) ≡ (line_end ∷ []) ∷ lines_with_ends l
unfolding with_ends lines_with_ends
after-end l = go (cut_some line_end l)
  where
    go : Parts line_end l → with_ends ([] ∷ cut line_end l) ≡ (line_end ∷ []) ∷ with_ends (cut line_end l)
    go f = ap (λ ps. with_ends ([] ∷ ps)) f.2 ∙ ap (λ ps. (line_end ∷ []) ∷ with_ends ps) (sym f.2)

-- another byte stands before the first line, if a byte follows it
before_line : (b next : ℕ) (l : List ℕ) → with_ends (extend b (cut line_end (next ∷ l))) ≡ extend b (lines_with_ends (next ∷ l))
unfolding with_ends lines_with_ends cut extend same
before_line b next l = go (eqb next line_end) (cut_some line_end l)
  where
    go : (t : Bool) → Parts line_end l
        → with_ends (extend b (cond t ([] ∷ cut line_end l) (extend next (cut line_end l))))
        ≡ extend b (with_ends (cond t ([] ∷ cut line_end l) (extend next (cut line_end l))))
    go true f = ap (λ ps. with_ends (extend b ([] ∷ ps))) f.2 ∙ sym (ap (λ ps. extend b (with_ends ([] ∷ ps))) f.2)
    go false (p, [], is) = ap (λ ps. with_ends (extend b (extend next ps))) is ∙ sym (ap (λ ps. extend b (with_ends (extend next ps))) is)
    go false (p, q ∷ ps, is) = ap (λ ps. with_ends (extend b (extend next ps))) is ∙ sym (ap (λ ps. extend b (with_ends (extend next ps))) is)

lines_end : (b : ℕ) (l : List ℕ) → eqb b line_end ≡ true → lines_with_ends (b ∷ l) ≡ (line_end ∷ []) ∷ lines_with_ends l
unfolding lines_with_ends cut
lines_end b l h = ap (λ t. with_ends (cond t ([] ∷ cut line_end l) (extend b (cut line_end l)))) h ∙ after-end l

lines-byte : (b next : ℕ) (l : List ℕ) → eqb b line_end ≡ false → lines_with_ends (b ∷ next ∷ l) ≡ extend b (lines_with_ends (next ∷ l))
unfolding lines_with_ends cut
lines-byte b next l h =
    ap (λ t. with_ends (cond t ([] ∷ cut line_end (next ∷ l)) (extend b (cut line_end (next ∷ l))))) h ∙ before_line b next l

pub line-free : (b : ℕ) (piece : List ℕ) → free line_end (b ∷ piece) ≡ true → lines_with_ends (b ∷ piece) ≡ (b ∷ piece) ∷ []
unfolding lines_with_ends with_ends same join all_free
line-free b piece h = ap with_ends (cut-join line_end (b ∷ piece) [] (ap (λ t. t && true) h))

pub line_whole : (piece : List ℕ) → free line_end piece ≡ true → lines_with_ends (piece ++ (line_end ∷ [])) ≡ (piece ++ (line_end ∷ [])) ∷ []
unfolding lines_with_ends with_ends same join all_free free
line_whole piece h = ap with_ends (cut-join line_end piece ([] ∷ []) (ap (λ t. t && true) h))

-- there is a first line
abbrev Lines : List ℕ → Type 0
Lines text = (line : List ℕ) × (lines : List (List ℕ)) × (lines_with_ends text ≡ line ∷ lines)

extend_some : (b : ℕ) (lines : List (List ℕ)) → (line : List ℕ) × (rest : List (List ℕ)) × (extend b lines ≡ line ∷ rest)
unfolding extend
extend_some b [] = (b ∷ [], [], refl)
extend_some b (line ∷ lines) = (b ∷ line, lines, refl)

lines_some : (b : ℕ) (l : List ℕ) → Lines (b ∷ l)
unfolding free
lines_some b l = go (eqb b line_end) refl l
  where
    go : (t : Bool) → eqb b line_end ≡ t → (l : List ℕ) → Lines (b ∷ l)
    go true h l = (line_end ∷ [], lines_with_ends l, lines_end b l h)
    go false h [] = (b ∷ [], [], line-free b [] (ap (λ t. not t && true) h))
    go false h (next ∷ l) =
        let f = extend_some b (lines_with_ends (next ∷ l)) in
        (f.0, f.1, lines-byte b next l h ∙ f.2)

-- ---- how many

extend-length : (b : ℕ) (line : List ℕ) (lines : List (List ℕ)) → length (extend b (line ∷ lines)) ≡ length (line ∷ lines)
unfolding extend
extend-length b line lines = refl

byte-count : (b next : ℕ) (l : List ℕ) → eqb b line_end ≡ false → length (lines_with_ends (b ∷ next ∷ l)) ≡ length (lines_with_ends (next ∷ l))
byte-count b next l h =
    let f = lines_some next l in
    ap length (lines-byte b next l h ∙ ap (extend b) f.2) ∙ extend-length b f.0 f.1 ∙ ap length (sym f.2)

pub lines-count : (text : List ℕ) → length (lines_with_ends text) ≡ bytes_of line_end text + unended text
unfolding bytes_of unended lines_with_ends with_ends cut same free
lines-count [] = refl
lines-count (b ∷ l) = go (eqb b line_end) refl l (lines-count l)
  where
    go : (t : Bool) → eqb b line_end ≡ t → (l : List ℕ) → length (lines_with_ends l) ≡ bytes_of line_end l + unended l
        → length (lines_with_ends (b ∷ l)) ≡ cond t (suc (bytes_of line_end l)) (bytes_of line_end l) + unended (b ∷ l)
    go true h [] e = ap length (lines_end b [] h) ∙ omega (arith, e, ap missing h)
    go true h (next ∷ l) e = ap length (lines_end b (next ∷ l) h) ∙ omega (arith, e)
    go false h [] e = ap length (line-free b [] (ap (λ t. not t && true) h)) ∙ omega (arith, ap missing h)
    go false h (next ∷ l) e = byte-count b next l h ∙ e

count_most : (l : List ℕ) → bytes_of line_end l + unended l ≤ length l
unfolding bytes_of unended
count_most [] = omega arith
count_most (b ∷ []) = go (eqb b line_end)
  where
    go : (t : Bool) → cond t (suc 0) 0 + missing t ≤ 1
    go true = omega arith
    go false = omega arith
count_most (b ∷ next ∷ l) = go (eqb b line_end) (count_most (next ∷ l))
  where
    go : (t : Bool) → bytes_of line_end (next ∷ l) + unended (next ∷ l) ≤ suc (length l)
        → cond t (suc (bytes_of line_end (next ∷ l))) (bytes_of line_end (next ∷ l)) + unended (next ∷ l) ≤ suc (suc (length l))
    go true h = omega arith
    go false h = omega arith

pub lines_most : (text : List ℕ) → length (lines_with_ends text) ≤ length text
lines_most text = omega (arith, lines-count text, count_most text)

-- ---- one text after another

extend-append : (b : ℕ) (line : List ℕ) (lines more : List (List ℕ)) → extend b ((line ∷ lines) ++ more) ≡ extend b (line ∷ lines) ++ more
unfolding extend
extend-append b line lines more = refl

-- a text after one that ends in byte 10, or is empty
pub lines-append : (before text : List ℕ) → unended before ≡ 0 → lines_with_ends (before ++ text) ≡ lines_with_ends before ++ lines_with_ends text
unfolding unended lines_with_ends with_ends cut same
lines-append [] text h = refl
lines-append (b ∷ []) text h = go (eqb b line_end) refl h
  where
    go : (t : Bool) → eqb b line_end ≡ t → missing t ≡ 0 → lines_with_ends (b ∷ text) ≡ lines_with_ends (b ∷ []) ++ lines_with_ends text
    go true e z = lines_end b text e ∙ ap (λ lines. lines ++ lines_with_ends text) (sym (lines_end b [] e))
    go false e z = absurd (omega arith)
lines-append (b ∷ next ∷ before) text h = go (eqb b line_end) refl (lines-append (next ∷ before) text h)
  where
    go : (t : Bool) → eqb b line_end ≡ t → lines_with_ends (next ∷ before ++ text) ≡ lines_with_ends (next ∷ before) ++ lines_with_ends text
        → lines_with_ends (b ∷ next ∷ before ++ text) ≡ lines_with_ends (b ∷ next ∷ before) ++ lines_with_ends text
    go true e i =
        lines_end b (next ∷ before ++ text) e ∙ ap (λ lines. (line_end ∷ []) ∷ lines) i
        ∙ ap (λ lines. lines ++ lines_with_ends text) (sym (lines_end b (next ∷ before) e))
    go false e i =
        let f = lines_some next before in
        lines-byte b next (before ++ text) e ∙ ap (extend b) (i ∙ ap (λ lines. lines ++ lines_with_ends text) f.2)
        ∙ extend-append b f.0 f.1 (lines_with_ends text)
        ∙ ap (λ lines. lines ++ lines_with_ends text) (ap (extend b) (sym f.2) ∙ sym (lines-byte b next before e))

pub lines-printed : (lines : List (List ℕ)) → all_free line_end lines ≡ true
    → lines_with_ends (print_lines lines) ≡ map (λ (line : List ℕ). line ++ (line_end ∷ [])) lines
unfolding print_lines all_free lines_with_ends with_ends cut same
lines-printed [] h = refl
lines-printed (line ∷ lines) h =
    let parts = both (free line_end line) (all_free line_end lines) h in
    let whole = line ++ (line_end ∷ []) in
    ap lines_with_ends (sym (append_snoc line line_end (print_lines lines)))
    ∙ lines-append whole (print_lines lines) (unended_last line line_end)
    ∙ ap₂ ◌++◌ (line_whole line parts.0) (lines-printed lines parts.1)

-- ---- the last line

-- what follows the last byte 10
pub record LastPiece (text : List ℕ) : Type 0 where
  pub before : List ℕ
  pub first : ℕ
  pub rest : List ℕ
  pub text_is : text ≡ before ++ (first ∷ rest)
  pub ended : unended before ≡ 0
  pub whole : free line_end (first ∷ rest) ≡ true

pub last_piece : (text : List ℕ) → unended text ≡ 1 → LastPiece text
unfolding unended free
last_piece [] h = absurd (omega arith)
last_piece (b ∷ []) h = go (eqb b line_end) refl h
  where
    go : (t : Bool) → eqb b line_end ≡ t → missing t ≡ 1 → LastPiece (b ∷ [])
    go true e z = absurd (omega arith)
    go false e z = record { before = []; first = b; rest = []; text_is = refl; ended = refl; whole = ap (λ t. not t && true) e }
last_piece (b ∷ next ∷ l) h = go (last_piece (next ∷ l) h)
  where
    go : LastPiece (next ∷ l) → LastPiece (b ∷ next ∷ l)
    go p = from p.before p.text_is p.ended
      where
        from : (before : List ℕ) → next ∷ l ≡ before ++ (p.first ∷ p.rest) → unended before ≡ 0 → LastPiece (b ∷ next ∷ l)
        from [] is e = alone (eqb b line_end) refl
          where
            alone : (t : Bool) → eqb b line_end ≡ t → LastPiece (b ∷ next ∷ l)
            alone true k =
                record {
                  before = b ∷ [];
                  first = p.first;
                  rest = p.rest;
                  text_is = ap (λ m. b ∷ m) is;
                  ended = ap missing k;
                  whole = p.whole;
                }
            alone false k =
                record {
                  before = [];
                  first = b;
                  rest = p.first ∷ p.rest;
                  text_is = ap (λ m. b ∷ m) is;
                  ended = refl;
                  whole = ap₂ (λ t u. not t && u) k p.whole;
                }
        from (a ∷ before) is e =
            record {
              before = b ∷ a ∷ before;
              first = p.first;
              rest = p.rest;
              text_is = ap (λ m. b ∷ m) is;
              ended = e;
              whole = p.whole;
            }

-- the last line is the last piece
pub lines_last : {text : List ℕ} (p : LastPiece text) → lines_with_ends text ≡ lines_with_ends p.before ++ ((p.first ∷ p.rest) ∷ [])
lines_last p =
    ap lines_with_ends p.text_is ∙ lines-append p.before (p.first ∷ p.rest) p.ended
    ∙ ap (λ lines. lines_with_ends p.before ++ lines) (line-free p.first p.rest p.whole)
