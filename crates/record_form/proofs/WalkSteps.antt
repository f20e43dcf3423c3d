-- The `W` lines of a record that are read one by one.
--     WeightsSoFar, weights_none, weights_next           the weights as they are read
--     weight_rises                                       a line's row
--     weights-unended, weights_other, weights-missing    what stops their walk
--     weights_done                                       what it ends with
use Prim.Native.Nat.{ℕ, suc, ◌+◌, ◌-◌, ◌≤◌, ◌<◌}
use mathlib.Core.Path.{◌≡◌, refl, sym, ap, ap₂, ◌∙◌}
use mathlib.Core.Bool.{cond}
use mathlib.Core.List.{List, [], ◌∷◌}
use mathlib.Core.Option.{Option, none, some}
use Rattle.std.specs.Prelude.{None, Some, Ok, Err}
use native.Mathlib.Numerals.{add-one}
use native.Mathlib.Omega.{arith}
use borrow.Author.Tests.{le-leb, lt-leb}
use lib.Dec.{leb}
use lib.ListN.{length, set, length-set}
use Rattle.integers.specs.Tests.{impossible}
use Rattle.limits.specs.Limits.{row_limit}
use Rattle.text.specs.Parts.{line_end, same, parts_from}
use Rattle.text.specs.Clauses.{PartEnd}
use Rattle.text.specs.PartsLaws.{part_at, last_empty, last_some, followed}
use Rattle.record_lines.specs.Lines.{Weight, weight_line}
use Rattle.record_lines.specs.LinesLaws.{weight_within_lem, weight_printed}
use Rattle.record_form.specs.Record.{Form, faulty, sound, and_line, with_weight, weights_from}
use Rattle.record_form.specs.Weights.{placed_in}
use Rattle.record_lines.specs.Clauses.{held_weight, weight_read}
use Rattle.record_form.specs.Clauses.{held_weights, weights_fault, WeightsRead}
use Rattle.record_lines.specs.declared.line.WeightLine.{WeightLine}

weight_past_lem : (last : ℕ) (line : List ℕ) (w : Weight) → weight_line row_limit last line ≡ some w → (last < w.row) × (w.row ≤ row_limit)
weight_past_lem last line w e =
    let within = weight_within_lem row_limit last w (weight_printed row_limit last line w e).1 in
    (within.0, within.1)

-- what a record keeps of a `W` line
abbrev weight_kept : Weight → WeightLine
weight_kept w = record { row = w.row; weight = held_weight w.weight }

-- before a line: the whole is faulty where what is left is; where what is left is sound, so is the whole, and the places now with the
-- weights left are the lent places with all weights. Rows rise, so that there are no more lines than the last row's number
pub record WeightsSoFar (text : List ℕ) (at : ℕ) (lent₀ lent : List ℕ) (from last line : ℕ) : Type 0 where
  pub inside : from ≤ length text
  pub most : last ≤ row_limit
  pub lines : line ≤ 4 + last
  pub places : length lent ≡ length lent₀
  pub stops : (l : ℕ) → weights_from row_limit line last (parts_from line_end text from) ≡ faulty l
      → weights_from row_limit 4 0 (parts_from line_end text at) ≡ faulty l
  pub ends : (ws : List Weight) → weights_from row_limit line last (parts_from line_end text from) ≡ sound ws
      → (all : List Weight) × (weights_from row_limit 4 0 (parts_from line_end text at) ≡ sound all)
      × (placed_in lent₀ (held_weights all) ≡ placed_in lent (held_weights ws))

pub weights_none : (text : List ℕ) (at : ℕ) (lent : List ℕ) → at ≤ length text → WeightsSoFar text at lent lent at 0 4
weights_none text at lent h =
    record {
      inside = h;
      most = omega arith;
      lines = omega arith;
      places = refl;
      stops = λ l e. e;
      ends = λ ws e. (ws, e, refl);
    }

module _ {text : List ℕ} {at : ℕ} {lent₀ lent : List ℕ} {from last line : ℕ} (w : WeightsSoFar text at lent₀ lent from last line) where
  abbrev left : Form (List Weight)
  left = weights_from row_limit line last (parts_from line_end text from)

  fault : left ≡ faulty line → WeightsRead text at lent₀ lent (Err line)
  fault e =
      let whole = w.stops line e in
      record {
        is = sym (ap weights_fault whole);
        same_length = w.places;
        written = λ ws u. impossible (cc);
      }

  -- ---- no line is left

  no_line : length text ≤ from → left ≡ cond (leb 1 last) (sound []) (faulty line)
  unfolding weights_from same
  no_line h = ap (weights_from row_limit line last) (last_empty line_end text from (omega (arith, w.inside)))

  pub weights-missing : length text ≤ from → last ≡ 0 → WeightsRead text at lent₀ lent (Err line)
  weights-missing h z = fault (no_line h ∙ ap (λ t. cond t (sound []) (faulty line)) (lt-leb 1 last (omega arith)))

  pub weights_done : length text ≤ from → (last ≡ 0 → ⊥) → WeightsRead text at lent₀ lent (Ok tt)
  unfolding placed_in held_weights
  weights_done h z =
      let whole = w.ends [] (no_line h ∙ ap (λ t. cond t (sound []) (faulty line)) (le-leb 1 last (omega arith))) in
      record {
        is = sym (ap weights_fault whole.1);
        same_length = w.places;
        written = λ ws u.
            let all : whole.0 ≡ ws = cc whole.1 in
            sym whole.2 ∙ ap (λ l. placed_in lent₀ (held_weights l)) all;
      }

  -- ---- a line

  pub weights-unended : {e : ℕ} → from < length text → PartEnd line_end text from e → e ≡ length text → WeightsRead text at lent₀ lent (Err line)
  unfolding weights_from same
  weights-unended {e} h p q = fault (ap (weights_from row_limit line last) (last_some line_end text from e h p q))

  module _ {e : ℕ} (p : PartEnd line_end text from e) (q : e ≡ length text → ⊥) where
    abbrev stated : Option Weight
    stated = weight_line row_limit last (part_at text from e)

    abbrev after : List (List ℕ) → Weight → Form (List Weight)
    after parts s = with_weight s (weights_from row_limit (suc line) s.row parts)

    this_line : {o : Option Weight} → stated ≡ o → left ≡ and_line line o (after (parts_from line_end text (e + 1)))
    unfolding weights_from
    this_line o =
        let f = followed line_end text from e w.inside p q in
        ap (weights_from row_limit line last) f.is ∙ ap₂ (λ o k. and_line line o (after k)) o (sym f.after)

    pub weights_other : None ≡ weight_read stated → WeightsRead text at lent₀ lent (Err line)
    weights_other r = go stated refl
      where
        go : (o : Option Weight) → stated ≡ o → WeightsRead text at lent₀ lent (Err line)
        go none f = fault (this_line f)
        go (some s) f = impossible (cc (r ∙ ap weight_read f))

    module _ {read : WeightLine} (r : Some read ≡ weight_read stated) where
      -- what the line states
      record Found : Type 0 where
        weight : Weight
        is : stated ≡ some weight
        kept : read ≡ weight_kept weight

      found : Found
      found = go stated refl
        where
          go : (o : Option Weight) → stated ≡ o → Found
          go none f = impossible (cc (r ∙ ap weight_read f))
          go (some s) f = record { weight = s; is = f; kept = cc (r ∙ ap weight_read f) }

      row_is : read.row ≡ found.weight.row
      row_is = ap (λ (r : WeightLine). r.row) found.kept

      -- rows rise within the limit
      pub weight_rises : (last < read.row) × (read.row ≤ row_limit)
      weight_rises =
          let within = weight_past_lem last (part_at text from e) found.weight found.is in
          (omega (arith, row_is, within.0), omega (arith, row_is, within.1))

      pub weights_next : WeightsSoFar text at lent₀ (set lent (read.row - 1) read.weight) (e + 1) read.row (line + 1)
      unfolding placed_in held_weights
      weights_next =
          let s = found.weight in
          let on : left ≡ with_weight s (weights_from row_limit (line + 1) read.row (parts_from line_end text (e + 1))) =
          this_line found.is
          ∙ ap₂ (λ l r. with_weight s (weights_from row_limit l r (parts_from line_end text (e + 1)))) (sym (add-one line)) (sym row_is) in
          record {
            inside = omega (arith, p.high);
            most = weight_rises.1;
            lines = omega (arith, w.lines, weight_rises.0);
            places = length-set lent (read.row - 1) read.weight ∙ w.places;
            stops = λ l f. w.stops l (on ∙ ap (with_weight s) f);
            ends = λ ws f.
                let whole = w.ends (s ∷ ws) (on ∙ ap (with_weight s) f) in
                let placed : placed_in lent₀ (held_weights whole.0) ≡ placed_in (set lent (read.row - 1) read.weight) (held_weights ws) =
                whole.2 ∙ ap (λ (r : WeightLine). placed_in (set lent (r.row - 1) r.weight) (held_weights ws)) (sym found.kept) in
                (whole.0, whole.1, placed);
          }
