-- The `R` line is passed by what its reader answers, so that the text is known from the `W` lines on; each return is the first line
-- that is at fault, or what these lines state beside the figures given.
use Prim.Native.Nat.{ℕ, ◌+◌, ◌≤◌}
use mathlib.Core.Path.{◌≡◌, sym, ap}
use mathlib.Core.List.{List}
use mathlib.Core.Option.{some}
use lib.ListN.{length}
use Rattle.std.proofs.lemmas.Result.{err_from_is_err_and}
use Rattle.text.specs.Parts.{line_end}
use Rattle.text.specs.Clauses.{PartEnd}
use lib.IntN.{ℤ}
use Rattle.text.specs.PartsLaws.{part_at}
use Rattle.record_lines.specs.Lines.{Result, result_line}
use Rattle.record_form.specs.Clauses.{stated_form}
use Rattle.record_form.proofs.FormSteps.{AtWeights, line-unended, line_read_lem, at_result, no_result, in_form, weights_faulty, rest-stated}
use Rattle.record_form.proofs.form.read_after_centre.Goals as goal

-- the text past an `R` line in form
past_result : (codes : List ℕ) (X : List ℤ) {text : List ℕ} {at end : ℕ} {s : Result} → at ≤ length text → PartEnd line_end text at end
    → (end ≡ length text → ⊥) → result_line (part_at text at end) ≡ some s → AtWeights codes X text at s (end + 1)
past_result codes X {text} {at} inside p q r = record { is = line_read_lem (at_result codes X text at inside) p q r }

pub returns-then-end-text : goal.returns-then-end-text
returns-then-end-text c =
    record {
      is = λ codes X count tags point.
          let here = at_result codes X _ _ c.requires in
          ap stated_form (sym (line-unended here c.line_end-end.ensures c.if-end-text.true));
    }

pub returns-in_default : goal.returns-in_default
returns-in_default c =
    let none = no_result _ c.in_default.ensures in
    record {
      is = λ codes X count tags point.
          let here = at_result codes X _ _ c.requires in
          ap stated_form (sym (line_read_lem here c.line_end-end.ensures c.if-end-text.false none));
    }

pub returns-in_err-read_weights : goal.returns-in_err-read_weights
returns-in_err-read_weights c =
    let result = in_form _ c.in-Some.ensures in
    let p = err_from_is_err_and c.from_residual.result c.from_residual.ensures.1 in
    rw (p.1, p.2)
    (record {
      is = λ codes X count tags point.
          let here = past_result codes X c.requires c.line_end-end.ensures c.if-end-text.false result.1 in
          ap stated_form (sym (weights_faulty here c.in_err-read_weights.ensures));
    })

pub returns : goal.returns
returns c =
    let result = in_form _ c.in-Some.ensures in
    record {
      is = λ codes X count tags point.
          let here = past_result codes X c.requires c.line_end-end.ensures c.if-end-text.false result.1 in
          rest-stated here c.in_ok-read_weights.ensures result.2 count tags point;
    }
