-- The line is an `R` line where it starts with the word and three numbers, the rest is one of the two letters, and the moves are
-- within their limit. An i64 keeps a number within the limit as it is and one above it above, so that each test decides as it would
-- of the number itself.
use Prim.Native.Nat.{ℕ, ◌-◌}
use mathlib.Core.Path.{◌≡◌, sym, ap, ◌∙◌}
use mathlib.Core.Bool.{Bool}
use mathlib.Core.List.{List}
use mathlib.Core.Option.{some}
use borrow.Author.Rules.{part_to_end}
use lib.ListN.{length, take, drop}
use Rattle.text.specs.Parts.{same}
use Rattle.record_lines.specs.Lines.{settled_letter, budget_letter}
use Rattle.record_lines.specs.Clauses.{result_read}
use Rattle.record_lines.proofs.ResultSteps.{ending_in, ending_settled, ending_budget, result_no_numbers, result_short, result_below, result_above, result_no_letter, result_held, result_read_lem}
use Rattle.record_lines.proofs.line.read_result.Goals as goal
use Rattle.record_lines.proofs.line.read_result.Goals.{
  else-not-settled-via-then-not-settled+else-not-same_bytes,
  else-not-settled-via-else-not-settled,
  then-moves-lt0-via-then-moves-lt0,
  then-moves-lt0-via-else-moves-lt0+then-moves,
}

-- what stands after the numbers, compared with a letter
compared : (line : List ℕ) (next : ℕ) (letter : List ℕ) {r : Bool}
    → r ≡ same (take (length line - next) (drop next line)) letter → same (drop next line) letter ≡ r
compared line next letter e = sym (e ∙ ap (λ l. same l letter) (part_to_end line next))

pub returns-in_err-next : goal.returns-in_err-next
returns-in_err-next c = c.from_residual.ensures ∙ sym (ap result_read (result_no_numbers c.in_err-next.ensures))

pub returns-then-line-next : goal.returns-then-line-next
returns-then-line-next c = sym (ap result_read (result_short c.in_ok-next.ensures c.if-line-next.true))

pub returns-then-not-same_bytes : goal.returns-then-not-same_bytes
returns-then-not-same_bytes c =
    sym (ap result_read (result_no_letter c.in_ok-next.ensures c.if-line-next.false
    (compared c.args.line.now c.in_ok-next.next settled_letter c.same_bytes-settled.ensures ∙ c.if-not-settled.true)
    (compared c.args.line.now c.in_ok-next.next budget_letter c.same_bytes.ensures ∙ c.if-not-same_bytes.true)))

pub returns-then-moves-lt0 : goal.returns-then-moves-lt0
returns-then-moves-lt0 c =
    elim c.then-moves-lt0.branch [
      | then-moves-lt0-via-then-moves-lt0 w ↦ sym (ap result_read (result_below c.in_ok-next.ensures w.if-moves-lt0.true))
      | then-moves-lt0-via-else-moves-lt0+then-moves w ↦ sym (ap result_read (result_above c.in_ok-next.ensures w.if-moves.true))
    ]

pub returns : goal.returns
returns c =
    let line = c.args.line.now in
    let next = c.in_ok-next.next in
    let settled = compared line next settled_letter c.same_bytes-settled.ensures in
    let ending : ending_in (drop next line) ≡ some c.same_bytes-settled.result =
    elim c.else-not-settled.branch [
      | else-not-settled-via-then-not-settled+else-not-same_bytes w ↦
          ending_budget _ _ settled w.if-not-settled.true (compared line next budget_letter w.same_bytes.ensures ∙ w.if-not-same_bytes.false)
      | else-not-settled-via-else-not-settled w ↦ ending_settled _ _ settled w.if-not-settled.false
    ] in
    result_read_lem (result_held c.in_ok-next.ensures c.if-line-next.false _ ending c.if-moves-lt0.false c.if-moves.false)
