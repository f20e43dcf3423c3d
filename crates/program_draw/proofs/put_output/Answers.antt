-- A refusal prints nothing, so that its line is printed in place of a record.
use mathlib.Core.Path.{◌≡◌, refl, sym, ap, subst, ◌∙◌}
use Prim.Native.Nat.{ℕ}
use mathlib.Core.List.{List}
use Rattle.printing.specs.Clauses.{Put}
use Rattle.printing.specs.ContractLaws.{put_as}
use Rattle.program_lines.specs.Lines.{print_refusal}
use Rattle.program_draw.proofs.put_output.Goals as goal

-- what is printed over a slice as it was
printed_over : {printed output out₀ out out' : List ℕ} {r : ℕ} → out ≡ out₀ → printed ≡ output → Put printed out 0 out' r → Put output out₀ 0 out' r
printed_over {printed} {output} {out₀} {out} {out'} {r} same is f = put_as (subst (λ (o : List ℕ). Put printed o 0 out' r) same f) is refl

pub returns-in-Err : goal.returns-in-Err
returns-in-Err c =
    let refused = c.in-Err.ensures in
    printed_over refused.0 (ap (λ k. print_refusal k c.in-Err.refusal.line) c.number.ensures ∙ sym refused.1) c.put_refusal.ensures.line
