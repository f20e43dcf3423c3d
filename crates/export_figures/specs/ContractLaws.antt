-- Laws of figures that are given.
--     answer_taken, answer-refused     a call's answer where the ending that is given is one of the two, and where it is not
use Rattle.std.specs.Prelude.{ℕ, ◌≡◌, Bool, true, false, List, ℤ}
use Rattle.std.proofs.Common.{sym, ap, ◌∙◌}
use Rattle.refusal.specs.Outcome.{require}
use Rattle.envelope.specs.Clauses.{lent_figures}
use Rattle.envelope.specs.declared.Figures.{Figures}
use Rattle.envelope.specs.declared.Scalars.{Scalars}
use Rattle.export_figures.specs.Clauses.{ending_known, scalars_given, figures_given, answer_given}
use Rattle.export_figures.specs.declared.FiguresGiven.{FiguresGiven}

module _ (given : FiguresGiven) (codes : List ℕ) (scaled_centre : List ℤ) {A : Type 0} (answer : Figures → A) (refusal : A) where
  chosen : {b : Bool} → ending_known given ≡ b
      → require b refusal (λ _. answer (figures_given given codes scaled_centre)) ≡ answer_given answer refusal given codes scaled_centre
  chosen e = ap (λ (b : Bool). require b refusal (λ _. answer (figures_given given codes scaled_centre))) (sym e)

  pub answer_taken : {s : Scalars} {r : A} → ending_known given ≡ true → s ≡ scalars_given given
      → r ≡ answer (lent_figures s codes scaled_centre) → r ≡ answer_given answer refusal given codes scaled_centre
  answer_taken h is e = e ∙ ap (λ (s : Scalars). answer (lent_figures s codes scaled_centre)) is ∙ chosen h

  pub answer-refused : {r : A} → ending_known given ≡ false → r ≡ refusal → r ≡ answer_given answer refusal given codes scaled_centre
  answer-refused h e = e ∙ chosen h
