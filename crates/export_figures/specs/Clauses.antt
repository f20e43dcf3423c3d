-- The figures of an envelope as they are given in numbers and lent slices.
--     ending_known given                            the ending is one of the two
--     scalars_given given                           the single numbers that are given
--     figures_given given codes X                   the figures that are given
--     answer_given answer refusal given codes X     a call's answer to what is given, and its refusal where the ending is not known
use Rattle.std.specs.Prelude.{ℕ, Bool, List, eqb, leb, ℤ}
use Rattle.refusal.specs.Outcome.{require}
use Rattle.envelope.specs.Clauses.{lent_figures}
use Rattle.envelope.specs.declared.Figures.{Figures}
use Rattle.envelope.specs.declared.Scalars.{Scalars}
use Rattle.export_figures.specs.declared.FiguresGiven.{FiguresGiven}

abbrev pub ending_known : FiguresGiven → Bool
ending_known given = leb given.settled 1

abbrev pub scalars_given : FiguresGiven → Scalars
scalars_given given =
    record {
      n = given.n;
      scaled_squared_radius = given.scaled_squared_radius;
      scaled_lower_bound = given.scaled_lower_bound;
      settled = eqb given.settled 1;
      moves = given.moves;
    }

-- of the lent codes and X the first n places count
abbrev pub figures_given : FiguresGiven → List ℕ → List ℤ → Figures
figures_given given = lent_figures (scalars_given given)

-- an ending outside its two values is 8, which each call answers in its own form
abbrev pub answer_given : {A : Type 0} → (Figures → A) → A → FiguresGiven → List ℕ → List ℤ → A
answer_given answer refusal given codes scaled_centre =
    require (ending_known given) refusal (λ _.
    answer (figures_given given codes scaled_centre))
