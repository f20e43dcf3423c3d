-- The codes and X are the places that are lent, over 0, beside the numbers that are given.
use Prim.Native.Nat.{ℕ}
use mathlib.Core.Path.{◌≡◌}
use mathlib.Core.List.{List}
use lib.IntN.{ℤ}
use Rattle.ball.specs.Ball.{filled_ball}
use Rattle.envelope.specs.Figures.{figures_of}
use Rattle.envelope.specs.declared.Figures.{Figures}
use Rattle.envelope.specs.declared.Scalars.{Scalars}
use Rattle.export_figures.specs.Clauses.{scalars_given, figures_given}
use Rattle.export_figures.specs.declared.FiguresGiven.{FiguresGiven}
use Rattle.export_record.proofs.figures_kept.Goals as goal

-- the figures r that are made of the parts s, codes and X
made : (given : FiguresGiven) {s : Scalars} {codes codes' : List ℕ} {X X' : List ℤ} {r : Figures} → s ≡ scalars_given given
    → codes ≡ codes' → X ≡ X' → r ≡ figures_of given.n codes (filled_ball X s.scaled_squared_radius s.scaled_lower_bound s.settled) s.moves
    → r ≡ figures_given given codes' X'
made given numbers coded placed figures = cc

pub returns : goal.returns
returns c = made c.args.given c.scalars-scalars.ensures c.fill.ensures c.centre_kept-kept_centre.ensures c.new.ensures
