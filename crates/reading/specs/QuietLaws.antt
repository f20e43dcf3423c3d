-- The verdict against the figures of an accepted drawing or check, for any total D above 0, row limit and table of types.
--     figures_not_8                            against figures within their limits no text is refused by 8
--     drawn_not_8, checked_not_8               2.14: nor against those of an accepted drawing or check with known codes
--     tight_row_quiet                          where demand 3 holds of the figures, a reading that is one of the rows is Quiet
--     drawn_row_quiet, checked_row_quiet       3.2: so it is against an accepted drawing or check of the rows
use Rattle.std.specs.Prelude.{ℕ, ◌≤◌, ◌<◌, ◌≡◌, refl, true, List, ℤ, length, take}
use Rattle.std.proofs.Common.{◌∙◌, le_trans, le_of_eq, arith}
use Rattle.integers.specs.Tests.{clash}
use Rattle.refusal.specs.Number.{outside_limits}
use Rattle.geometry.proofs.FigureLaws.{distance_cong}
use Rattle.geometry.specs.Table.{coordinate}
use Rattle.limits.specs.Limits.{budget_limit}
use Rattle.drawing.specs.Draw.{drawing}
use Rattle.checking.specs.Check.{checking}
use Rattle.ball.specs.Clauses.{Tight}
use Rattle.drawing.specs.Demand.{drawing_tight}
use Rattle.checking.specs.Demand.{checking_tight}
use Rattle.ball.specs.declared.Ball.{Ball}
use Rattle.label.specs.Label.{is_label}
use Rattle.channel.specs.Channel.{Types, codes_known}
use Rattle.channel.specs.ChannelLaws.{SoundTypes}
use Rattle.value.specs.Value.{Written}
use Rattle.value.specs.Values.{values_in_range}
use Rattle.envelope.specs.Figures.{figures_known, figures_of, drawn_figures}
use Rattle.envelope.specs.FigureLaws.{drawn-within, checked-within}
use Rattle.envelope.specs.declared.Figures.{Figures}
use Rattle.reading_line.specs.Reading.{print_reading, own_reading}
use Rattle.reading.specs.Content.{point_of, distance_of}
use Rattle.reading.specs.Verdict.{verdict_number, judged, Quiet}
use Rattle.reading.specs.VerdictLaws.{accepted_number, within_quiet, each_verdict, printed-accepted}
use Rattle.refusal.specs.Outcome.{Accepted}

-- ---- 2.14: no 8

pub figures_not_8 : (D : ℕ) (types : Types) (f : Figures) → figures_known D types f ≡ true
    → (text : List ℕ) → verdict_number (judged D types f text) ≡ outside_limits → ⊥
figures_not_8 D types f within text =
    each_verdict D types f text (λ v. verdict_number v ≡ outside_limits → ⊥)
    (λ outside. clash within outside) (λ _ h. omega arith) (λ _ h. omega arith) (λ _ _ h. omega arith) (λ _ _ _ h. omega arith)
    (λ reading _ _ _ _ _ h. omega (arith, accepted_number (distance_of D f reading.values) f.ball.scaled_squared_radius))

module _ (D : ℕ) (types : Types) (n : ℕ) (codes : List ℕ) (typed : n ≤ length codes) (k : codes_known types (take n codes) ≡ true)
    (positive : 0 < D) (limit : ℕ) (rows : List ℤ) (m : ℕ) where
  pub drawn_not_8 : (b : ℕ) → (drawing D limit rows m n b).outcome ≡ Accepted
      → (text : List ℕ) → verdict_number (judged D types (drawn_figures n codes (drawing D limit rows m n b)) text) ≡ outside_limits → ⊥
  drawn_not_8 b h =
      figures_not_8 D types (drawn_figures n codes (drawing D limit rows m n b)) (drawn-within D types n codes typed k positive limit rows m b h)

  pub checked_not_8 : (ws : List ℕ) (moves : ℕ) → (checking D limit rows m n ws).outcome ≡ Accepted → moves ≤ budget_limit
      → (text : List ℕ) → verdict_number (judged D types (figures_of n codes (checking D limit rows m n ws).ball moves) text) ≡ outside_limits → ⊥
  checked_not_8 ws moves h b =
      figures_not_8 D types (figures_of n codes (checking D limit rows m n ws).ball moves)
      (checked-within D types n codes typed k positive limit rows m ws moves h b)

-- ---- 3.2: its own rows are Quiet

module _ (D : ℕ) (types : Types) (types_sound : SoundTypes types) (n : ℕ) (codes : List ℕ)
    (label : List ℕ) (labelled : is_label label ≡ true) (values : List Written) (complete : length values ≡ n)
    (in_ranges : values_in_range types (take n codes) values ≡ true) where
  -- the text of the reading
  abbrev text : List ℕ
  text = print_reading (own_reading types (take n codes) label values)

  pub tight_row_quiet : (ball : Ball) (moves : ℕ) → figures_known D types (figures_of n codes ball moves) ≡ true
      → (m : ℕ) (a : ℕ → ℕ → ℤ) → Tight D m n a ball → (i : ℕ) → i < m → ((j : ℕ) → j < n → point_of values j ≡ a i j)
      → judged D types (figures_of n codes ball moves) text ≡ Quiet
  tight_row_quiet ball moves within m a t i l e =
      let f = figures_of n codes ball moves in
      printed-accepted D types f types_sound within label values labelled complete in_ranges
      ∙ within_quiet (distance_of D f values) ball.scaled_squared_radius
      (le_trans (le_of_eq (distance_cong D n (λ j h. refl) e)) (t.every_row i l))

  module _ (typed : n ≤ length codes) (k : codes_known types (take n codes) ≡ true) (positive : 0 < D) (limit : ℕ) (rows : List ℤ) (m i : ℕ)
      (l : i < m) (e : (j : ℕ) → j < n → point_of values j ≡ coordinate rows n i j) where
    pub drawn_row_quiet : (b : ℕ) → (drawing D limit rows m n b).outcome ≡ Accepted
        → judged D types (drawn_figures n codes (drawing D limit rows m n b)) text ≡ Quiet
    drawn_row_quiet b h =
        let r = drawing D limit rows m n b in
        tight_row_quiet r.ball r.moves (drawn-within D types n codes typed k positive limit rows m b h)
        m (coordinate rows n) (drawing_tight D limit rows m n b h positive) i l e

    pub checked_row_quiet : (ws : List ℕ) (moves : ℕ) → (checking D limit rows m n ws).outcome ≡ Accepted → moves ≤ budget_limit
        → judged D types (figures_of n codes (checking D limit rows m n ws).ball moves) text ≡ Quiet
    checked_row_quiet ws moves h b =
        tight_row_quiet (checking D limit rows m n ws).ball moves (checked-within D types n codes typed k positive limit rows m ws moves h b)
        m (coordinate rows n) (checking_tight D limit rows m n ws h positive) i l e
