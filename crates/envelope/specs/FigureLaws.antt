-- Laws of an envelope's figures, for any total D and table of types.
--     Within D f                          each limit on the figures, as a fact
--     within-figures, figures_within_lem      the test of the limits, as the record
--     figures-refused                     a limit that is not kept
--     Coded types f                       a known code for each channel, as facts
--     known-within, known_coded           both tests, as the records
--     figures-known, known-refused        the records, as both tests; a limit that is not kept
--     lent_places, lent_known             the places that known figures of lent codes and X have; the test of the limits, past the other tests
--     own_lent                            what is answered to figures whose own codes and X are lent is answered to the figures
--     within_centre                       X of figures within their limits, as the numeric functions ask for it at the total that the
--                                         contracts fix
--     tight_within                        2.14: the figures of a ball of which demand 3 holds are within their limits
--     drawn-within, checked-within        those of an accepted drawing and of an accepted check are within their limits, with known codes
use Rattle.std.specs.Prelude.{ℕ, ◌≤◌, ◌<◌, ◌≡◌, Bool, List, ℤ, nat_abs, take}
use Rattle.std.proofs.Math.Path.{refl, sym, ap, ap₂}
use Rattle.std.proofs.Common.{◌∙◌, le_trans, arith}
use Rattle.std.proofs.Math.Bool.{true, false, ◌&&◌}
use borrow.Author.Tests.{leb-true, le-leb}
use Rattle.std.proofs.Math.Dec.{leb}
use Rattle.std.proofs.Math.ListN.{length}
use Rattle.integers.specs.Tests.{both, refuted, range_in}
use Rattle.geometry.specs.Table.{coordinate, places_within}
use Rattle.limits.specs.Limits.{total, channel_limit, centre_limit, distance_limit, budget_limit}
use Rattle.geometry.specs.Clauses.{CentreWithin}
use Rattle.geometry.specs.Places.{centre_of}
use Rattle.geometry.specs.PlacesLaws.{length_centre_list}
use Rattle.geometry.specs.TableLaws.{places_within_at, places_within_by, within_limits}
use Rattle.ball.specs.Ball.{ball_of}
use Rattle.drawing.specs.Draw.{drawing, DrawingOutcome}
use Rattle.checking.specs.Check.{checking, Checked}
use Rattle.checking.specs.CheckLaws.{checking-checked}
use Rattle.ball.specs.Clauses.{Tight}
use Rattle.drawing.specs.Demand.{drawing-accepted, drawing_is, drawing_spent, drawing_tight}
use Rattle.checking.specs.Demand.{checking-accepted, checking_tight}
use Rattle.ball.specs.declared.Ball.{Ball}
use Rattle.channel.specs.Channel.{Types, codes_known}
use Rattle.envelope.specs.Figures.{channel_codes, figures_within, codes_within, figures_known, figures_of, drawn_figures}
use Rattle.envelope.specs.Clauses.{scalars_of, lent_figures, places_lent}
use Rattle.envelope.specs.declared.Figures.{Figures}
use Rattle.envelope.specs.declared.Scalars.{Scalars}
use Rattle.refusal.specs.Outcome.{Accepted}

-- ---- the limits, as a record

pub record Within (D : ℕ) (f : Figures) : Type 0 where
  pub some_channel : 1 ≤ f.n
  pub channels : f.n ≤ channel_limit
  pub places : f.n ≤ length f.ball.scaled_centre
  pub centre_limit : (k : ℕ) → k < f.n → nat_abs (centre_of f.ball.scaled_centre k) ≤ centre_limit D
  pub radius_limit : f.ball.scaled_squared_radius ≤ distance_limit D
  pub floor_limit : f.ball.scaled_lower_bound ≤ distance_limit D
  pub moves_limit : f.moves ≤ budget_limit

module _ (D : ℕ) (f : Figures) where
  pub within-figures : figures_within D f ≡ true → Within D f
  unfolding figures_within
  within-figures h =
      let x = f.ball.scaled_centre in
      let M = f.ball.scaled_squared_radius in
      let L = f.ball.scaled_lower_bound in
      let count = leb 1 f.n && leb f.n channel_limit in
      let held = leb f.n (length x) in
      let centre = places_within (centre_limit D) f.n x in
      let distances = leb M (distance_limit D) && leb L (distance_limit D) in
      let moves = leb f.moves budget_limit in
      let first = both count (held && (centre && (distances && moves))) h in
      let second = both held (centre && (distances && moves)) first.1 in
      let third = both centre (distances && moves) second.1 in
      let fourth = both distances moves third.1 in
      let counts = both (leb 1 f.n) (leb f.n channel_limit) first.0 in
      let limits = both (leb M (distance_limit D)) (leb L (distance_limit D)) fourth.0 in
      record {
        some_channel = leb-true 1 f.n counts.0;
        channels = leb-true f.n channel_limit counts.1;
        places = leb-true f.n (length x) second.0;
        centre_limit = places_within_at (centre_limit D) x f.n third.0;
        radius_limit = leb-true M (distance_limit D) limits.0;
        floor_limit = leb-true L (distance_limit D) limits.1;
        moves_limit = leb-true f.moves budget_limit fourth.1;
      }

  pub figures-refused : (Within D f → ⊥) → false ≡ figures_within D f
  figures-refused h = refuted (figures_within D f) (λ e. h (within-figures e))

  pub figures_within_lem : Within D f → figures_within D f ≡ true
  unfolding figures_within
  figures_within_lem w =
      let limit = distance_limit D in
      let x = f.ball.scaled_centre in
      ap₂ ◌&&◌ (range_in 1 channel_limit f.n w.some_channel w.channels)
      (ap₂ ◌&&◌ (le-leb f.n (length x) w.places)
      (ap₂ ◌&&◌ (places_within_by (centre_limit D) x f.n w.centre_limit)
      (ap₂ ◌&&◌
      (ap₂ ◌&&◌ (le-leb f.ball.scaled_squared_radius limit w.radius_limit)
      (le-leb f.ball.scaled_lower_bound limit w.floor_limit))
      (le-leb f.moves budget_limit w.moves_limit))))

-- ---- the codes, as a record

pub record Coded (types : Types) (f : Figures) : Type 0 where
  pub typed : f.n ≤ length f.codes
  pub each_known : codes_known types (channel_codes f) ≡ true

-- ---- both

module _ (D : ℕ) (types : Types) (f : Figures) where
  module _ (h : figures_known D types f ≡ true) where
    tests : (figures_within D f ≡ true) × (codes_within types f ≡ true)
    unfolding figures_known
    tests = both (figures_within D f) (codes_within types f) h

    pub known-within : Within D f
    known-within = within-figures D f tests.0

    pub known_coded : Coded types f
    unfolding codes_within
    known_coded =
        let parts = both (leb f.n (length f.codes)) (codes_known types (channel_codes f)) tests.1 in
        record { typed = leb-true f.n (length f.codes) parts.0; each_known = parts.1 }

  pub known-refused : (Within D f → ⊥) → false ≡ figures_known D types f
  known-refused h = refuted (figures_known D types f) (λ e. h (known-within e))

  pub figures-known : Within D f → Coded types f → figures_known D types f ≡ true
  unfolding figures_known codes_within
  figures-known w c =
      ap₂ ◌&&◌ (figures_within_lem D f w) (ap₂ ◌&&◌ (le-leb f.n (length f.codes) c.typed) c.each_known)

-- ---- figures of which codes and X are lent

module _ (D : ℕ) (types : Types) (s : Scalars) (codes : List ℕ) (X : List ℤ) where
  pub lent_places : figures_known D types (lent_figures s codes X) ≡ true → places_lent s.n codes X ≡ true
  lent_places h =
      let f = lent_figures s codes X in
      ap₂ ◌&&◌ (le-leb s.n (length codes) (known_coded D types f h).typed) (le-leb s.n (length X) (known-within D types f h).places)

  pub lent_known : codes_known types (take s.n codes) ≡ true → s.n ≤ length codes
      → figures_within D (lent_figures s codes X) ≡ figures_known D types (lent_figures s codes X)
  unfolding figures_known codes_within
  lent_known known typed =
      let within = figures_within D (lent_figures s codes X) in
      sym (ap₂ (λ (coded each : Bool). within && (coded && each)) (le-leb s.n (length codes) typed) known ∙ holds within)
    where
      holds : (b : Bool) → (b && true) ≡ b
      holds true = refl
      holds false = refl

pub own_lent : {A : Type 0} (answer : Figures → A) (f : Figures) {s : Scalars} {r : A} → s ≡ scalars_of f
    → r ≡ answer (lent_figures s f.codes f.ball.scaled_centre) → r ≡ answer f
own_lent answer f own is = is ∙ ap (λ (s : Scalars). answer (lent_figures s f.codes f.ball.scaled_centre)) own

-- what the numeric functions ask of X
pub within_centre : {f : Figures} → Within total f → CentreWithin f.n f.ball.scaled_centre
within_centre w = record { places = w.places; bound = w.centre_limit }

-- ---- 2.14: the figures that are handed out are within their limits

module _ (D : ℕ) (types : Types) (n : ℕ) (codes : List ℕ) (typed : n ≤ length codes) (k : codes_known types (take n codes) ≡ true) where
  pub tight_within : (m : ℕ) (a : ℕ → ℕ → ℤ) (ball : Ball) (moves : ℕ) → Tight D m n a ball → n ≤ length ball.scaled_centre
      → 1 ≤ n → n ≤ channel_limit → moves ≤ budget_limit → figures_known D types (figures_of n codes ball moves) ≡ true
  tight_within m a ball moves t places some most b =
      figures-known D types (figures_of n codes ball moves)
      record {
        some_channel = some;
        channels = most;
        places = places;
        centre_limit = λ j _. t.centre_limit j;
        radius_limit = t.radius_limit;
        floor_limit = le_trans t.floor t.radius_limit;
        moves_limit = b;
      }
      record { typed = typed; each_known = k }

  module _ (positive : 0 < D) (limit : ℕ) (rows : List ℤ) (m : ℕ) where
    pub drawn-within : (b : ℕ) → (drawing D limit rows m n b).outcome ≡ Accepted
        → figures_known D types (drawn_figures n codes (drawing D limit rows m n b)) ≡ true
    unfolding ball_of
    drawn-within b h =
        let r = drawing D limit rows m n b in
        let accepted = drawing-accepted D limit rows m n b h in
        let table = within_limits limit rows m n accepted.0 in
        let eight : length r.ball.scaled_centre ≡ channel_limit =
        ap (λ (d : DrawingOutcome). length d.ball.scaled_centre) (drawing_is D limit rows m n b h) ∙ length_centre_list n _ in
        tight_within m (coordinate rows n) r.ball r.moves (drawing_tight D limit rows m n b h positive)
        (omega (arith, eight, table.channels)) table.some_channel table.channels
        (le_trans (drawing_spent D limit rows m n b h).0 accepted.1)

    pub checked-within : (ws : List ℕ) (moves : ℕ) → (checking D limit rows m n ws).outcome ≡ Accepted → moves ≤ budget_limit
        → figures_known D types (figures_of n codes (checking D limit rows m n ws).ball moves) ≡ true
    unfolding ball_of
    checked-within ws moves h b =
        let r = checking D limit rows m n ws in
        let accepted = checking-accepted D limit rows m n ws h in
        let table = within_limits limit rows m n accepted.0 in
        let eight : length r.ball.scaled_centre ≡ channel_limit =
        ap (λ (d : Checked). length d.ball.scaled_centre)
        (checking-checked D limit rows m n ws accepted.0 accepted.1 accepted.2) ∙ length_centre_list n _ in
        tight_within m (coordinate rows n) r.ball moves (checking_tight D limit rows m n ws h positive)
        (omega (arith, eight, table.channels)) table.some_channel table.channels b
