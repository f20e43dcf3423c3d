-- The mark of an envelope on a chart, for any total D, table of types, figures and channels.
--     channel_known         a channel within is one from 1 to n
--     disc_of               an M above 0 has a disc
--     chart_marks           figures and channels within limits have the mark of M and the centre
--     refuses_figures       8 for a figure outside its limits
--     refuses_horizontal    8 for the first channel outside the n
--     refuses_vertical      8 for the second
--     Shows D M x y mark    what the mark shows of M and of x and y, X of the chart's two channels
--     accepts, accepted     a chart is accepted exactly when figures and channels are within limits
--     chart_shows           2.12: an accepted chart shows this, for a total that is a power of two up to 65,536
use Prim.Native.Nat.{ℕ, zero, suc, ◌-◌, ◌*◌, ◌^◌, ◌≤◌, ◌<◌}
use Rattle.std.specs.Prelude.{◌≡◌, ◌≢◌, Bool, true, false, ◌&&◌, leb, ℤ, pos, nat_abs}
use Rattle.std.proofs.Math.Path.{refl, ap}
use Rattle.std.proofs.Common.{sym, ◌∙◌, subst, arith, leb-true, lit<}
use Rattle.std.proofs.Math.Nat.{zero-mul, pow-le-pow_right}
use Rattle.std.proofs.Math.Decide.{dec_lt}
use Rattle.integers.specs.Tests.{both, nonzero}
use Rattle.refusal.specs.Number.{outside_limits}
use Rattle.refusal.specs.Outcome.{require}
use Rattle.limits.specs.Limits.{total}
use Rattle.channel.specs.Channel.{Types}
use Rattle.envelope.specs.Figures.{figures_known}
use Rattle.envelope.specs.FigureLaws.{known-within}
use Rattle.envelope.specs.declared.Figures.{Figures}
use Rattle.chart.specs.Fraction.{fraction_of}
use Rattle.chart.specs.FractionLaws.{Exact, fraction_exact}
use Rattle.chart.specs.Root.{ceiling_root}
use Rattle.chart.specs.RootLaws.{root_reaches, root_smallest, root_most}
use Rattle.chart.specs.Mark.{refused_mark, mark_number, mark_point, mark_radius, channel_within, channel_centre, projected_centre, mark_of, chart_mark, MarkOutcome, Dot, Disc}
use Rattle.chart.specs.declared.Point.{Point}

pub channel_known : (n channel : ℕ) → channel_within n channel ≡ true → (1 ≤ channel) × (channel ≤ n)
channel_known n channel e =
    let parts = both (leb 1 channel) (leb channel n) e in
    (leb-true 1 channel parts.0, leb-true channel n parts.1)

and-false : (a : Bool) {b : Bool} → b ≡ false → (a && b) ≡ false
and-false true e = e
and-false false e = refl

pub disc_of : (D : ℕ) (point : Point) (M : ℕ) → M ≢ 0 → mark_of D point M ≡ Disc point (fraction_of D (pos (ceiling_root M)))
disc_of D point zero some = absurd (some refl)
disc_of D point (suc k) some = refl

module _ (D : ℕ) (types : Types) (f : Figures) (h v : ℕ) where
  chosen : (b : Bool) → MarkOutcome
  chosen b =
      require b (refused_mark outside_limits) (λ _. mark_of D (projected_centre D f h v) f.ball.scaled_squared_radius)

  pub chart_marks : figures_known D types f ≡ true → channel_within f.n h ≡ true → channel_within f.n v ≡ true
      → chart_mark D types f h v ≡ mark_of D (projected_centre D f h v) f.ball.scaled_squared_radius
  unfolding chart_mark chosen
  chart_marks figures first second =
      ap (λ (b : Bool). chosen (b && (channel_within f.n h && channel_within f.n v))) figures
      ∙ ap (λ (b : Bool). chosen (b && channel_within f.n v)) first
      ∙ ap chosen second

  refuses : (figures_known D types f && (channel_within f.n h && channel_within f.n v)) ≡ false
      → chart_mark D types f h v ≡ refused_mark outside_limits
  unfolding chart_mark chosen
  refuses e = ap chosen e

  pub refuses_figures : figures_known D types f ≡ false → chart_mark D types f h v ≡ refused_mark outside_limits
  refuses_figures e = refuses (ap (λ (b : Bool). b && (channel_within f.n h && channel_within f.n v)) e)

  pub refuses_horizontal : channel_within f.n h ≡ false → chart_mark D types f h v ≡ refused_mark outside_limits
  refuses_horizontal e = refuses (and-false (figures_known D types f) (ap (λ (b : Bool). b && channel_within f.n v) e))

  pub refuses_vertical : channel_within f.n v ≡ false → chart_mark D types f h v ≡ refused_mark outside_limits
  refuses_vertical e = refuses (and-false (figures_known D types f) (and-false (channel_within f.n h) e))

  pub accepts : figures_known D types f ≡ true → channel_within f.n h ≡ true → channel_within f.n v ≡ true
      → mark_number (chart_mark D types f h v) ≡ 0
  accepts figures first second = ap mark_number (chart_marks figures first second) ∙ mark_number_lem f.ball.scaled_squared_radius
    where
      mark_number_lem : (M : ℕ) → mark_number (mark_of D (projected_centre D f h v) M) ≡ 0
      mark_number_lem zero = refl
      mark_number_lem (suc k) = refl

  pub accepted : mark_number (chart_mark D types f h v) ≡ 0
      → (figures_known D types f ≡ true) × (channel_within f.n h ≡ true) × (channel_within f.n v ≡ true)
  accepted e = go (figures_known D types f) refl (channel_within f.n h) refl (channel_within f.n v) refl
    where
      go : (a : Bool) → figures_known D types f ≡ a → (b : Bool) → channel_within f.n h ≡ b → (c : Bool) → channel_within f.n v ≡ c
          → (figures_known D types f ≡ true) × (channel_within f.n h ≡ true) × (channel_within f.n v ≡ true)
      go true x true y true z = (x, y, z)
      go true x true y false z = nonzero (sym (ap mark_number (refuses_vertical z)) ∙ e)
      go true x false y c z = nonzero (sym (ap mark_number (refuses_horizontal y)) ∙ e)
      go false x b y c z = nonzero (sym (ap mark_number (refuses_figures x)) ∙ e)

-- ---- 2.12: what an accepted chart shows of M and of x and y, X of its two channels

pub record Shows (D M : ℕ) (x y : ℤ) (mark : MarkOutcome) : Type 0 where
  -- the coordinates are x/D and y/D, the radius is the root over D, exactly
  pub horizontal : Exact D x (mark_point mark).horizontal
  pub vertical : Exact D y (mark_point mark).vertical
  pub radius : Exact D (pos (ceiling_root M)) (mark_radius mark)
  -- the root is the smallest whole number whose square is at least M
  pub reaches : M ≤ ceiling_root M * ceiling_root M
  pub smallest : (k : ℕ) → M ≤ k * k → ceiling_root M ≤ k
  -- a dot when M is 0, else a disc
  pub dot : M ≡ 0 → mark ≡ Dot (mark_point mark)
  pub disc : M ≢ 0 → mark ≡ Disc (mark_point mark) (mark_radius mark)

module _ (D e : ℕ) (power : D ≡ 2 ^ e) (most : D ≤ total) where
  exponent_most : e < 53
  exponent_most = go (dec_lt e 53)
    where
      go : Dec (e < 53) → e < 53
      go (yes l) = l
      go (no l) =
          let k : 53 ≤ e = omega arith in
          let h : 2 ^ 53 ≤ 2 ^ e = pow-le-pow_right (lit< tt) k in
          absurd (omega (arith, h, power, most))

  -- a whole number below 2^53, over D
  exact : (z : ℤ) → nat_abs z < 2 ^ 53 → Exact D z (fraction_of D z)
  exact = fraction_exact D e power (omega (arith, exponent_most))

  module _ (x y : ℤ) (x-small : nat_abs x < 2 ^ 53) (y-small : nat_abs y < 2 ^ 53) where
    abbrev point : Point
    point = record { horizontal = fraction_of D x; vertical = fraction_of D y }

    mark_shows : (M : ℕ) → ceiling_root M < 2 ^ 53 → Shows D M x y (mark_of D point M)
    unfolding ceiling_root
    mark_shows zero small =
        record {
          horizontal = exact x x-small;
          vertical = exact y y-small;
          radius = record { value = (refl, zero-mul D); zero_positive = λ z. refl };
          reaches = root_reaches 0;
          smallest = root_smallest 0;
          dot = λ z. refl;
          disc = λ some. absurd (some refl);
        }
    mark_shows (suc k) small =
        record {
          horizontal = exact x x-small;
          vertical = exact y y-small;
          radius = exact (pos (ceiling_root (suc k))) small;
          reaches = root_reaches (suc k);
          smallest = root_smallest (suc k);
          dot = λ z. nonzero z;
          disc = λ some. refl;
        }

  pub chart_shows : (types : Types) (f : Figures) (h v : ℕ) → mark_number (chart_mark D types f h v) ≡ 0
      → Shows D f.ball.scaled_squared_radius (channel_centre f h) (channel_centre f v) (chart_mark D types f h v)
  chart_shows types f h v a =
      let within = accepted D types f h v a in
      let limits = known-within D types f within.0 in
      let M = f.ball.scaled_squared_radius in
      let small : (channel : ℕ) → channel_within f.n channel ≡ true → nat_abs (channel_centre f channel) < 2 ^ 53 =
      λ channel k.
      let known = channel_known f.n channel k in
      omega (arith, most, limits.centre_limit (channel - 1) (omega arith)) in
      subst (Shows D M (channel_centre f h) (channel_centre f v)) (sym (chart_marks D types f h v within.0 within.1 within.2))
      (mark_shows (channel_centre f h) (channel_centre f v) (small h within.1) (small v within.2) M
      (omega (arith, most, root_most D M limits.radius_limit)))
