-- `chart::chart_lent` meets its contract. The test is the definition's own; past it the places of X that the channels name are there and
-- within their limit, and the mark is that of the point and M.
use Rattle.std.specs.Prelude.{◌≤◌, ℕ, ◌≡◌, true, ◌&&◌, Err}
use Rattle.std.proofs.Common.{sym, ap, ap₂, ◌∙◌, arith}
use Rattle.integers.specs.Tests.{both}
use Rattle.limits.specs.Limits.{total}
use Rattle.refusal.specs.declared.Refusal.{Refusal}
use Rattle.channel.specs.Channel.{channel_types}
use Rattle.envelope.specs.Clauses.{lent_figures}
use Rattle.envelope.specs.Figures.{figures_known}
use Rattle.envelope.specs.FigureLaws.{Within, known-within, within_centre}
use Rattle.envelope.specs.declared.Figures.{Figures}
use Rattle.chart.specs.Mark.{mark_outcome, channel_within, mark_of, chart_mark}
use Rattle.chart.specs.MarkLaws.{channel_known, chart_marks}
use Rattle.chart.proofs.chart_lent.Goals as goal

-- what is known past the test
module _ (f : Figures) (h v : ℕ) (known : (figures_known total channel_types f && (channel_within f.n h && channel_within f.n v)) ≡ true) where
  tests : (figures_known total channel_types f ≡ true) × (channel_within f.n h ≡ true) × (channel_within f.n v ≡ true)
  tests =
      let parts = both (figures_known total channel_types f) (channel_within f.n h && channel_within f.n v) known in
      let channels = both (channel_within f.n h) (channel_within f.n v) parts.1 in
      (parts.0, channels.0, channels.1)

  limits : Within total f
  limits = known-within total channel_types f tests.0

  channels : ((1 ≤ h) × (h ≤ f.n)) × ((1 ≤ v) × (v ≤ f.n))
  channels = (channel_known f.n h tests.1, channel_known f.n v tests.2)

pub returns-then-not-chart_known : goal.returns-then-not-chart_known
unfolding chart_mark
returns-then-not-chart_known c = rw (sym c.chart_known.ensures ∙ c.if-not-chart_known.true) (ap (λ (r : Refusal). mark_outcome (Err r)) c.into.ensures)

pub centre_fraction-requires : goal.centre_fraction-requires
centre_fraction-requires c =
    let f = lent_figures c.args.scalars c.args.codes.now c.args.scaled_centre.now in
    let known = sym c.chart_known.ensures ∙ c.if-not-chart_known.false in
    let (h, v) = channels f c.args.horizontal c.args.vertical known in
    (within_centre (limits f c.args.horizontal c.args.vertical known), (omega (arith, h, v), omega (arith, h, v)))

pub centre_fraction-requires-2 : goal.centre_fraction-requires-2
centre_fraction-requires-2 c =
    let f = lent_figures c.args.scalars c.args.codes.now c.args.scaled_centre.now in
    let known = sym c.chart_known.ensures ∙ c.if-not-chart_known.false in
    let (h, v) = channels f c.args.horizontal c.args.vertical known in
    (within_centre (limits f c.args.horizontal c.args.vertical known), (omega (arith, h, v), omega (arith, h, v)))

pub mark_of-requires : goal.mark_of-requires
mark_of-requires c =
    let f = lent_figures c.args.scalars c.args.codes.now c.args.scaled_centre.now in
    let within = limits f c.args.horizontal c.args.vertical (sym c.chart_known.ensures ∙ c.if-not-chart_known.false) in
    omega (arith, within.radius_limit, within.floor_limit)

pub returns : goal.returns
returns c =
    let args = c.args in
    let f = lent_figures args.scalars args.codes.now args.scaled_centre.now in
    let passed = tests f args.horizontal args.vertical (sym c.chart_known.ensures ∙ c.if-not-chart_known.false) in
    c.mark_of.ensures
    ∙ ap₂ (λ x y. mark_of total (record { horizontal = x; vertical = y }) args.scalars.scaled_squared_radius)
    c.centre_fraction.ensures c.centre_fraction-2.ensures
    ∙ sym (chart_marks total channel_types f args.horizontal args.vertical passed.0 passed.1 passed.2)
