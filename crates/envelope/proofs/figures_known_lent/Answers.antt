-- `envelope::figures_known_lent` meets its contract: a place that is not lent and a code that is not known decide the answer, and past
-- them the limits do.
use borrow.Author.Tests.{leb-true}
use Rattle.std.proofs.Common.{◌≡◌, ℕ, ◌≤◌, ℤ, List, true, false, sym, ◌∙◌}
use lib.Dec.{leb}
use lib.ListN.{length}
use Rattle.integers.specs.Tests.{both, clash, refuted}
use Rattle.limits.specs.Limits.{total}
use Rattle.channel.specs.Channel.{channel_types}
use Rattle.envelope.specs.Clauses.{lent_figures, places_lent}
use Rattle.envelope.specs.FigureLaws.{known_coded, lent_places, lent_known}
use Rattle.envelope.proofs.figures_known_lent.Goals as goal
use Rattle.envelope.proofs.figures_known_lent.Goals.{then-places_lent, else-places_lent}

-- past the test of the places
places : (n : ℕ) (codes : List ℕ) (X : List ℤ) → places_lent n codes X ≡ true → n ≤ length codes
places n codes X passed = leb-true n (length codes) (both (leb n (length codes)) (leb n (length X)) passed).0

pub returns-then-codes_known : goal.returns-then-codes_known
returns-then-codes_known c =
    elim c.if-places_lent.branch [
      | then-places_lent w ↦
          let known : w.codes_known.result ≡ true = cc in
          c.figures_within.ensures _
          ∙ lent_known total channel_types _ _ _ (sym w.codes_known.ensures ∙ known) (places _ c.args.codes.now c.args.scaled_centre.now (sym c.places_lent.ensures ∙ w.if-places_lent.true))
      | else-places_lent w ↦ clash c.if-codes_known.true (cc)
    ]

pub returns-else-codes_known : goal.returns-else-codes_known
returns-else-codes_known c =
    let f = lent_figures c.args.scalars c.args.codes.now c.args.scaled_centre.now in
    c.if-codes_known.false
    ∙ refuted _ (λ h.
    elim c.if-places_lent.branch [
      | then-places_lent w ↦
          let unknown : w.codes_known.result ≡ false = cc in
          clash (known_coded total channel_types f h).each_known (sym w.codes_known.ensures ∙ unknown)
      | else-places_lent w ↦ clash (lent_places total channel_types _ _ _ h) (sym c.places_lent.ensures ∙ w.if-places_lent.false)
    ])
