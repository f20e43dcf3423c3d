-- The tests of the figures and of the text's length are the definition's own. A text whose last byte is not 10 is not in form; a text
-- whose last byte is 10 is what stands before it and that byte, and is what these are.
use Prim.Native.Nat.{ℕ, ◌-◌}
use mathlib.Core.Path.{◌≡◌, refl, sym, ap, ◌∙◌, subst}
use mathlib.Core.Bool.{true}
use mathlib.Core.List.{List, [], ◌∷◌, ◌++◌}
use native.Mathlib.Omega.{arith}
use lib.ListN.{length, take, get_or}
use Rattle.limits.specs.Limits.{total}
use Rattle.text.specs.Parts.{line_end, text_within}
use Rattle.text.specs.PartsLaws.{text-within}
use Rattle.channel.specs.Channel.{channel_types}
use Rattle.ball.specs.Ball.{filled_ball}
use Rattle.envelope.specs.Figures.{figures_known, figures_of}
use Rattle.reading.specs.ContentLaws.{faulty_figures, faulty_length, faulty_form}
use Rattle.std.specs.Prelude.{Err}
use Rattle.std.proofs.Common.{rules}
use Rattle.refusal.specs.declared.Refusal.{Refusal}
use Rattle.reading.specs.Clauses.{DistanceRead, distance_faulty, distance_outcome}
use Rattle.reading.proofs.VerdictSteps.{line_last, line_none}
use Rattle.reading.proofs.distance_of_text.Goals as goal

-- the text is the line before its last byte 10, and that byte
whole : (text : List ℕ) → text_within text ≡ true → get_or text (length text - 1) 0 ≡ line_end → take (length text - 1) text ++ (line_end ∷ []) ≡ text
whole text within last = line_last text (length text - 1) (omega (arith, (text-within text within).0)) last

pub returns-then-not-known : goal.returns-then-not-known
returns-then-not-known c =
    distance_faulty refl
    (faulty_figures total channel_types _ c.args.text.now (sym c.figures_known_lent-known.ensures ∙ c.if-not-known.true))
    (search rules)

pub returns-then-not-within : goal.returns-then-not-within
returns-then-not-within c =
    let a = c.args in
    let f = figures_of a.n a.codes.now (filled_ball a.scaled_centre.now a.scaled_squared_radius a.scaled_lower_bound a.settled) a.moves in
    let known : figures_known total channel_types f ≡ true = cc in
    distance_faulty refl (faulty_length total channel_types f a.text.now known (sym c.text_within-within.ensures ∙ c.if-not-within.true)) (search rules)

pub returns-then-text-end-ne-LINE_END : goal.returns-then-text-end-ne-LINE_END
returns-then-text-end-ne-LINE_END c =
    let text = c.args.text.now in
    let within = sym c.text_within-within.ensures ∙ c.if-not-within.false in
    distance_faulty refl
    (faulty_form total channel_types _ text (sym c.figures_known_lent-known.ensures ∙ c.if-not-known.false) within
    (line_none text (length text - 1) (omega (arith, (text-within text within).0)) c.args.n c.if-text-end-ne-LINE_END.true))
    (ap (λ (r : Refusal). distance_outcome (Err r)) c.new.ensures)

pub distance_of_line-requires : goal.distance_of_line-requires
distance_of_line-requires c =
    let within = sym c.text_within-within.ensures ∙ c.if-not-within.false in
    (sym c.figures_known_lent-known.ensures ∙ c.if-not-known.false, (ap text_within (whole c.args.text.now within (omega arith)) ∙ within, c.requires))

pub returns : goal.returns
returns c =
    let a = c.args in
    let f = figures_of a.n a.codes.now (filled_ball a.scaled_centre.now a.scaled_squared_radius a.scaled_lower_bound a.settled) a.moves in
    subst (λ text. DistanceRead total channel_types f text a.places.now c.distance_of_line.new.places (distance_outcome c.distance_of_line.result))
    (whole a.text.now (sym c.text_within-within.ensures ∙ c.if-not-within.false) (omega arith)) c.distance_of_line.ensures
