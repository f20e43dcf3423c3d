-- `drawing::draw` meets its contract: its tests are those of the definition, in its order.
use mathlib.Core.Path.{sym, ◌∙◌, ap}
use Rattle.limits.specs.Limits.{row_limit}
use Rattle.refusal.specs.Outcome.{refusal_outcome}
use Rattle.refusal.specs.declared.Refusal.{Refusal}
use Rattle.drawing.specs.Draw.{not_drawn}
use Rattle.drawing.specs.Demand.{draw_promise}
use Rattle.drawing.specs.DrawLaws.{drawing_limits, drawing_budget, drawing-drawn}
use Rattle.geometry.specs.TableLaws.{within-table}
use Rattle.drawing.proofs.draw.Goals as goal

pub returns-then-not-rows_within : goal.returns-then-not-rows_within
returns-then-not-rows_within c =
    let outside = sym c.rows_within.ensures ∙ c.if-not-rows_within.true in
    draw_promise _ _ _ _ _
    (ap (λ (r : Refusal). not_drawn row_limit (refusal_outcome r)) c.into.ensures ∙
    sym (drawing_limits _ _ _ _ _ _ outside))

pub returns-then-budget-gt-BUDGET_MOST : goal.returns-then-budget-gt-BUDGET_MOST
returns-then-budget-gt-BUDGET_MOST c =
    draw_promise _ _ _ _ _
    (ap (λ (r : Refusal). not_drawn row_limit (refusal_outcome r)) c.into-then-budget-gt-BUDGET_MOST.ensures ∙
    sym (drawing_budget _ _ _ _ _ _ (sym c.rows_within.ensures ∙ c.if-not-rows_within.false) c.if-budget-gt-BUDGET_MOST.true))

pub drawn_within-requires : goal.drawn_within-requires
drawn_within-requires c = within-table _ _ _ (sym c.rows_within.ensures ∙ c.if-not-rows_within.false)

pub returns : goal.returns
returns c =
    draw_promise _ _ _ _ _
    (c.drawn_within.ensures ∙
    sym (drawing-drawn _ _ _ _ _ _ (sym c.rows_within.ensures ∙ c.if-not-rows_within.false) c.if-budget-gt-BUDGET_MOST.false))
