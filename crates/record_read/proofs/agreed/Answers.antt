-- The tests are those of the definition: n and the tags, then the signs of M and L, then the agreement of the figures with the rows.
-- Any of them that fails answers 12.
use mathlib.Core.Path.{refl, sym, ap, ◌∙◌}
use borrow.Author.Rules.{rules}
use mir.Syntax.{w64}
use mir.Val.{SFits}
use Rattle.refusal.specs.Outcome.{refusal_outcome}
use Rattle.refusal.specs.declared.Refusal.{Refusal}
use Rattle.limits.specs.Limits.{total, row_limit}
use Rattle.record_read.specs.Clauses.{not_read}
use Rattle.record_read.proofs.ReadSteps.{codes_differ, radius_below, floor_below, Signs, disagreeing, agreeing}
use Rattle.record_read.proofs.agreed.Goals as goal
use Rattle.record_read.proofs.agreed.Goals.{then-stated-lt0-via-then-stated-lt0, then-stated-lt0-via-else-stated-lt0+then-stated-lt0-2}

pub returns-then-not-same_codes : goal.returns-then-not-same_codes
returns-then-not-same_codes c =
    let args = c.args in
    ap (λ (r : Refusal). not_read row_limit (refusal_outcome r)) c.into.ensures
    ∙ codes_differ total row_limit args.rows.now args.m args.codes.now args.stated
    (sym c.same_codes.ensures ∙ c.if-not-same_codes.true)

pub returns-then-stated-lt0 : goal.returns-then-stated-lt0
returns-then-stated-lt0 c =
    let args = c.args in
    let radius_fits : SFits w64 args.stated.scaled_squared_radius = search rules in
    let floor_fits : SFits w64 args.stated.scaled_lower_bound = search rules in
    ap (λ (r : Refusal). not_read row_limit (refusal_outcome r)) c.into-then-stated-lt0.ensures
    ∙ elim c.then-stated-lt0.branch [
      | then-stated-lt0-via-then-stated-lt0 w ↦
          radius_below total row_limit args.rows.now args.m args.codes.now args.stated radius_fits w.if-stated-lt0.true
      | then-stated-lt0-via-else-stated-lt0+then-stated-lt0-2 w ↦
          floor_below total row_limit args.rows.now args.m args.codes.now args.stated floor_fits w.if-stated-lt0-2.true
    ]

pub returns-then-not-agrees : goal.returns-then-not-agrees
returns-then-not-agrees c =
    let args = c.args in
    let signs : Signs args.stated =
    record {
      radius_fits = search rules;
      floor_fits = search rules;
      radius_not = c.if-stated-lt0.false;
      floor_not = c.if-stated-lt0-2.false;
    } in
    ap (λ (r : Refusal). not_read row_limit (refusal_outcome r)) c.into-then-not-agrees.ensures
    ∙ disagreeing total row_limit args.rows.now args.m args.codes.now args.stated signs
    args.n c.requires.count (sym c.same_codes.ensures ∙ c.if-not-same_codes.false)
    refl (sym c.agrees.ensures ∙ c.if-not-agrees.true)

pub returns : goal.returns
returns c =
    let args = c.args in
    let signs : Signs args.stated =
    record {
      radius_fits = search rules;
      floor_fits = search rules;
      radius_not = c.if-stated-lt0.false;
      floor_not = c.if-stated-lt0-2.false;
    } in
    agreeing total row_limit args.rows.now args.m args.codes.now args.stated signs
    args.n c.requires.count (sym c.same_codes.ensures ∙ c.if-not-same_codes.false)
    refl c.new-figures.ensures refl
    (sym c.agrees.ensures ∙ c.if-not-agrees.false)
