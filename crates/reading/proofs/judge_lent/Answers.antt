-- The verdict is by s of the text or by its refusal, which are those of what the text is.
use mathlib.Core.Path.{sym, ap, ◌∙◌}
use Rattle.std.proofs.lemmas.Result.{err_from_is_err_and}
use Rattle.limits.specs.Limits.{total}
use Rattle.channel.specs.Channel.{channel_types}
use Rattle.ball.specs.Ball.{filled_ball}
use Rattle.envelope.specs.Figures.{figures_of}
use Rattle.reading.specs.Content.{reading_content}
use Rattle.reading.specs.Clauses.{distance_is, distance-refused}
use Rattle.reading.specs.Verdict.{verdict_of}
use Rattle.reading.specs.VerdictLaws.{verdict_on_lem}
use Rattle.reading.proofs.judge_lent.Goals as goal

pub returns : goal.returns
returns c =
    let a = c.args in
    let f = figures_of a.n a.codes.now (filled_ball a.scaled_centre.now a.scaled_squared_radius a.scaled_lower_bound a.settled) a.moves in
    let text = a.text.now in
    let at = distance_is total f (reading_content total channel_types f text) (sym c.in_ok-distance.ensures.is) in
    c.verdict_of.ensures ∙ ap (λ s. verdict_of s a.scaled_squared_radius) at.2 ∙ sym (verdict_on_lem total channel_types f text at.1)

pub returns-in_err-distance : goal.returns-in_err-distance
returns-in_err-distance c =
    let a = c.args in
    let f = figures_of a.n a.codes.now (filled_ball a.scaled_centre.now a.scaled_squared_radius a.scaled_lower_bound a.settled) a.moves in
    let text = a.text.now in
    let p = err_from_is_err_and c.from_residual.result c.from_residual.ensures.1 in
    rw (p.1, p.2) (sym (verdict_on_lem total channel_types f text
    (distance-refused total f (reading_content total channel_types f text) (sym c.in_err-distance.ensures.is))))
