-- Each line is passed by what its reader answers, so that the text is known from the line after it on; each return is the first line
-- that is at fault, or what is read from the lines after the `C` line on.
use mathlib.Core.Path.{sym, ap, ◌∙◌}
use Rattle.channel.specs.Channel.{channel_types}
use Rattle.heading.proofs.Headed.{headed, not_headed}
use Rattle.record_lines.specs.Lines.{record_word}
use Rattle.record_form.specs.Clauses.{stated_form}
use Rattle.record_form.proofs.FormSteps.{at-heading, line-unended, line_read_lem, heading_read_lem, past_heading_lem, found, not_found, form-stated}
use Rattle.record_form.proofs.form.read_form.Goals as goal

pub returns-then-heading_end-text : goal.returns-then-heading_end-text
returns-then-heading_end-text c =
    ap stated_form (sym (line-unended (at-heading channel_types _) c.line_end-heading_end.ensures c.if-heading_end-text.true))

pub returns-in_default : goal.returns-in_default
returns-in_default c =
    ap stated_form (sym (heading_read_lem channel_types _ c.line_end-heading_end.ensures c.if-heading_end-text.false
    (not_headed record_word channel_types _ c.in_default.ensures)))

pub returns-then-centre_end-text : goal.returns-then-centre_end-text
returns-then-centre_end-text c =
    let head = headed record_word channel_types _ _ c.in-Some.ensures in
    let here = past_heading_lem channel_types _ c.line_end-heading_end.ensures c.if-heading_end-text.false head in
    ap stated_form (sym (line-unended here c.line_end-centre_end.ensures c.if-centre_end-text.true))

pub read_centre-requires : goal.read_centre-requires
read_centre-requires c = (headed record_word channel_types _ _ c.in-Some.ensures).channels

pub returns-then-not-read_centre : goal.returns-then-not-read_centre
returns-then-not-read_centre c =
    let head = headed record_word channel_types _ _ c.in-Some.ensures in
    let here = past_heading_lem channel_types _ c.line_end-heading_end.ensures c.if-heading_end-text.false head in
    ap stated_form (sym (line_read_lem here c.line_end-centre_end.ensures c.if-centre_end-text.false
    (not_found _ (sym c.read_centre.ensures.is ∙ c.if-not-read_centre.true))))

pub returns : goal.returns
returns c =
    let head = headed record_word channel_types _ _ c.in-Some.ensures in
    let here = past_heading_lem channel_types _ c.line_end-heading_end.ensures c.if-heading_end-text.false head in
    let read = c.read_centre.ensures in
    let centre = found _ (sym read.is ∙ c.if-not-read_centre.false) in
    form-stated centre.0 c.read_after_centre.ensures head (read.written _ centre.1) read.same_length
    ∙ ap stated_form (sym (line_read_lem here c.line_end-centre_end.ensures c.if-centre_end-text.false centre.1))
