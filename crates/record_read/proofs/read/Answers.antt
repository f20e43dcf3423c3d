-- The tests of what is given and of the text's length are the definition's own. What the reader of the form hands over is the line
-- at fault, or what a record in form states, kept in its places.
use mathlib.Core.Path.{◌≡◌, sym, ap, ◌∙◌}
use mathlib.Core.Bool.{true}
use lib.Seq.{length-take-le}
use Rattle.refusal.specs.Outcome.{refused, kind_number, refusal_outcome}
use Rattle.refusal.specs.declared.Kind.{Kind}
use Rattle.refusal.specs.declared.Kind.TheVariants.{OutsideLimits, TextLength}
use Rattle.refusal.specs.declared.Refusal.{Refusal}
use Rattle.limits.specs.Limits.{total, row_limit}
use Rattle.channel.specs.Channel.{channel_types}
use Rattle.channel.specs.ChannelLaws.{house_sound}
use Rattle.record_read.specs.Clauses.{not_read}
use Rattle.record_read.specs.HeldLaws.{holding_total}
use Rattle.record_read.specs.ReadLaws.{read_limits, read_length}
use Rattle.typed_rows.specs.Given.{given_within}
use Rattle.typed_rows.specs.GivenLaws.{given-within}
use Rattle.record_read.proofs.ReadSteps.{stated_faulty, read_channels, stated_sound}
use Rattle.record_read.proofs.read.Goals as goal

-- a refusal without a line, as it is answered
turned_back : (k : Kind) (r : Refusal) → r ≡ record { kind = k; line = 0 }
    → not_read row_limit (refusal_outcome r) ≡ not_read row_limit (refused (kind_number k))
turned_back k r e = ap (λ (x : Refusal). not_read row_limit (refusal_outcome x)) e

pub returns-then-not-given : goal.returns-then-not-given
returns-then-not-given c =
    let args = c.args in
    turned_back OutsideLimits _ (cc)
    ∙ sym (read_limits total row_limit channel_types args.rows.now args.m args.n args.codes.now args.text.now
    (sym c.given_within-given.ensures ∙ c.if-not-given.true))

pub returns-then-not-within : goal.returns-then-not-within
returns-then-not-within c =
    let args = c.args in
    let given : given_within row_limit channel_types args.rows.now args.m args.n args.codes.now ≡ true = cc in
    turned_back TextLength _ (cc)
    ∙ sym (read_length total row_limit channel_types args.rows.now args.m args.n args.codes.now args.text.now given
    (sym c.text_within-within.ensures ∙ c.if-not-within.true))

pub agreed-requires : goal.agreed-requires
agreed-requires c =
    let args = c.args in
    let given =
    given-within row_limit channel_types args.rows.now args.m args.n args.codes.now (sym c.given_within-given.ensures ∙ c.if-not-given.false) in
    record {
      within = given.0;
      count = length-take-le args.n args.codes.now given.1;
      channels = read_channels channel_types args.text.now c.in-Ok.ensures house_sound;
    }

pub returns-in-Ok : goal.returns-in-Ok
returns-in-Ok c =
    let args = c.args in
    c.agreed.ensures
    ∙ stated_sound channel_types args.text.now total args.rows.now args.m args.n args.codes.now
    (sym c.given_within-given.ensures ∙ c.if-not-given.false) (sym c.text_within-within.ensures ∙ c.if-not-within.false)
    c.in-Ok.ensures house_sound holding_total

pub returns-in-Err : goal.returns-in-Err
returns-in-Err c =
    let args = c.args in
    ap (λ (r : Refusal). not_read row_limit (refusal_outcome r)) c.new.ensures
    ∙ stated_faulty channel_types args.text.now total args.rows.now args.m args.n args.codes.now
    (sym c.given_within-given.ensures ∙ c.if-not-given.false) (sym c.text_within-within.ensures ∙ c.if-not-within.false) c.in-Err.ensures
