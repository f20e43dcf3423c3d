-- The text is read into a table with room for every text, so that its answer is the defined one with 7 apart; the two tests that
-- follow are 7 and 13. Where both pass, the lent slices are filled; a refused text has no row and no channel, so that nothing is.
use Prim.Native.Nat.{ℕ, ◌*◌, ◌≤◌}
use mathlib.Core.List.{List}
use mathlib.Core.Path.{◌≡◌, refl, sym, ap, ◌∙◌, subst}
use native.Mathlib.Omega.{arith}
use native.Mathlib.Nat.{mul-le-mul}
use borrow.Author.Rules.{rules}
use lib.ListN.{length}
use Rattle.limits.specs.Limits.{row_limit, place_limit}
use Rattle.channel.specs.Channel.{channel_types}
use Rattle.reference.specs.Reference.{content}
use Rattle.refusal.specs.declared.Kind.TheVariants.{TableShort, BufferShort}
use Rattle.lent.specs.Filled.{filled}
use Rattle.export_reference.specs.declared.ReferenceAnswer.{ReferenceAnswer}
use Rattle.reference.specs.Clauses.{answer_of, reference_read, values_in, ReferenceOutcome}
use Rattle.reference.specs.ContractLaws.{answer_places, answer-rows, answer_channels, answer_values, read_room}
use Rattle.export_reference.proofs.ReadLaws.{told, short_table, short_codes, answered, table_filled, codes-filled, unwritten}
use Rattle.export_reference.proofs.read.Goals as goal

-- a text that is read into a table with room for every text has the defined answer, with 7 apart
read_is : (text : List ℕ) {r : ReferenceOutcome} → r ≡ reference_read row_limit channel_types text place_limit
    → r ≡ answer_of (content row_limit channel_types text)
read_is text is = is ∙ read_room row_limit channel_types text place_limit (omega arith)

places : (text : List ℕ) (r : ReferenceOutcome) → r ≡ answer_of (content row_limit channel_types text) → r.m * r.n ≤ place_limit
places text r is =
    subst (λ (r : ReferenceOutcome). r.m * r.n ≤ place_limit) (sym is)
    (mul-le-mul (answer-rows row_limit channel_types text) (answer_channels row_limit channel_types text))

channels : (text : List ℕ) (r : ReferenceOutcome) → r ≡ answer_of (content row_limit channel_types text) → r.n ≤ length r.codes
channels text r is =
    subst (λ (r : ReferenceOutcome). r.n ≤ length r.codes) (sym is)
    (omega (arith, answer_channels row_limit channel_types text, answer_places (content row_limit channel_types text)))

pub overflow_mul-places : goal.overflow_mul-places
overflow_mul-places c =
    let text = c.args.text.now in
    omega (arith, places text _ (read_is text c.in-Ok.ensures.answer))

pub returns-in-Err : goal.returns-in-Err
returns-in-Err c =
    let args = c.args in
    let r = c.in-Err.refusal in
    let is = read_is args.text.now c.in-Err.ensures.answer in
    let e = c.into.ensures in
    record {
      answer = e ∙ answered args.text.now _ is (length args.table.now) (length args.codes.now) (omega arith) (omega arith) _ _ refl refl;
      table_filled = unwritten r c.into.result _ _ args.table.now e;
      codes_filled = unwritten r c.into.result _ _ args.codes.now e;
    }

pub returns-then-table-places : goal.returns-then-table-places
returns-then-table-places c =
    let args = c.args in
    let is = read_is args.text.now c.in-Ok.ensures.answer in
    let e = c.into-then-table-places.ensures in
    record {
      answer = told TableShort c.from.ensures e
          ∙ short_table args.text.now _ is (length args.table.now) (length args.codes.now) c.if-table-places.true;
      table_filled = unwritten c.from.result c.into-then-table-places.result _ _ args.table.now e;
      codes_filled = unwritten c.from.result c.into-then-table-places.result _ _ args.codes.now e;
    }

pub returns-then-codes-reference : goal.returns-then-codes-reference
returns-then-codes-reference c =
    let args = c.args in
    let is = read_is args.text.now c.in-Ok.ensures.answer in
    let refusal = c.from-then-codes-reference in
    let into = c.into-then-codes-reference in
    record {
      answer = told BufferShort refusal.ensures into.ensures
          ∙ short_codes args.text.now _ is (length args.table.now) (length args.codes.now) c.if-table-places.false c.if-codes-reference.true;
      table_filled = unwritten refusal.result into.result _ _ args.table.now into.ensures;
      codes_filled = unwritten refusal.result into.result _ _ args.codes.now into.ensures;
    }

pub fill-requires : goal.fill-requires
fill-requires c =
    let text = c.args.text.now in
    let held : place_limit ≡ length c.read.new.table = search rules in
    (omega (arith, c.if-table-places.false), omega (arith, places text _ (read_is text c.in-Ok.ensures.answer), held))

pub fill-requires-2 : goal.fill-requires-2
fill-requires-2 c =
    let text = c.args.text.now in
    (c.if-codes-reference.false, channels text _ (read_is text c.in-Ok.ensures.answer))

pub returns : goal.returns
returns c =
    let args = c.args in
    let is = read_is args.text.now c.in-Ok.ensures.answer in
    let h = c.if-table-places.false in
    let k = c.if-codes-reference.false in
    let e = c.into-2.ensures in
    let values = values_in (content row_limit channel_types args.text.now) in
    let read_codes = (reference_read row_limit channel_types args.text.now (length args.table.now)).codes in
    record {
      answer = e ∙ answered args.text.now _ is (length args.table.now) (length args.codes.now) h k 0 0 refl refl;
      table_filled = c.fill.ensures
          ∙ table_filled args.text.now _ is (length args.table.now) (length args.codes.now) h k 0 0 refl refl
          _ _ args.table.now (answer_values row_limit channel_types args.text.now ∙ ap (λ (a : ReferenceOutcome). a.m * a.n) (sym is))
          c.in-Ok.ensures.table_filled
          ∙ ap (λ (a : ReferenceAnswer). filled a.number (a.m * a.n) values args.table.now) (sym e);
      codes_filled = c.fill-2.ensures
          ∙ codes-filled args.text.now _ is (length args.table.now) (length args.codes.now) h k 0 0 refl refl args.codes.now
          ∙ ap (λ (a : ReferenceAnswer). filled a.number a.n read_codes args.codes.now) (sym e);
    }
