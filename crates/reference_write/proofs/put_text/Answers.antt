-- Each refusal is that of the row at which the walk stops.
use mathlib.Core.Path.{refl, sym, ◌∙◌}
use native.Mathlib.Omega.{arith}
use lib.ListN.{length}
use Rattle.refusal.specs.declared.Kind.TheVariants.{LineForm, ValueRange, LabelRepeated}
use Rattle.limits.specs.Limits.{row_limit}
use Rattle.channel.specs.Channel.{channel_types}
use Rattle.reference_write.specs.Writing.{lent_table}
use Rattle.reference_write.specs.LendingLaws.{lending}
use Rattle.reference_write.proofs.Walk.{told, found_key, no_key, heading-within, walk_start, walk_label, walk_places, Turn, fault_form, fault_range, fault_repeated, fault_none, turn_room, walk_stops, walk_next, walk_done}
use Rattle.reference_write.proofs.put_text.Goals as goal

pub put_heading-heading_end-requires : goal.put_heading-heading_end-requires
put_heading-heading_end-requires c =
    let facts = lending row_limit channel_types _ c.requires.within in
    (facts.table.channels, (facts.typed, omega (arith, c.requires.room, facts.table.channels)))

pub bounds-out-heading_end : goal.bounds-out-heading_end
bounds-out-heading_end c =
    let facts = lending row_limit channel_types _ c.requires.within in
    heading-within facts c.requires.room c.put_heading-heading_end.ensures

pub loop-i-init : goal.loop-i-init
loop-i-init c =
    let facts = lending row_limit channel_types _ c.requires.within in
    walk_start facts c.requires.room c.put_heading-heading_end.ensures _ _ refl refl

pub overflow_add-next : goal.overflow_add-next
overflow_add-next c =
    let facts = lending row_limit channel_types (lent_table c.args.rows.now (length c.args.ends.now) c.args.n c.args.codes.now c.args.labels.now c.args.ends.now) c.requires.within in
    omega (arith, walk_places facts c.loop-i.invariant c.loop-i-test.true)

pub slice_bounds-label-count : goal.slice_bounds-label-count
slice_bounds-label-count c =
    let facts = lending row_limit channel_types _ c.requires.within in
    (walk_label facts c.loop-i.invariant c.loop-i-test.true).0

pub slice_bounds-label-start : goal.slice_bounds-label-start
slice_bounds-label-start c =
    let facts = lending row_limit channel_types _ c.requires.within in
    (walk_label facts c.loop-i.invariant c.loop-i-test.true).0

pub slice_bounds-label-end : goal.slice_bounds-label-end
slice_bounds-label-end c =
    let facts = lending row_limit channel_types _ c.requires.within in
    (walk_label facts c.loop-i.invariant c.loop-i-test.true).1

pub offset_bounds-rows-place : goal.offset_bounds-rows-place
offset_bounds-rows-place c =
    let facts = lending row_limit channel_types (lent_table c.args.rows.now (length c.args.ends.now) c.args.n c.args.codes.now c.args.labels.now c.args.ends.now) c.requires.within in
    omega (arith, walk_places facts c.loop-i.invariant c.loop-i-test.true)

pub slice_bounds-numbers-end : goal.slice_bounds-numbers-end
slice_bounds-numbers-end c =
    let facts = lending row_limit channel_types _ c.requires.within in
    walk_places facts c.loop-i.invariant c.loop-i-test.true

pub used_of_marked-requires : goal.used_of_marked-requires
used_of_marked-requires c =
    let facts = lending row_limit channel_types _ c.requires.within in
    let walk = c.loop-i.invariant in
    (omega (arith, walk.key_places, c.loop-i-test.true, facts.table.rows_most), walk.marked)

pub overflow_cast-line : goal.overflow_cast-line
overflow_cast-line c =
    let facts = lending row_limit channel_types _ c.requires.within in
    omega (arith, c.loop-i-test.true, facts.table.rows_most)

pub overflow_add-line : goal.overflow_add-line
overflow_add-line c =
    let facts = lending row_limit channel_types _ c.requires.within in
    omega (arith, c.loop-i-test.true, facts.table.rows_most)

pub returns-in_default : goal.returns-in_default
returns-in_default c =
    let facts = lending row_limit channel_types _ c.requires.within in
    let turn : Turn (lent_table c.args.rows.now (length c.args.ends.now) c.args.n c.args.codes.now c.args.labels.now c.args.ends.now) c.loop-i.from c.loop-i.i 0 =
    record { below = c.loop-i-test.true; is_key = sym (no_key _ c.in_default.ensures) } in
    walk_stops facts c.loop-i.invariant turn _ _ 2 (fault_form facts c.loop-i.invariant turn refl) (told LineForm c.new.ensures)

pub returns-then-not-within : goal.returns-then-not-within
returns-then-not-within c =
    let facts = lending row_limit channel_types _ c.requires.within in
    let found = found_key _ c.in-Some.ensures in
    let turn : Turn (lent_table c.args.rows.now (length c.args.ends.now) c.args.n c.args.codes.now c.args.labels.now c.args.ends.now) c.loop-i.from c.loop-i.i c.in-Some.key =
    record { below = c.loop-i-test.true; is_key = found.0 } in
    let outside = sym c.if-not-within.true ∙ c.row_in_range-within.ensures in
    walk_stops facts c.loop-i.invariant turn _ _ 3 (fault_range facts c.loop-i.invariant turn found.1 outside)
    (told ValueRange c.new-then-not-within.ensures)

pub returns-then-used_of_marked : goal.returns-then-used_of_marked
returns-then-used_of_marked c =
    let facts = lending row_limit channel_types _ c.requires.within in
    let found = found_key _ c.in-Some.ensures in
    let turn : Turn (lent_table c.args.rows.now (length c.args.ends.now) c.args.n c.args.codes.now c.args.labels.now c.args.ends.now) c.loop-i.from c.loop-i.i c.in-Some.key =
    record { below = c.loop-i-test.true; is_key = found.0 } in
    let inside = sym c.if-not-within.false ∙ c.row_in_range-within.ensures in
    let used = sym c.if-used_of_marked.true ∙ c.used_of_marked.ensures in
    walk_stops facts c.loop-i.invariant turn _ _ 4 (fault_repeated facts c.loop-i.invariant turn found.1 inside used)
    (told LabelRepeated c.new-then-used_of_marked.ensures)

pub put_row-at-requires : goal.put_row-at-requires
put_row-at-requires c =
    let facts = lending row_limit channel_types _ c.requires.within in
    let found = found_key _ c.in-Some.ensures in
    let turn : Turn (lent_table c.args.rows.now (length c.args.ends.now) c.args.n c.args.codes.now c.args.labels.now c.args.ends.now) c.loop-i.from c.loop-i.i c.in-Some.key =
    record { below = c.loop-i-test.true; is_key = found.0 } in
    let inside = sym c.if-not-within.false ∙ c.row_in_range-within.ensures in
    let unused = sym c.if-used_of_marked.false ∙ c.used_of_marked.ensures in
    turn_room facts c.loop-i.invariant turn (fault_none facts c.loop-i.invariant turn found.1 inside unused)

pub bounds-keys-i : goal.bounds-keys-i
bounds-keys-i c =
    let facts = lending row_limit channel_types _ c.requires.within in
    omega (arith, c.loop-i-test.true, facts.table.rows_most, c.loop-i.invariant.key_places)

pub loop-i-preserved : goal.loop-i-preserved
loop-i-preserved c =
    let facts = lending row_limit channel_types _ c.requires.within in
    let found = found_key _ c.in-Some.ensures in
    let turn : Turn (lent_table c.args.rows.now (length c.args.ends.now) c.args.n c.args.codes.now c.args.labels.now c.args.ends.now) c.loop-i.from c.loop-i.i c.in-Some.key =
    record { below = c.loop-i-test.true; is_key = found.0 } in
    let inside = sym c.if-not-within.false ∙ c.row_in_range-within.ensures in
    let unused = sym c.if-used_of_marked.false ∙ c.used_of_marked.ensures in
    walk_next facts c.loop-i.invariant turn (fault_none facts c.loop-i.invariant turn found.1 inside unused) c.put_row-at.ensures c.mark.ensures

pub returns : goal.returns
returns c =
    let facts = lending row_limit channel_types _ c.requires.within in
    walk_done facts c.loop-i.invariant c.loop-i-test.false
