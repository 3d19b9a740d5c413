use native.Mathlib.Omega.{arith}
use mir.ValLaws as laws
use mir.Facts.{to_z-of_z}
use mir.Syntax.{w64}
use Rattle.scan.proofs.Handed.{handed_on}
use Rattle.cues.specs.Steps.{five}
use Rattle.cues.proofs.Cued.{p_row, p_attrs, p_segments, p_kept, p_after, no_times, no-segments, cued}
use Rattle.cues.proofs.cue.collect_paragraph.Goals as goal

pub element_at-e-requires : goal.element_at-e-requires
element_at-e-requires c =
    p_row c.requires

pub attributes-attrs-requires : goal.attributes-attrs-requires
attributes-attrs-requires c =
    p_attrs c.requires c.element_at-e.result c.element_at-e.ensures

pub collect_segments-requires : goal.collect_segments-requires
collect_segments-requires c =
    p_segments c.requires c.element_at-e.result c.element_at-e.ensures

pub add_paragraph-requires : goal.add_paragraph-requires
add_paragraph-requires c =
    let from = laws.to_z-of_z w64 c.in_ok-when.when.start (record { sfits = omega arith }) in
    let post = rw from at c.in_ok-rows.ensures in
    let more = p_after c.requires c.element_at-e.result c.element_at-e.ensures c.in_ok-when.when.start c.args.ctx c.resolve_ws-inside.result c.collect_segments.new.segments c.collect_segments.new.texts
    c.in_ok-rows.rows post in
    rw (c.attributes-attrs.ensures.bytes, c.attributes-attrs.ensures.count) (record {
      small = c.requires.spacious.roomy.small;
      after = more.0;
      few = more.1;
      kept = p_kept c.requires c.element_at-e.result c.element_at-e.ensures;
      in-cues = c.requires.spacious.cues;
      in_times = c.requires.spacious.times;
      in_extras = c.requires.spacious.extras;
    })

pub returns-in_err-when : goal.returns-in_err-when
returns-in_err-when c =
    let g = c.attributes-attrs.ensures in
    let here = five c.args.cues.now c.args.times.now c.args.segments.now c.args.extras.now c.args.texts.now in
    rw (handed_on _ c.from_residual.ensures)
    (no_times c.requires c.element_at-e.result c.element_at-e.ensures c.args.reference c.args.ctx c.args.ws here _
    (rw (g.table, g.bytes, g.from, g.count, to_z-of_z c.ranges.reference) at c.in_err-when.ensures))

pub returns-in_err-rows : goal.returns-in_err-rows
returns-in_err-rows c =
    let g = c.attributes-attrs.ensures in
    let from = laws.to_z-of_z w64 c.in_ok-when.when.start (record { sfits = omega arith }) in
    let left = five c.args.cues.now c.args.times.now c.collect_segments.new.segments c.args.extras.now c.collect_segments.new.texts in
    rw (handed_on _ c.from_residual-in_err-rows.ensures)
    (no-segments c.requires c.element_at-e.result c.element_at-e.ensures c.args.reference c.args.ctx c.args.ws left c.in_ok-when.when
    (rw (g.table, g.bytes, g.from, g.count, to_z-of_z c.ranges.reference) at c.in_ok-when.ensures) c.resolve_ws-inside.result
    (rw (g.table, g.bytes, g.from, g.count) at c.resolve_ws-inside.ensures)
    _ (rw from at c.in_err-rows.ensures))

pub returns : goal.returns
returns c =
    let g = c.attributes-attrs.ensures in
    let from = laws.to_z-of_z w64 c.in_ok-when.when.start (record { sfits = omega arith }) in
    let left = five c.add_paragraph.new.cues c.add_paragraph.new.times c.collect_segments.new.segments c.add_paragraph.new.extras c.collect_segments.new.texts in
    cued c.requires c.element_at-e.result c.element_at-e.ensures c.args.reference c.args.ctx c.args.ws left c.in_ok-when.when
    (rw (g.table, g.bytes, g.from, g.count, to_z-of_z c.ranges.reference) at c.in_ok-when.ensures) c.resolve_ws-inside.result
    (rw (g.table, g.bytes, g.from, g.count) at c.resolve_ws-inside.ensures)
    c.in_ok-rows.rows (rw from at c.in_ok-rows.ensures) c.add_paragraph.result
    (rw (g.table, g.bytes, g.from, g.count) at c.add_paragraph.ensures)
