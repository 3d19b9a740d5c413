use Prim.Native.Nat.{◌+◌, ◌-◌, ◌*◌, ◌≤◌, ◌<◌}
use mathlib.Core.Path.{◌≡◌, sym, ◌∙◌}
use native.Mathlib.Omega.{arith}
use lib.ListN.{length, get_or}
use mir.Syntax.{w64}
use mir.Facts.{to_z-of_z}
use mir.ValLaws as laws
use borrow.Author.Rules.{rules}
use Rattle.scan.proofs.Handed.{handed_on}
use Rattle.content.proofs.Reading.{element-kind, element-end, text-came, break-came, unknown-came, span-refused, span-inside, span-came, node_row, node_end, text-asks, break-asks, node-attrs, own-asks, post_more, along_start, along_asks, along_next, along_step, along_fail, along_done}
use Rattle.content.proofs.collect.+collect_node_collect_segments_inner_collect_span.Goals as goal

pub collect_node-overflow_mul-k : goal.collect_node-overflow_mul-k
collect_node-overflow_mul-k t c =
    let h = (node_row c.requires.entry c.requires.some).row in
    search (rules, h)

pub collect_node-offset_bounds-tree-k : goal.collect_node-offset_bounds-tree-k
collect_node-offset_bounds-tree-k t c =
    let h = (node_row c.requires.entry c.requires.some).row in
    search (rules, h)

pub collect_node-bounds-tree-k : goal.collect_node-bounds-tree-k
collect_node-bounds-tree-k t c =
    let h = (node_row c.requires.entry c.requires.some).row in
    search (rules, h)

pub collect_node-collect_text-requires : goal.collect_node-collect_text-requires
collect_node-collect_text-requires t c =
    (c.requires.roomy, c.requires.few, (node_row c.requires.entry c.requires.some).row, text-asks c.requires.entry c.requires.some c.if-tree-k-ne-ELEMENT.true)

pub collect_node-returns-then-tree-k-ne-ELEMENT : goal.collect_node-returns-then-tree-k-ne-ELEMENT
collect_node-returns-then-tree-k-ne-ELEMENT t c =
    λ w end x j.
    text-came w c.args.tree.now.nodes.now c.args.tree.now.attrs.now c.args.tree.now.strings.now c.args.base c.args.ctx c.args.ws c.args.k x.own end c.args.first x.hi c.args.run
    x.earlier
    x.before c.args.segments.now c.args.texts.now c.collect_text.new.segments c.collect_text.new.texts
    c.collect_text.result x.forest (x.holds, x.rows, x.placed, x.standing, x.flag) j c.if-tree-k-ne-ELEMENT.true c.collect_text.ensures

pub collect_node-element_at-e-requires : goal.collect_node-element_at-e-requires
collect_node-element_at-e-requires t c =
    (node_row c.requires.entry c.requires.some).row

pub collect_node-is_element-requires : goal.collect_node-is_element-requires
collect_node-is_element-requires t c =
    node_row c.requires.entry c.requires.some

pub collect_node-collect_break-requires : goal.collect_node-collect_break-requires
collect_node-collect_break-requires t c =
    let b = break-asks c.requires.entry.standing in
    (c.requires.roomy.wide, b.0, b.1)

pub collect_node-returns-then-is_element : goal.collect_node-returns-then-is_element
collect_node-returns-then-is_element t c =
    λ w end x j.
    break-came w c.args.tree.now.nodes.now c.args.tree.now.attrs.now c.args.tree.now.strings.now c.args.base c.args.ctx c.args.ws c.args.k x.own end c.args.first x.hi c.args.run
    x.earlier
    x.before c.args.segments.now c.args.texts.now c.collect_break.new.segments c.collect_break.new.texts
    c.collect_break.result x.forest (x.holds, x.rows, x.placed, x.standing, x.flag) j c.element_at-e.result
    c.element_at-e.ensures
    (sym c.is_element.ensures ∙ c.if-is_element.true) c.collect_break.ensures

pub collect_node-is_element-requires-2 : goal.collect_node-is_element-requires-2
collect_node-is_element-requires-2 t c =
    node_row c.requires.entry c.requires.some

pub collect_node-collect_span-requires : goal.collect_node-collect_span-requires
collect_node-collect_span-requires t c = (
  omega arith,
  record {
    first = c.args.first;
    node = c.requires;
    no_break = sym c.is_element.ensures ∙ c.if-is_element.false;
    a_span = sym c.is_element-2.ensures ∙ c.if-is_element-2.true;
  },
)

pub collect_node-returns-then-is_element-2 : goal.collect_node-returns-then-is_element-2
collect_node-returns-then-is_element-2 t c =
    (rw (to_z-of_z c.ranges.base) at c.collect_span.ensures) c.args.first

pub collect_node-overflow_add-k : goal.collect_node-overflow_add-k
collect_node-overflow_add-k t c =
    let h = (node_row c.requires.entry c.requires.some).row in
    search (rules, h)

pub collect_node-collect_segments_inner-requires : goal.collect_node-collect_segments_inner-requires
collect_node-collect_segments_inner-requires t c =
    let e = element-end c.args.tree.now.nodes.now c.args.k c.element_at-e.result c.element_at-e.ensures in
    let falls : 3 * (c.element_at-e.result.end - (c.args.k + 1)) + 2 < t = omega (arith, (node_end c.requires.entry c.requires.some).0, e) in
    (falls, own-asks c.element_at-e.result c.requires c.if-tree-k-ne-ELEMENT.false c.element_at-e.ensures)

pub collect_node-returns : goal.collect_node-returns
collect_node-returns t c =
    λ w end x j.
    unknown-came w c.args.tree.now.nodes.now c.args.tree.now.attrs.now c.args.tree.now.strings.now c.args.base c.args.ctx c.args.ws c.args.k x.own end c.args.first x.hi c.args.run
    x.earlier
    x.before c.args.segments.now c.args.texts.now j c.element_at-e.result c.element_at-e.ensures
    (sym c.is_element.ensures ∙ c.if-is_element.false) x.forest (x.holds, x.rows, x.placed, x.standing, x.flag) c.if-tree-k-ne-ELEMENT.false
    (sym c.is_element-2.ensures ∙ c.if-is_element-2.false) c.collect_segments_inner.new.segments c.collect_segments_inner.new.texts c.collect_segments_inner.result
    (rw (to_z-of_z c.ranges.base) at c.collect_segments_inner.ensures)

pub collect_segments_inner-loop-k-init : goal.collect_segments_inner-loop-k-init
collect_segments_inner-loop-k-init t c =
    along_start c.requires

pub collect_segments_inner-collect_node-requires : goal.collect_segments_inner-collect_node-requires
collect_segments_inner-collect_node-requires t c =
    let n = along_asks c.requires c.loop-k.invariant c.loop-k-test.true in
    let row = get_or c.args.tree.now.nodes.now (c.loop-k.k * 6 + 1) 0 in
    let e : (c.loop-k.k < row) × (row ≤ c.args.end) = along_next c.requires c.loop-k.invariant c.loop-k-test.true in
    let low : c.args.from ≤ c.loop-k.k = c.loop-k.invariant.low in
    let all : 3 * (c.args.end - c.args.from) + 2 ≡ t = omega arith in
    let falls : 3 * (row - c.loop-k.k) + 1 < t = omega (arith, all, low, e.0, e.1) in
    (falls, n)

pub collect_segments_inner-returns-in_err-s : goal.collect_segments_inner-returns-in_err-s
collect_segments_inner-returns-in_err-s t c =
    rw (handed_on _ c.from_residual.ensures)
    (rw (to_z-of_z c.ranges.base) at
    (along_fail c.requires c.loop-k.invariant c.loop-k-test.true c.collect_node.new.segments c.collect_node.new.texts c.in_err-s.ensures))

pub collect_segments_inner-overflow_mul-k : goal.collect_segments_inner-overflow_mul-k
collect_segments_inner-overflow_mul-k t c =
    let n = along_asks c.requires c.loop-k.invariant c.loop-k-test.true in
    let h = (node_row n.entry n.some).row in
    search (rules, h)

pub collect_segments_inner-overflow_add-k : goal.collect_segments_inner-overflow_add-k
collect_segments_inner-overflow_add-k t c =
    let n = along_asks c.requires c.loop-k.invariant c.loop-k-test.true in
    let h = (node_row n.entry n.some).row in
    search (rules, h)

pub collect_segments_inner-get-k-requires : goal.collect_segments_inner-get-k-requires
collect_segments_inner-get-k-requires t c =
    let n = along_asks c.requires c.loop-k.invariant c.loop-k-test.true in
    let h = (node_row n.entry n.some).row in
    omega (arith, h)

pub collect_segments_inner-loop-k-smaller : goal.collect_segments_inner-loop-k-smaller
collect_segments_inner-loop-k-smaller t c =
    let n = along_asks c.requires c.loop-k.invariant c.loop-k-test.true in
    omega (arith, c.get-k.ensures, (node_end n.entry n.some).0, c.loop-k-test.true)

pub collect_segments_inner-loop-k-preserved : goal.collect_segments_inner-loop-k-preserved
collect_segments_inner-loop-k-preserved t c =
    let c₁ : length c.collect_node.new.segments ≡ length c.loop-k.segments = search rules in
    let c₂ : length c.collect_node.new.texts ≡ length c.loop-k.texts = search rules in
    rw c.get-k.ensures
    (along_step c.requires c.loop-k.invariant c.loop-k-test.true c.collect_node.new.segments c.collect_node.new.texts
    c.in_ok-s.ensures c₁ c₂)

pub collect_segments_inner-shape_of-segments : goal.collect_segments_inner-shape_of-segments
collect_segments_inner-shape_of-segments t c =
    search (rules, c.loop-k.invariant.same_cells)

pub collect_segments_inner-shape_of-texts : goal.collect_segments_inner-shape_of-texts
collect_segments_inner-shape_of-texts t c =
    search (rules, c.loop-k.invariant.same_texts)

pub collect_segments_inner-returns : goal.collect_segments_inner-returns
collect_segments_inner-returns t c =
    rw (to_z-of_z c.ranges.base) at (along_done c.requires c.loop-k.invariant c.loop-k-test.false)

pub collect_span-element_at-e-requires : goal.collect_span-element_at-e-requires
collect_span-element_at-e-requires t c =
    (node_row c.requires.node.entry c.requires.node.some).row

pub collect_span-attributes-attrs-requires : goal.collect_span-attributes-attrs-requires
collect_span-attributes-attrs-requires t c =
    node-attrs c.element_at-e.result c.requires.node (element-kind _ _ _ _ c.requires.a_span) c.element_at-e.ensures

pub collect_span-overflow_add-k : goal.collect_span-overflow_add-k
collect_span-overflow_add-k t c =
    let h = (node_row c.requires.node.entry c.requires.node.some).row in
    search (rules, h)

pub collect_span-collect_segments_inner-requires : goal.collect_span-collect_segments_inner-requires
collect_span-collect_segments_inner-requires t c =
    let e = element-end c.args.tree.now.nodes.now c.args.k c.element_at-e.result c.element_at-e.ensures in
    let falls : 3 * (c.element_at-e.result.end - (c.args.k + 1)) + 2 < t = omega (arith, (node_end c.requires.node.entry c.requires.node.some).0, e) in
    (falls, own-asks c.element_at-e.result c.requires.node (element-kind _ _ _ _ c.requires.a_span) c.element_at-e.ensures)

pub collect_span-wrap_with_style-requires : goal.collect_span-wrap_with_style-requires
collect_span-wrap_with_style-requires t c =
    let kind = element-kind _ _ _ _ c.requires.a_span in
    let asks = own-asks c.element_at-e.result c.requires.node kind c.element_at-e.ensures in
    let more = post_more c.in_ok-inner.inner asks c.in_ok-inner.ensures in
    let wide : 98304 ≤ length c.collect_segments_inner.new.segments = search (rules, c.requires.node.roomy.wide) in
    rw c.attributes-attrs.ensures.bytes (more.0, more.1, wide, c.requires.node.roomy.small)

pub collect_span-returns-in_err-begin : goal.collect_span-returns-in_err-begin
collect_span-returns-in_err-begin t c =
    rw (handed_on _ c.from_residual.ensures) (λ first w end x j.
    let g = c.attributes-attrs.ensures in
    span-refused w c.args.tree.now.nodes.now c.args.tree.now.attrs.now c.args.tree.now.strings.now c.args.base c.args.ctx c.args.ws c.args.k x.own end first x.hi c.args.run
    x.earlier
    x.before c.args.segments.now c.args.texts.now j c.element_at-e.result c.element_at-e.ensures
    c.requires.no_break
    c.requires.a_span x.forest (x.holds, x.rows, x.placed, x.standing, x.flag) _
    (rw (g.table, g.bytes, g.from, g.count, to_z-of_z c.ranges.base) at c.in_err-begin.ensures))

pub collect_span-returns-in_err-inner : goal.collect_span-returns-in_err-inner
collect_span-returns-in_err-inner t c =
    rw (handed_on _ c.from_residual-in_err-inner.ensures) (λ first w end x j.
    let g = c.attributes-attrs.ensures in
    let time = laws.to_z-of_z w64 c.unwrap_or-from.result (record { sfits = omega arith }) in
    span-inside w c.args.tree.now.nodes.now c.args.tree.now.attrs.now c.args.tree.now.strings.now c.args.base c.args.ctx c.args.ws c.args.k x.own end first x.hi c.args.run x.earlier
    x.before c.args.segments.now c.args.texts.now j c.element_at-e.result
    c.element_at-e.ensures c.requires.no_break
    c.requires.a_span c.in_ok-begin.begin c.ranges.base (rw (g.table, g.bytes, g.from, g.count, to_z-of_z c.ranges.base) at c.in_ok-begin.ensures)
    c.resolve_ws-inside.result (rw (g.table, g.bytes, g.from, g.count) at c.resolve_ws-inside.ensures)
    c.collect_segments_inner.new.segments c.collect_segments_inner.new.texts x.forest (x.holds, x.rows, x.placed, x.standing, x.flag)
    _
    (rw (time, c.unwrap_or-from.ensures, to_z-of_z c.ranges.base) at c.in_err-inner.ensures))

pub collect_span-returns : goal.collect_span-returns
collect_span-returns t c =
    λ first w end x j.
    let g = c.attributes-attrs.ensures in
    let time = laws.to_z-of_z w64 c.unwrap_or-from.result (record { sfits = omega arith }) in
    span-came w c.args.tree.now.nodes.now c.args.tree.now.attrs.now c.args.tree.now.strings.now c.args.base c.args.ctx c.args.ws c.args.k x.own end first x.hi c.args.run x.earlier
    x.before c.args.segments.now c.args.texts.now j c.element_at-e.result
    c.element_at-e.ensures c.requires.no_break
    c.requires.a_span c.in_ok-begin.begin c.ranges.base (rw (g.table, g.bytes, g.from, g.count, to_z-of_z c.ranges.base) at c.in_ok-begin.ensures)
    c.resolve_ws-inside.result (rw (g.table, g.bytes, g.from, g.count) at c.resolve_ws-inside.ensures)
    c.collect_segments_inner.new.segments c.collect_segments_inner.new.texts x.forest (x.holds, x.rows, x.placed, x.standing, x.flag) c.in_ok-inner.inner
    (rw (time, c.unwrap_or-from.ensures, to_z-of_z c.ranges.base) at c.in_ok-inner.ensures) c.wrap_with_style.new.segments c.wrap_with_style.result
    (rw (g.table, g.bytes, g.from, g.count, time, c.unwrap_or-from.ensures, to_z-of_z c.ranges.base, c.is_some.ensures) at c.wrap_with_style.ensures)
