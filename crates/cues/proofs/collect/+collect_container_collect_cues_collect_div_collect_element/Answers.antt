use Rattle.std.specs.Prelude.{Ok}
use Prim.Native.Nat.{◌+◌, ◌-◌, ◌*◌, ◌≤◌, ◌<◌}
use mathlib.Core.Path.{◌≡◌, sym, ap, ◌∙◌}
use native.Mathlib.Omega.{arith}
use lib.ListN.{length, get_or}
use mir.Syntax.{w64}
use mir.Val.{to_z, of_z}
use mir.Facts.{to_z-of_z}
use mir.ValLaws as laws
use borrow.Author.Rules.{rules}
use Rattle.scan.proofs.Handed.{handed_on}
use Rattle.content.proofs.Reading.{element-end}
use Rattle.meaning.specs.Cues.{later}
use Rattle.styling.specs.Posts.{moment_said}
use Rattle.cues.specs.Steps.{five, following}
use Rattle.cues.proofs.Walking.{child-row, child-room, child-end, child-attrs, inner_asks, container_came, div_refused, div_inside, div_came}
use Rattle.cues.proofs.Walking.{child-div, child-p, child-unknown, walked_start, walked_row, walked_next, walked_asks}
use Rattle.cues.proofs.Walking.{max-later, walked_pass, walked_step, walked_fail, walked_done}
use borrow.Author.Rules.{rules}
use Rattle.cues.proofs.collect.+collect_container_collect_cues_collect_div_collect_element.Goals as goal

pub collect_container-element_at-e-requires : goal.collect_container-element_at-e-requires
collect_container-element_at-e-requires t c =
    child-room c.requires.child

pub collect_container-attributes-attrs-requires : goal.collect_container-attributes-attrs-requires
collect_container-attributes-attrs-requires t c =
    child-attrs c.requires.child c.element_at-e.result c.element_at-e.ensures

pub collect_container-overflow_add-k : goal.collect_container-overflow_add-k
collect_container-overflow_add-k t c =
    let h = child-room c.requires.child in
    search (rules, h)

pub collect_container-collect_cues-requires : goal.collect_container-collect_cues-requires
collect_container-collect_cues-requires t c =
    let last = element-end c.args.tree.now.nodes.now c.args.k c.element_at-e.result c.element_at-e.ensures in
    let falls : 4 * (c.element_at-e.result.end - (c.args.k + 1)) + 3 < t = omega (arith, child-end c.requires.child, last) in
    (falls, inner_asks c.element_at-e.result c.requires c.element_at-e.ensures)

pub collect_container-returns : goal.collect_container-returns
collect_container-returns t c =
    let g = c.attributes-attrs.ensures in
    container_came _ _ _ _ _ c.args.ws _ _ _ c.element_at-e.result c.element_at-e.ensures
    c.is_seq_container-seq.result c.args.begin c.resolve_ws-inside.result c.collect_cues.result (rw (g.table, g.bytes, g.from, g.count) at c.is_seq_container-seq.ensures) (rw (g.table, g.bytes, g.from, g.count) at c.resolve_ws-inside.ensures)
    (rw (to_z-of_z c.ranges.begin) at c.collect_cues.ensures)

pub collect_cues-loop-k-init : goal.collect_cues-loop-k-init
collect_cues-loop-k-init t c =
    walked_start c.args.tree.now.nodes.now c.args.tree.now.attrs.now c.args.tree.now.strings.now c.args.from c.args.end c.args.seq (to_z w64 (of_z w64 c.args.begin)) c.args.ctx c.args.ws
    c.args.line (five c.args.cues.now c.args.times.now c.args.segments.now c.args.extras.now c.args.texts.now)

pub collect_cues-overflow_mul-k : goal.collect_cues-overflow_mul-k
collect_cues-overflow_mul-k t c =
    let h = walked_row c.requires c.loop-k.invariant
    c.loop-k-test.true in
    search (rules, h)

pub collect_cues-overflow_add-k : goal.collect_cues-overflow_add-k
collect_cues-overflow_add-k t c =
    let h = walked_row c.requires c.loop-k.invariant
    c.loop-k-test.true in
    search (rules, h)

pub collect_cues-get-next-requires : goal.collect_cues-get-next-requires
collect_cues-get-next-requires t c =
    let h = walked_row c.requires c.loop-k.invariant c.loop-k-test.true in
    omega (arith, h)

pub collect_cues-overflow_mul-k-in-loop-k : goal.collect_cues-overflow_mul-k-in-loop-k
collect_cues-overflow_mul-k-in-loop-k t c =
    let h = walked_row c.requires c.loop-k.invariant c.loop-k-test.true in
    search (rules, h)

pub collect_cues-offset_bounds-tree-k : goal.collect_cues-offset_bounds-tree-k
collect_cues-offset_bounds-tree-k t c =
    let h = walked_row c.requires c.loop-k.invariant c.loop-k-test.true in
    search (rules, h)

pub collect_cues-bounds-tree-k : goal.collect_cues-bounds-tree-k
collect_cues-bounds-tree-k t c =
    let h = walked_row c.requires c.loop-k.invariant c.loop-k-test.true in
    search (rules, h)

pub collect_cues-loop-k-smaller-then-tree-k-ne-ELEMENT : goal.collect_cues-loop-k-smaller-then-tree-k-ne-ELEMENT
collect_cues-loop-k-smaller-then-tree-k-ne-ELEMENT t c =
    let n = walked_next c.requires c.loop-k.invariant c.loop-k-test.true in
    omega (arith, c.get-next.ensures, n.0, c.loop-k-test.true)

pub collect_cues-loop-k-preserved-then-tree-k-ne-ELEMENT : goal.collect_cues-loop-k-preserved-then-tree-k-ne-ELEMENT
collect_cues-loop-k-preserved-then-tree-k-ne-ELEMENT t c =
    rw c.get-next.ensures (walked_pass c.requires c.loop-k.invariant c.loop-k-test.true c.if-tree-k-ne-ELEMENT.true)

pub collect_cues-collect_element-requires : goal.collect_cues-collect_element-requires
collect_cues-collect_element-requires t c =
    let next = get_or c.args.tree.now.nodes.now (c.loop-k.k * 6 + 1) 0 in
    let e : (c.loop-k.k < next) × (next ≤ c.args.end) = walked_next c.requires c.loop-k.invariant c.loop-k-test.true in
    let low : c.args.from ≤ c.loop-k.k = c.loop-k.invariant.low in
    let all : 4 * (c.args.end - c.args.from) + 3 ≡ t = omega arith in
    let falls : 4 * (next - c.loop-k.k) + 2 < t = omega (arith, all, low, e.0, e.1) in
    (falls, walked_asks c.requires c.loop-k.invariant c.loop-k-test.true c.if-tree-k-ne-ELEMENT.false)

pub collect_cues-returns-in_err-s : goal.collect_cues-returns-in_err-s
collect_cues-returns-in_err-s t c =
    rw (handed_on _ c.from_residual.ensures)
    (rw (to_z-of_z c.ranges.begin) at
    (walked_fail c.requires c.loop-k.invariant c.loop-k-test.true c.if-tree-k-ne-ELEMENT.false
    (five c.collect_element.new.cues c.collect_element.new.times c.collect_element.new.segments c.collect_element.new.extras c.collect_element.new.texts)
    c.in_err-s.ensures))

pub collect_cues-loop-k-smaller : goal.collect_cues-loop-k-smaller
collect_cues-loop-k-smaller t c =
    let n = walked_next c.requires c.loop-k.invariant c.loop-k-test.true in
    omega (arith, c.get-next.ensures, n.0, c.loop-k-test.true)

pub collect_cues-loop-k-preserved : goal.collect_cues-loop-k-preserved
collect_cues-loop-k-preserved t c =
    let c₁ : length c.collect_element.new.cues ≡ length c.loop-k.cues = search rules in
    let c₂ : length c.collect_element.new.times ≡ length c.loop-k.times = search rules in
    let c₃ : length c.collect_element.new.segments ≡ length c.loop-k.segments = search rules in
    let c₄ : length c.collect_element.new.extras ≡ length c.loop-k.extras = search rules in
    let c₅ : length c.collect_element.new.texts ≡ length c.loop-k.texts = search rules in
    let at = laws.to_z-of_z w64 c.in_ok-s.s.end (record { sfits = omega arith }) in
    let last : to_z w64 (of_z w64 c.max-latest.result) ≡ later (to_z w64 c.loop-k.latest-bits) c.in_ok-s.s.end = laws.to_z-of_z w64 c.max-latest.result (record { sfits = omega arith }) ∙
    (rw at at (c.max-latest.ensures.value ∙ max-later (to_z w64 c.loop-k.latest-bits) (to_z w64 (of_z w64 c.in_ok-s.s.end)))) in
    let next : to_z w64 (of_z w64 c.following-reference.result) ≡ following c.args.seq (to_z w64 (of_z w64 c.args.begin)) c.in_ok-s.s.end =
    laws.to_z-of_z w64 c.following-reference.result (record { sfits = omega arith }) ∙ (rw at at c.following-reference.ensures) in
    rw (
      c.get-next.ensures,
      last,
      next,
    )
    (walked_step c.requires c.loop-k.invariant c.loop-k-test.true c.if-tree-k-ne-ELEMENT.false
    (five c.collect_element.new.cues c.collect_element.new.times c.collect_element.new.segments c.collect_element.new.extras c.collect_element.new.texts)
    (record { cues = c₁; times = c₂; segments = c₃; extras = c₄; texts = c₅ })
    c.in_ok-s.ensures)

pub collect_cues-returns : goal.collect_cues-returns
collect_cues-returns t c =
    rw (to_z-of_z c.ranges.begin) at (walked_done c.requires c.loop-k.invariant c.loop-k-test.false)

pub collect_div-element_at-e-requires : goal.collect_div-element_at-e-requires
collect_div-element_at-e-requires t c =
    child-room c.requires.child

pub collect_div-attributes-attrs-requires : goal.collect_div-attributes-attrs-requires
collect_div-attributes-attrs-requires t c =
    child-attrs c.requires.child c.element_at-e.result c.element_at-e.ensures

pub collect_div-collect_container-requires : goal.collect_div-collect_container-requires
collect_div-collect_container-requires t c =
    (omega arith, c.requires)

pub collect_div-returns-in_err-start : goal.collect_div-returns-in_err-start
collect_div-returns-in_err-start t c =
    let g = c.attributes-attrs.ensures in
    rw (handed_on _ c.from_residual.ensures)
    (div_refused _ _ _ _ _ c.args.ws _ _
    (five c.args.cues.now c.args.times.now c.args.segments.now c.args.extras.now c.args.texts.now)
    c.element_at-e.result c.element_at-e.ensures c.args.reference _ (rw (g.table, g.bytes, g.from, g.count, to_z-of_z c.ranges.reference) at c.in_err-start.ensures))

pub collect_div-returns-in_err-inner : goal.collect_div-returns-in_err-inner
collect_div-returns-in_err-inner t c =
    let g = c.attributes-attrs.ensures in
    let h = rw (g.table, g.bytes, g.from, g.count, to_z-of_z c.ranges.reference) at c.in_ok-start.ensures in
    let said = ap (λ s. moment_said (Ok s)) (laws.to_z-of_z w64 c.in_ok-start.start (record { sfits = omega arith })) in
    rw (handed_on _ c.from_residual-in_err-inner.ensures)
    (div_inside _ _ _ _ _ c.args.ws _ _
    (five c.collect_container.new.cues c.collect_container.new.times c.collect_container.new.segments c.collect_container.new.extras c.collect_container.new.texts)
    c.element_at-e.result c.element_at-e.ensures c.args.reference (to_z w64 (of_z w64 c.in_ok-start.start)) (λ l o. said ∙ h l o) _
    c.in_err-inner.ensures)

pub collect_div-returns : goal.collect_div-returns
collect_div-returns t c =
    let g = c.attributes-attrs.ensures in
    let h = rw (g.table, g.bytes, g.from, g.count, to_z-of_z c.ranges.reference) at c.in_ok-start.ensures in
    let said = ap (λ s. moment_said (Ok s)) (laws.to_z-of_z w64 c.in_ok-start.start (record { sfits = omega arith })) in
    div_came _ _ _ _ _ c.args.ws _ _
    (five c.collect_container.new.cues c.collect_container.new.times c.collect_container.new.segments c.collect_container.new.extras c.collect_container.new.texts)
    c.element_at-e.result c.element_at-e.ensures c.args.reference (to_z w64 (of_z w64 c.in_ok-start.start)) (λ l o. said ∙ h l o)
    c.in_ok-inner.inner c.in_ok-inner.ensures c.close_div.result (rw (g.table, g.bytes, g.from, g.count) at c.close_div.ensures)

pub collect_element-is_element-requires : goal.collect_element-is_element-requires
collect_element-is_element-requires t c =
    child-row c.requires.child

pub collect_element-collect_div-requires : goal.collect_element-collect_div-requires
collect_element-collect_div-requires t c =
    (omega arith, c.requires)

pub collect_element-returns-then-is_element : goal.collect_element-returns-then-is_element
collect_element-returns-then-is_element t c =
    child-div _ _ _ _ _ c.args.ws _ _ _ c.args.seq c.args.reference c.collect_div.result (sym c.is_element.ensures ∙ c.if-is_element.true)
    (rw (to_z-of_z c.ranges.reference) at c.collect_div.ensures)

pub collect_element-is_element-requires-2 : goal.collect_element-is_element-requires-2
collect_element-is_element-requires-2 t c =
    child-row c.requires.child

pub collect_element-collect_paragraph-requires : goal.collect_element-collect_paragraph-requires
collect_element-collect_paragraph-requires t c =
    c.requires

pub collect_element-returns-then-is_element-2 : goal.collect_element-returns-then-is_element-2
collect_element-returns-then-is_element-2 t c =
    child-p _ _ _ _ _ c.args.ws _ _ _ c.args.seq c.args.reference c.collect_paragraph.result (sym c.is_element.ensures ∙ c.if-is_element.false)
    (sym c.is_element-2.ensures ∙ c.if-is_element-2.true) (rw (to_z-of_z c.ranges.reference) at c.collect_paragraph.ensures)

pub collect_element-element_at-e-requires : goal.collect_element-element_at-e-requires
collect_element-element_at-e-requires t c =
    child-room c.requires.child

pub collect_element-attributes-attrs-requires : goal.collect_element-attributes-attrs-requires
collect_element-attributes-attrs-requires t c =
    child-attrs c.requires.child c.element_at-e.result c.element_at-e.ensures

pub collect_element-overflow_add-k : goal.collect_element-overflow_add-k
collect_element-overflow_add-k t c =
    let h = child-room c.requires.child in
    search (rules, h)

pub collect_element-collect_cues-requires : goal.collect_element-collect_cues-requires
collect_element-collect_cues-requires t c =
    let last = element-end c.args.tree.now.nodes.now c.args.k c.element_at-e.result c.element_at-e.ensures in
    let falls : 4 * (c.element_at-e.result.end - (c.args.k + 1)) + 3 < t = omega (arith, child-end c.requires.child, last) in
    (falls, inner_asks c.element_at-e.result c.requires c.element_at-e.ensures)

pub collect_element-returns : goal.collect_element-returns
collect_element-returns t c =
    let g = c.attributes-attrs.ensures in
    child-unknown _ _ _ _ _ c.args.ws _ _ _ c.args.seq c.args.reference c.collect_cues.result (sym c.is_element.ensures ∙ c.if-is_element.false)
    (sym c.is_element-2.ensures ∙ c.if-is_element-2.false) c.element_at-e.result c.element_at-e.ensures c.resolve_ws-inside.result (rw (g.table, g.bytes, g.from, g.count) at c.resolve_ws-inside.ensures)
    (rw (to_z-of_z c.ranges.reference) at c.collect_cues.ensures)
