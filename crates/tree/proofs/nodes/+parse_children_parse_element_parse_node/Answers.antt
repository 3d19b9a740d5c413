-- The cycle of `parse_node`, `parse_element` and `parse_children` meets its contracts. Assumes nothing.
use Rattle.scan.proofs.Handed.{handed_on}
use Rattle.std.proofs.Common.{rules, arith, refl, sym, ◌∙◌}
use Rattle.tree.specs.Read.{element_of, text_at, section_at}
use Rattle.tree.proofs.NodeLaws.{node_end, node-text, node-section, node-close, node-element, el_deep, el_full, el_tag, tagged-torn}
use Rattle.tree.proofs.NodeLaws.{tagged-open, enclose-bad, built_shut, built_elem, lower}
use Rattle.tree.proofs.Going.{start, out, fail_node, idle, step, inner_node, closed}
use Rattle.tree.proofs.nodes.+parse_children_parse_element_parse_node.Goals as goal

pub parse_children-loop-pos-init : goal.parse_children-loop-pos-init
parse_children-loop-pos-init t c = start _ _ _ _ _ _ _ c.requires

pub parse_children-returns-then-starts_with : goal.parse_children-returns-then-starts_with
parse_children-returns-then-starts_with t c =
    rw c.parse_close.ensures (closed (element_of c.args.room c.args.src.now) c.loop-pos.invariant c.loop-pos-test.true
    (sym c.starts_with.ensures.is ∙ c.if-starts_with.true))

pub parse_children-parse_node-requires : goal.parse_children-parse_node-requires
parse_children-parse_node-requires t c = search rules

pub parse_children-loop-pos-preserved : goal.parse_children-loop-pos-preserved
parse_children-loop-pos-preserved t c =
    step c.loop-pos.invariant _ c.loop-pos-test.true (inner_node c.args.src.now _ c.loop-pos.pos _ (sym c.starts_with.ensures.is
    ∙ c.if-starts_with.false)) _ (rw c.in-Node.is at c.in_ok-c.ensures)

pub parse_children-returns-in-Nothing : goal.parse_children-returns-in-Nothing
parse_children-returns-in-Nothing t c =
    idle c.loop-pos.invariant _ c.loop-pos-test.true (inner_node c.args.src.now _ c.loop-pos.pos _ (sym c.starts_with.ensures.is
    ∙ c.if-starts_with.false)) _ (rw c.in-Nothing.is at c.in_ok-c.ensures)

pub parse_children-returns-in_err-c : goal.parse_children-returns-in_err-c
parse_children-returns-in_err-c t c =
    rw (handed_on _ c.from_residual.ensures) (fail_node c.loop-pos.invariant _ c.loop-pos-test.true (inner_node c.args.src.now _ c.loop-pos.pos _ (sym c.starts_with.ensures.is
    ∙ c.if-starts_with.false)) _ _ c.in_err-c.ensures)

pub parse_children-returns : goal.parse_children-returns
parse_children-returns t c = out c.loop-pos.invariant c.loop-pos-test.false

pub parse_element-returns-then-room-eq0 : goal.parse_element-returns-then-room-eq0
parse_element-returns-then-room-eq0 t c =
    rw c.new.ensures (el_deep _ _ _ _ _ c.if-room-eq0.true)

pub parse_element-returns-then-k-ge-MOST : goal.parse_element-returns-then-k-ge-MOST
parse_element-returns-then-k-ge-MOST t c =
    rw c.new-then-k-ge-MOST.ensures (el_full _ _ _ _ _ c.if-room-eq0.false c.if-k-ge-MOST.true)

pub parse_element-parse_children-requires : goal.parse_element-parse_children-requires
parse_element-parse_children-requires t c =
    let l = rw c.in-Open.is at c.in_ok-t.ensures in
    omega (arith, l.most, l.within, l.after)

pub parse_element-returns-in_err-t : goal.parse_element-returns-in_err-t
parse_element-returns-in_err-t t c =
    let a = c.args in
    rw (handed_on _ c.from_residual.ensures) (el_tag a.room a.src.now a.pos a.k a.a c.if-room-eq0.false c.over_long-e.result _ c.if-k-ge-MOST.false c.over_long-e.ensures
    c.in_err-t.ensures ∙ tagged-torn _ _ _ _ _ _)

pub parse_element-returns-in-Shut : goal.parse_element-returns-in-Shut
parse_element-returns-in-Shut t c =
    let a = c.args in
    let l = rw c.in-Shut.is at c.in_ok-t.ensures in
    built_shut _ _ a.src.now a.nodes.now _ a.attrs.now _ a.pos _ a.k a.a l.list _
    (el_tag a.room a.src.now a.pos a.k a.a c.if-room-eq0.false c.over_long-e.result _ c.if-k-ge-MOST.false c.over_long-e.ensures
    l.is)
    (omega (arith, l.after, c.over_long-e.ensures.after)) l.within l.counted l.most c.if-k-ge-MOST.false
    c.put_node.ensures
    l.laid

pub parse_element-returns-in_err-c-in-Open : goal.parse_element-returns-in_err-c-in-Open
parse_element-returns-in_err-c-in-Open t c =
    let a = c.args in
    let l = rw c.in-Open.is at c.in_ok-t.ensures in
    rw (handed_on _ c.from_residual-in_err-c-in-Open.ensures) (el_tag a.room a.src.now a.pos a.k a.a c.if-room-eq0.false c.over_long-e.result _ c.if-k-ge-MOST.false
    c.over_long-e.ensures l.is
    ∙ (tagged-open _ _ _ _ _ _ _ ∙ enclose-bad _ _ _ _ _ _ c.in_err-c-in-Open.ensures))

pub parse_element-returns-in_ok-c-in-Open : goal.parse_element-returns-in_ok-c-in-Open
parse_element-returns-in_ok-c-in-Open t c =
    let a = c.args in
    let l = rw c.in-Open.is at c.in_ok-t.ensures in
    built_elem _ _ a.src.now a.nodes.now _ _ a.attrs.now _ _ a.pos _ a.k a.a _ _ l.list _
    (el_tag a.room a.src.now a.pos a.k a.a c.if-room-eq0.false c.over_long-e.result _ c.if-k-ge-MOST.false c.over_long-e.ensures
    l.is
    ∙ tagged-open _ _ _ _ _ _ _)
    c.in_ok-c-in-Open.ensures (omega (arith, l.after, c.over_long-e.ensures.after)) l.counted
    c.put_node-in-Open.ensures l.laid

pub parse_node-returns-then-src-at : goal.parse_node-returns-then-src-at
parse_node-returns-then-src-at t c =
    let a = c.args in
    record {
      is = node_end a.src.now _ a.pos a.k a.a c.skip_comments-at.result c.skip_comments-at.ensures c.if-src-at.true;
      after = c.skip_comments-at.ensures.after;
      within = c.skip_comments-at.ensures.within;
      same = refl;
      alike = refl;
    }

pub parse_node-returns-then-src-at-ne60 : goal.parse_node-returns-then-src-at-ne60
parse_node-returns-then-src-at-ne60 t c =
    let a = c.args in
    let at = c.skip_comments-at.result in
    rw (node-text a.src.now (element_of a.room a.src.now) a.pos a.k a.a at c.skip_comments-at.ensures c.if-src-at.false
    c.if-src-at-ne60.true)
    (lower (text_at a.src.now at a.k a.a) a.src.now a.nodes.now c.parse_text.new.nodes a.attrs.now
    a.attrs.now a.pos at a.k a.a c.parse_text.result c.skip_comments-at.ensures.after
    (c.parse_text.ensures a.attrs.now))

pub parse_node-returns-then-starts_with : goal.parse_node-returns-then-starts_with
parse_node-returns-then-starts_with t c =
    let a = c.args in
    let at = c.skip_comments-at.result in
    rw (node-section a.src.now (element_of a.room a.src.now) a.pos a.k a.a at c.skip_comments-at.ensures c.if-src-at.false
    c.if-src-at-ne60.false (sym c.starts_with.ensures.is ∙ c.if-starts_with.true))
    (lower (section_at a.src.now at a.k a.a) a.src.now a.nodes.now c.parse_section.new.nodes a.attrs.now
    a.attrs.now a.pos at a.k a.a c.parse_section.result c.skip_comments-at.ensures.after
    (c.parse_section.ensures a.attrs.now))

pub parse_node-returns-then-starts_with-2 : goal.parse_node-returns-then-starts_with-2
parse_node-returns-then-starts_with-2 t c =
    let a = c.args in
    record {
      is = node-close a.src.now (element_of a.room a.src.now) a.pos a.k a.a c.skip_comments-at.result
          c.skip_comments-at.ensures c.if-src-at.false c.if-src-at-ne60.false (sym c.starts_with.ensures.is ∙ c.if-starts_with.false)
          (sym c.starts_with-2.ensures.is ∙ c.if-starts_with-2.true);
      after = c.skip_comments-at.ensures.after;
      within = c.skip_comments-at.ensures.within;
      same = refl;
      alike = refl;
    }

pub parse_node-parse_element-requires : goal.parse_node-parse_element-requires
parse_node-parse_element-requires t c =
    omega (arith, c.skip_comments-at.ensures.after, c.skip_comments-at.ensures.within, c.if-src-at.false)

pub parse_node-returns : goal.parse_node-returns
parse_node-returns t c =
    let a = c.args in
    let at = c.skip_comments-at.result in
    rw (node-element a.src.now (element_of a.room a.src.now) a.pos a.k a.a at c.skip_comments-at.ensures c.if-src-at.false
    c.if-src-at-ne60.false (sym c.starts_with.ensures.is ∙ c.if-starts_with.false) (sym c.starts_with-2.ensures.is ∙ c.if-starts_with-2.false))
    (lower (element_of a.room a.src.now at a.k a.a) a.src.now a.nodes.now c.parse_element.new.nodes a.attrs.now
    c.parse_element.new.attrs a.pos at a.k a.a c.parse_element.result c.skip_comments-at.ensures.after
    c.parse_element.ensures)
