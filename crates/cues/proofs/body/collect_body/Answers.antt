-- `collect_body` meets its contract. Assumes nothing.
use native.Mathlib.Omega.{arith}
use mir.Syntax.{w64}
use mir.ValLaws as laws
use Rattle.scan.proofs.Handed.{handed_on}
use Rattle.cues.specs.Steps.{five}
use Rattle.cues.proofs.Walking.{child-room, child-attrs, body_asks, body_none, body_refused, body_came}
use Rattle.cues.proofs.body.collect_body.Goals as goal

pub element_at-e-requires : goal.element_at-e-requires
element_at-e-requires c =
    let h = rw c.in-Some.is at c.find_element.ensures in
    child-room (body_asks c.requires h).child

pub attributes-requires : goal.attributes-requires
attributes-requires c =
    let h = rw c.in-Some.is at c.find_element.ensures in
    child-attrs (body_asks c.requires h).child c.element_at-e.result c.element_at-e.ensures

pub collect_container-requires : goal.collect_container-requires
collect_container-requires c =
    let h = rw c.in-Some.is at c.find_element.ensures in
    body_asks c.requires h

pub returns-in_default : goal.returns-in_default
returns-in_default c =
    let h = rw c.in_default.is at c.find_element.ensures in
    let w = five c.args.cues.now c.args.times.now c.args.segments.now c.args.extras.now c.args.texts.now in
    body_none c.args.tree.now.nodes.now c.args.tree.now.attrs.now c.args.tree.now.strings.now c.args.from c.args.end c.args.ctx c.args.ws c.args.rows w h

pub returns-in_err-begin : goal.returns-in_err-begin
returns-in_err-begin c =
    let h = rw c.in-Some.is at c.find_element.ensures in
    let w = five c.args.cues.now c.args.times.now c.args.segments.now c.args.extras.now c.args.texts.now in
    let g = c.attributes.ensures in
    rw (handed_on _ c.from_residual.ensures)
    (body_refused c.args.tree.now.nodes.now c.args.tree.now.attrs.now c.args.tree.now.strings.now c.args.from c.args.end c.args.ctx c.args.ws c.args.rows w
    c.in-Some.k h c.element_at-e.result c.element_at-e.ensures w _ (rw (g.table, g.bytes, g.from, g.count) at c.in_err-begin.ensures))

pub returns : goal.returns
returns c =
    let g = c.attributes.ensures in
    let at = laws.to_z-of_z w64 c.in_ok-begin.begin (record { sfits = omega arith }) in
    let h = rw c.in-Some.is at c.find_element.ensures in
    let w = five c.args.cues.now c.args.times.now c.args.segments.now c.args.extras.now c.args.texts.now in
    let w' = five c.collect_container.new.cues c.collect_container.new.times c.collect_container.new.segments c.collect_container.new.extras c.collect_container.new.texts in
    body_came c.args.tree.now.nodes.now c.args.tree.now.attrs.now c.args.tree.now.strings.now c.args.from c.args.end c.args.ctx c.args.ws c.args.rows w
    c.in-Some.k h c.element_at-e.result c.element_at-e.ensures w' c.in_ok-begin.begin (rw (g.table, g.bytes, g.from, g.count) at c.in_ok-begin.ensures) c.collect_container.result
    (rw at at c.collect_container.ensures)
