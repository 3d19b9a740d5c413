-- `is_element` meets its contract: of an element, the part of its name after the last colon, compared; of another node, no.
use Prim.Native.Nat.{◌+◌}
use mathlib.Core.Path.{◌∙◌}
use native.Mathlib.Omega.{arith}
use borrow.Author.Tests.{eq-eqb, ne_eqb}
use Rattle.scan.specs.Part.{string_at}
use Rattle.xml.specs.Find.{is_element, named}
use Rattle.xml.proofs.FindSteps.{local_within, local_part}
use Rattle.xml.proofs.find.is_element.Goals as goal

pub returns-then-nodes-at-ne-ELEMENT : goal.returns-then-nodes-at-ne-ELEMENT
unfolding is_element
returns-then-nodes-at-ne-ELEMENT c =
    rw (ne_eqb _ 2 c.if-nodes-at-ne-ELEMENT.true)

pub overflow_add-start : goal.overflow_add-start
overflow_add-start c =
    omega (arith, c.requires.within c.if-nodes-at-ne-ELEMENT.false)

pub overflow_add-stop : goal.overflow_add-stop
overflow_add-stop c =
    omega (arith, c.requires.within c.if-nodes-at-ne-ELEMENT.false)

pub slice_bounds-tag_local-end : goal.slice_bounds-tag_local-end
slice_bounds-tag_local-end c =
    omega (arith, c.requires.within c.if-nodes-at-ne-ELEMENT.false)

pub overflow_add-local : goal.overflow_add-local
unfolding string_at
overflow_add-local c =
    let w = c.requires.within c.if-nodes-at-ne-ELEMENT.false in
    let l =
    local_within
    c.args.strings.now
    (c.get-start.result + 1) c.get.result c.tag_local.result _ c.tag_local.ensures
    in
    omega arith

pub slice_bounds-eq_ignore_ascii_case-end : goal.slice_bounds-eq_ignore_ascii_case-end
unfolding string_at
slice_bounds-eq_ignore_ascii_case-end c =
    let w = c.requires.within c.if-nodes-at-ne-ELEMENT.false in
    let l =
    local_within
    c.args.strings.now
    (c.get-start.result + 1) c.get.result c.tag_local.result _ c.tag_local.ensures
    in
    omega arith

pub returns : goal.returns
unfolding is_element named string_at
returns c =
    let e = eq-eqb _ 2 c.if-nodes-at-ne-ELEMENT.false in
    let l =
    local_part
    c.args.strings.now
    (c.get-start.result + 1) c.get.result c.tag_local.result _ c.tag_local.ensures
    in
    rw (e, ← c.get-start.ensures, ← c.get.ensures) (c.eq_ignore_ascii_case.ensures ∙ rw l)
