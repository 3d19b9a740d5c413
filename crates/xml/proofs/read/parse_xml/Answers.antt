-- `parse_xml` meets its promise: the strings are cleared first; a tree's rows are read in place, and a refusal leaves what the tree reader left.
use Prim.Native.Nat.{◌≤◌}
use mathlib.Core.Path.{sym, ◌∙◌}
use native.Mathlib.Omega.{arith}
use lib.ListN.{length}
use Rattle.scan.proofs.Handed.{handed_on}
use Rattle.xml.proofs.Parsing.{nodes-stand_ready, attrs-stand_ready, left_small, left_refused, left_tree}
use Rattle.xml.proofs.Promises.{parsed-of}
use Rattle.xml.proofs.read.parse_xml.Goals as goal

pub returns-then-strings-lt-STRING_CELLS : goal.returns-then-strings-lt-STRING_CELLS
returns-then-strings-lt-STRING_CELLS c =
    parsed-of c.args.text.now c.args.nodes.now c.args.attrs.now c.args.strings.now
    (left_small c.args.text.now (length c.args.nodes.now) (length c.args.attrs.now) (length c.args.strings.now) _ _ _
    (omega (arith, c.clear_bytes.auto.cells, c.if-strings-lt-STRING_CELLS.true)) c.clear.ensures c.clear-then-strings-lt-STRING_CELLS.ensures c.clear_bytes.ensures)

pub read_nodes-requires : goal.read_nodes-requires
read_nodes-requires c =
    let e = sym c.in_ok-t.was ∙ c.read_tree.ensures.answer in
    nodes-stand_ready c.args.text.now _ (length c.args.nodes.now) (length c.args.attrs.now) _ _ c.if-strings-lt-STRING_CELLS.false e _ c.read_tree.ensures.of_nodes

pub read_attrs-requires : goal.read_attrs-requires
read_attrs-requires c =
    let e = sym c.in_ok-t.was ∙ c.read_tree.ensures.answer in
    let h : 65536 ≤ length c.args.strings.now = omega (arith, c.clear_bytes.auto.cells, c.if-strings-lt-STRING_CELLS.false) in
    attrs-stand_ready c.args.text.now _ (length c.args.nodes.now) (length c.args.attrs.now) _ _
    (omega (arith, h, c.clear_bytes.auto.cells, c.read_nodes.auto)) e _ c.read_tree.ensures.of_attrs

pub returns-in_err-t : goal.returns-in_err-t
returns-in_err-t c =
    let e = sym c.in_err-t.was ∙ c.read_tree.ensures.answer in
    let h : 65536 ≤ length c.args.strings.now = omega (arith, c.clear_bytes.auto.cells, c.if-strings-lt-STRING_CELLS.false) in
    rw (handed_on _ c.from_residual.ensures) (parsed-of c.args.text.now c.args.nodes.now c.args.attrs.now c.args.strings.now
    (left_refused c.args.text.now (length c.args.nodes.now) (length c.args.attrs.now) (length c.args.strings.now) _ _ _ _ h e
    c.read_tree.ensures.of_nodes c.read_tree.ensures.of_attrs c.clear_bytes.ensures))

pub returns : goal.returns
returns c =
    let e = sym c.in_ok-t.was ∙ c.read_tree.ensures.answer in
    let h : 65536 ≤ length c.args.strings.now = omega (arith, c.clear_bytes.auto.cells, c.if-strings-lt-STRING_CELLS.false) in
    let v = c.read_nodes.ensures in
    let w = c.read_attrs.ensures in
    parsed-of c.args.text.now c.args.nodes.now c.args.attrs.now c.args.strings.now
    (left_tree c.args.text.now (length c.args.nodes.now) (length c.args.attrs.now) (length c.args.strings.now) _ _ _ _ _ _ _ _ _ h e
    c.read_tree.ensures.of_nodes c.read_tree.ensures.of_attrs c.clear_bytes.ensures v.nodes_after v.strings_after w.attrs_after w.strings_after)
