-- `parse_section` meets its contract: no room for a node, or its row is laid, and the place after it is past the end mark or the text's end.
-- Assumes nothing.
use Prim.Native.Nat.{◌+◌}
use Rattle.scan.specs.Posts.{Passed}
use Rattle.tree.specs.Read.{cdata_end}
use Rattle.scan.proofs.Searches.{passed_got}
use Rattle.tree.proofs.NodeLaws.{section-full, section-unclosed, built_section}
use Rattle.tree.proofs.nodes.parse_section.Goals as goal
use Rattle.tree.proofs.nodes.parse_section.Goals.{then-e-src, else-e-src}

pub returns-then-k-ge-MOST : goal.returns-then-k-ge-MOST
returns-then-k-ge-MOST c =
    λ u. rw c.new.ensures (section-full _ _ _ _ c.if-k-ge-MOST.true)

pub returns : goal.returns
returns c =
    let passed : Passed cdata_end c.args.src.now (c.args.pos + 9) c.if-e-src.q
    = elim c.if-e-src.branch [
      | then-e-src w ↦ rw w.q-is (passed_got cdata_end c.args.src.now (c.args.pos + 9) c.find_seq-e.result c.find_seq-e.ensures w.if-e-src.true)
      | else-e-src w ↦ rw w.q-is (section-unclosed cdata_end c.args.src.now (c.args.pos + 9) c.find_seq-e.result c.find_seq-e.ensures w.if-e-src.false)
    ] in
    λ u. built_section c.args.src.now c.args.nodes.now _ u c.args.pos c.args.k c.args.a c.find_seq-e.result c.if-k-ge-MOST.false c.requires.3 c.if-e-src.q c.find_seq-e.ensures
    passed c.put_node.ensures
