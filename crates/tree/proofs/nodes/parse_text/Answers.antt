-- `parse_text` meets its contract: no room for a node, or its row is laid. Assumes nothing.
use Rattle.tree.proofs.NodeLaws.{text-full, built_text, text-beyond}
use Rattle.tree.proofs.nodes.parse_text.Goals as goal

pub returns-then-k-ge-MOST : goal.returns-then-k-ge-MOST
returns-then-k-ge-MOST c =
    λ u. rw c.new.ensures (text-full _ _ _ _ c.if-k-ge-MOST.true)

pub returns : goal.returns
returns c =
    λ u. built_text c.args.src.now c.args.nodes.now _ u c.args.pos c.args.k c.args.a c.over-e.result c.if-k-ge-MOST.false c.requires.4 c.over-e.ensures
    (text-beyond c.args.src.now c.args.pos _ c.requires.2 c.requires.3 c.over-e.ensures) c.put_node.ensures
