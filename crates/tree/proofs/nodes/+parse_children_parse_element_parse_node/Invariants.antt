-- The measure is three times what is left of the text, and 1 more for a node, 2 more for content. The invariant of the loop over content is `Going`.
use Rattle.std.proofs.Common.{length, ◌-◌, ◌+◌, ◌*◌}
use Rattle.tree.specs.Read.{inner_turn, element_of}
use Rattle.tree.proofs.Going.{Going}
use Rattle.tree.proofs.nodes.+parse_children_parse_element_parse_node.Given as goal

abbrev pub decreases-parse_children : goal.decreases-parse_children
decreases-parse_children l = 3 * (length l.src.now - l.from) + 2

abbrev pub decreases-parse_element : goal.decreases-parse_element
decreases-parse_element l = 3 * (length l.src.now - l.pos)

abbrev pub decreases-parse_node : goal.decreases-parse_node
decreases-parse_node l = 3 * (length l.src.now - l.pos) + 1

abbrev pub invariant-parse_children-loop-pos : goal.invariant-parse_children-loop-pos
invariant-parse_children-loop-pos l =
    Going l.src (inner_turn l.src (element_of l.room l.src)) l.initial.nodes l.initial.attrs l.from l.k0 l.a0 l.nodes l.attrs l.pos l.k l.a

abbrev pub decreases-parse_children-loop-pos : goal.decreases-parse_children-loop-pos
decreases-parse_children-loop-pos l = length l.src - l.pos
