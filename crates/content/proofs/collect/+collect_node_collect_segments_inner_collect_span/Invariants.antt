-- The three readers of nodes meet their contracts. The measure is three times how many rows are read, and which of them reads. The loop over
-- siblings is `Along`. Assumes nothing.
use Prim.Native.Nat.{◌+◌, ◌-◌, ◌*◌}
use lib.ListN.{get_or}
use Rattle.content.proofs.Reading.{Along}
use Rattle.content.proofs.collect.+collect_node_collect_segments_inner_collect_span.Given as goal

abbrev pub decreases-collect_node : goal.decreases-collect_node
decreases-collect_node l = 3 * (get_or l.tree.now.nodes.now (l.k * 6 + 1) 0 - l.k) + 1

abbrev pub decreases-collect_segments_inner : goal.decreases-collect_segments_inner
decreases-collect_segments_inner l = 3 * (l.end - l.from) + 2

abbrev pub decreases-collect_span : goal.decreases-collect_span
decreases-collect_span l = 3 * (get_or l.tree.now.nodes.now (l.k * 6 + 1) 0 - l.k)

abbrev pub invariant-collect_segments_inner-loop-k : goal.invariant-collect_segments_inner-loop-k
invariant-collect_segments_inner-loop-k l = Along l.tree.nodes.now l.tree.attrs.now l.tree.strings.now l.from l.end l.initial.s l.base l.ctx l.ws l.initial.segments l.initial.texts l.k l.s l.segments l.texts

abbrev pub decreases-collect_segments_inner-loop-k : goal.decreases-collect_segments_inner-loop-k
decreases-collect_segments_inner-loop-k l = l.end - l.k
