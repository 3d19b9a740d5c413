-- The four readers of timed elements meet their contracts. The measure is four times how many rows are read, and which of them reads. The loop
-- over siblings is `Walked`. Assumes nothing.
use Prim.Native.Nat.{◌+◌, ◌-◌, ◌*◌}
use lib.ListN.{get_or}
use Rattle.cues.specs.Steps.{five}
use Rattle.cues.proofs.Walking.{Walked}
use Rattle.cues.proofs.collect.+collect_container_collect_cues_collect_div_collect_element.Given as goal

abbrev pub decreases-collect_container : goal.decreases-collect_container
decreases-collect_container l = 4 * (get_or l.tree.now.nodes.now (l.k * 6 + 1) 0 - l.k)

abbrev pub decreases-collect_cues : goal.decreases-collect_cues
decreases-collect_cues l = 4 * (l.end - l.from) + 3

abbrev pub decreases-collect_div : goal.decreases-collect_div
decreases-collect_div l = 4 * (get_or l.tree.now.nodes.now (l.k * 6 + 1) 0 - l.k) + 1

abbrev pub decreases-collect_element : goal.decreases-collect_element
decreases-collect_element l = 4 * (get_or l.tree.now.nodes.now (l.k * 6 + 1) 0 - l.k) + 2

abbrev pub invariant-collect_cues-loop-k : goal.invariant-collect_cues-loop-k
invariant-collect_cues-loop-k l = Walked l.tree.nodes.now l.tree.attrs.now l.tree.strings.now l.from l.end l.seq l.begin l.ctx l.ws l.initial.s (five l.initial.cues l.initial.times l.initial.segments l.initial.extras l.initial.texts) l.k l.s
    l.latest l.reference (five l.cues l.times l.segments l.extras l.texts)

abbrev pub decreases-collect_cues-loop-k : goal.decreases-collect_cues-loop-k
decreases-collect_cues-loop-k l = l.end - l.k
