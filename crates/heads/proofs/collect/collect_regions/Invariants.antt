-- `collect_regions` meets its contract. The loop's invariant is `RegionsAlong`; the measure is what is left of the rows.
use Prim.Native.Nat.{◌-◌}
use Rattle.heads.proofs.Looping.{RegionsAlong}
use Rattle.heads.proofs.collect.collect_regions.Given as goal

abbrev pub invariant-loop-k : goal.invariant-loop-k
invariant-loop-k l =
    let t = l.tree in
    RegionsAlong t.nodes.now t.attrs.now t.strings.now l.from l.end l.rows l.initial.regions l.initial.extras l.k l.n l.at l.regions l.extras

abbrev pub decreases-loop-k : goal.decreases-loop-k
decreases-loop-k l = l.end - l.k
