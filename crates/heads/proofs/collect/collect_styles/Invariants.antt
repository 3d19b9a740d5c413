-- `collect_styles` meets its contract. The loop's invariant is `StylesAlong`; the measure is what is left of the rows.
use Prim.Native.Nat.{◌-◌}
use Rattle.heads.proofs.Looping.{StylesAlong}
use Rattle.heads.proofs.collect.collect_styles.Given as goal

abbrev pub invariant-loop-k : goal.invariant-loop-k
invariant-loop-k l =
    let t = l.tree in
    StylesAlong t.nodes.now t.attrs.now t.strings.now l.from l.end l.initial.styles l.initial.sizes l.initial.extras l.k l.n l.at l.styles l.sizes
    l.extras

abbrev pub decreases-loop-k : goal.decreases-loop-k
decreases-loop-k l = l.end - l.k
