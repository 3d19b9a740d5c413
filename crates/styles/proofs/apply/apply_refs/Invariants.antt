-- `apply_refs` meets its contract. The loop's invariant is `Along` the words of the value. Assumes nothing.
use Rattle.styles.proofs.Along.{Along}
use Prim.Native.Nat.{◌-◌}
use lib.ListN.{length}
use Rattle.scan.specs.Part.{part}
use Rattle.track.specs.Tables.{span}
use Rattle.styles.specs.Places.{row}
use Rattle.styles.proofs.apply.apply_refs.Given as goal

abbrev pub invariant-loop-x : goal.invariant-loop-x
invariant-loop-x l = Along l.text l.named.styles.now l.named.sizes.now l.named.strings.now l.named.many (part l.from l.to l.own)
    l.initial.ids l.initial.s (row l.source (span l.from l.len)) l.p l.ids l.heads l.s

abbrev pub decreases-loop-x : goal.decreases-loop-x
decreases-loop-x l = length (part l.from l.to l.own) - l.p
