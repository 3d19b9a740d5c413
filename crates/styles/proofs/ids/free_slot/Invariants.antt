-- `free_slot` meets its contract. The loop's invariant is `Falling`; a row at a depth is past as many rows. Assumes nothing.
use Prim.Native.Nat.{◌-◌}
use Rattle.styles.proofs.Search.{Falling}
use Rattle.styles.proofs.ids.free_slot.Given as goal

abbrev pub invariant-loop-next : goal.invariant-loop-next
invariant-loop-next l = Falling l.ids l.heads l.name l.n l.depth l.next l.slot.row l.slot.second

abbrev pub decreases-loop-next : goal.decreases-loop-next
decreases-loop-next l = l.n - l.depth
