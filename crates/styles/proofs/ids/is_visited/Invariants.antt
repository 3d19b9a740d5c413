-- `is_visited` meets its contract. The loop's invariant is `Searching`; a row at a depth is past as many rows. Assumes nothing.
use Prim.Native.Nat.{◌-◌}
use Rattle.styles.proofs.Search.{Searching}
use Rattle.styles.proofs.ids.is_visited.Given as goal

abbrev pub invariant-loop-next : goal.invariant-loop-next
invariant-loop-next l = Searching l.text l.strings l.ids l.heads l.name l.depth l.next

abbrev pub decreases-loop-next : goal.decreases-loop-next
decreases-loop-next l = l.n - l.depth
