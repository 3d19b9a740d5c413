-- `clear_links` meets its contract. The loop's invariant is `Unlinked` of the rows before `i`. Assumes nothing.
use Rattle.styles.specs.Ids.{Unlinked}
use Rattle.styles.proofs.ids.clear_links.Given as goal

abbrev pub invariant-loop-i : goal.invariant-loop-i
invariant-loop-i l = Unlinked l.initial.ids l.ids l.i
