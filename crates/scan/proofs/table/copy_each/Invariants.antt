-- `copy_each` meets its contract. The loop's invariant: the first `i` bytes of the piece stand from `at` on, and all else is as it was.
use Rattle.scan.proofs.Stores.{Copied}
use Rattle.scan.proofs.table.copy_each.Given as goal

abbrev pub invariant-loop-i : goal.invariant-loop-i
invariant-loop-i l = Copied l.piece l.at l.initial.out l.i l.out
