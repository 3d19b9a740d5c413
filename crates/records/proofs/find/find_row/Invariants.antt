-- `find_row` meets its contract. The loop's invariant: the answer is that of the rows from `i` on. Assumes nothing.
use Prim.Native.Nat.{◌-◌}
use mathlib.Core.Path.{◌≡◌}
use Rattle.records.specs.Find.{first_row}
use Rattle.records.proofs.Finding.{first_of, named}
use Rattle.records.proofs.find.find_row.Given as goal

abbrev pub invariant-loop-i : goal.invariant-loop-i
invariant-loop-i l = first_row l.cells l.strings l.name l.width l.n 0 ≡ first_of (named l.cells l.strings l.name l.width) (l.n - l.i) l.i
