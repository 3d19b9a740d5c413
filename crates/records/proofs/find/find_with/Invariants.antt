-- `find_with` meets its contract. The loop's invariant: the answer is that of the rows from `i` on. Assumes
-- nothing.
use Prim.Native.Nat.{◌-◌}
use mathlib.Core.Path.{◌≡◌}
use Rattle.records.specs.Find.{first_with}
use Rattle.records.proofs.Finding.{first_of, named_with}
use Rattle.records.proofs.find.find_with.Given as goal

abbrev pub invariant-loop-i : goal.invariant-loop-i
invariant-loop-i l = first_with l.cells l.strings l.name l.width l.needed l.n 0 ≡ first_of (named_with l.cells l.strings l.name l.width l.needed) (l.n - l.i) l.i
