-- `same` meets its contract. The loop's invariant: the two agree as their bytes from `i` on do.
use Prim.Native.Nat.{◌-◌, ◌≤◌}
use mathlib.Core.Path.{◌≡◌}
use lib.ListN.{length, drop}
use Rattle.scan.proofs.Naming.{agree, itself}
use Rattle.scan.proofs.names.same.Given as goal

abbrev pub invariant-loop-i : goal.invariant-loop-i
invariant-loop-i l = agree itself l.a l.b ≡ agree itself (drop l.i l.a) (drop l.i l.b)
