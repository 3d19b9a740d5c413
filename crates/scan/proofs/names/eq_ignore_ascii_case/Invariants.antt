-- `eq_ignore_ascii_case` meets its contract. The loop's invariant: the two agree as their bytes from `i` on do. The measure is what is left of the
-- first.
use Prim.Native.Nat.{◌-◌, ◌≤◌}
use mathlib.Core.Path.{◌≡◌}
use lib.ListN.{length, drop}
use Rattle.scan.specs.Names.{lower}
use Rattle.scan.proofs.Naming.{agree}
use Rattle.scan.proofs.names.eq_ignore_ascii_case.Given as goal

abbrev pub invariant-loop-i : goal.invariant-loop-i
invariant-loop-i l = agree lower l.a l.b ≡ agree lower (drop l.i l.a) (drop l.i l.b)
