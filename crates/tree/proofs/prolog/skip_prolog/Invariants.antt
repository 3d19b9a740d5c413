-- `skip_prolog` meets its contract. The loop's invariant: the pieces from the position on end where those from `i` on do. The measure is what is
-- left of the text. Assumes nothing.
use Prim.Native.Nat.{◌-◌, ◌≤◌}
use mathlib.Core.Path.{◌≡◌}
use lib.ListN.{length}
use Rattle.tree.specs.Read.{prolog_from}
use Rattle.tree.proofs.prolog.skip_prolog.Given as goal

abbrev pub invariant-loop-i : goal.invariant-loop-i
invariant-loop-i l = (l.i ≤ length l.src) × (prolog_from l.src l.pos ≡ prolog_from l.src l.i)

abbrev pub decreases-loop-i : goal.decreases-loop-i
decreases-loop-i l = length l.src - l.i
