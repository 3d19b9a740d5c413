-- `white_end` answers where the white space from the place on ends. The loop's invariant: it ends where that from `i` on does.
use Prim.Native.Nat.{◌-◌, ◌≤◌}
use mathlib.Core.Path.{◌≡◌}
use lib.ListN.{length}
use Rattle.utf8.specs.Steps.{white_end}
use Rattle.utf8.proofs.white.white_end.Given as goal

abbrev pub invariant-loop-i : goal.invariant-loop-i
invariant-loop-i l = (l.pos ≤ l.i) × (l.i ≤ length l.src) × (white_end l.src l.pos ≡ white_end l.src l.i)

abbrev pub decreases-loop-i : goal.decreases-loop-i
decreases-loop-i l = length l.src - l.i
