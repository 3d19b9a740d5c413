-- `white_start` answers where the white space at the text's end starts. The loop's invariant: it starts where that before `i` does.
use Prim.Native.Nat.{◌≤◌}
use mathlib.Core.Path.{◌≡◌}
use lib.ListN.{length}
use Rattle.utf8.specs.Steps.{white_back, white_start}
use Rattle.utf8.proofs.white.white_start.Given as goal

abbrev pub invariant-loop-i : goal.invariant-loop-i
invariant-loop-i l = (l.i ≤ length l.src) × (white_start l.src ≡ white_back l.src l.i 0)

abbrev pub decreases-loop-i : goal.decreases-loop-i
decreases-loop-i l = l.i
