-- `utf8::utf8_end` meets its contract: each turn keeps where the sequences end; that this is the longest valid beginning is a law. Assumes nothing.
use Prim.Native.Nat.{◌-◌, ◌≤◌}
use mathlib.Core.Path.{◌≡◌}
use lib.ListN.{length}
use Rattle.utf8.specs.Utf8.{utf8_end}
use Rattle.utf8.proofs.Utf8Laws.{end_from}
use Rattle.utf8.proofs.utf8.utf8_end.Given as goal

abbrev pub invariant-loop-i : goal.invariant-loop-i
invariant-loop-i l = (l.i ≤ length l.src) × (utf8_end l.src ≡ end_from l.src l.i)

abbrev pub decreases-loop-i : goal.decreases-loop-i
decreases-loop-i l = length l.src - l.i
