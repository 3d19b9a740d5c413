-- `shift_segments` meets its contract. The loop's invariant: the rows from `i` on are moved. The measure is `i`. Assumes nothing.
use Prim.Native.Nat.{◌≤◌}
use mathlib.Core.Path.{◌≡◌}
use lib.ListN.{length}
use Rattle.records.proofs.RowMoves.{RowsMoved}
use Rattle.records.proofs.segments.shift_segments.Given as goal

abbrev pub invariant-loop-i : goal.invariant-loop-i
invariant-loop-i l = (l.at ≤ l.i) × (length l.segments ≡ length l.initial.segments) × RowsMoved l.initial.segments l.end l.by l.i l.segments

abbrev pub decreases-loop-i : goal.decreases-loop-i
decreases-loop-i l = l.i
