-- `find_seq` meets its contract. The loop's invariant: the mark's first place from `pos` on is its first from `i` on. The measure is what is left of
-- the text.
use Prim.Native.Nat.{◌+◌, ◌-◌, ◌≤◌}
use mathlib.Core.Path.{◌≡◌}
use lib.ListN.{length}
use Rattle.scan.specs.Marks.{seek}
use Rattle.scan.proofs.marks.find_seq.Given as goal

abbrev pub invariant-loop-i : goal.invariant-loop-i
invariant-loop-i l = (l.i ≤ length l.src) × (l.pos ≤ l.i) × (l.n + 1 ≡ length l.mark) × (seek l.mark l.src l.pos ≡ seek l.mark l.src l.i)

abbrev pub decreases-loop-i : goal.decreases-loop-i
decreases-loop-i l = length l.src - l.i
