-- `comment_end` meets its contract. The loop's invariant: the search for `-->` from `pos` goes on at `i`. The measure is what is left of the text.
use Prim.Native.Nat.{◌+◌, ◌-◌, ◌≤◌}
use mathlib.Core.Path.{◌≡◌}
use lib.ListN.{length}
use Rattle.scan.specs.Marks.{seek}
use Rattle.tree.specs.Read.{comment_end}
use Rattle.tree.proofs.nodes.comment_end.Given as goal

abbrev pub invariant-loop-i : goal.invariant-loop-i
invariant-loop-i l = (l.pos + 2 ≤ l.i) × (l.i ≤ length l.src) × (seek comment_end l.src l.pos ≡ seek comment_end l.src l.i)

abbrev pub decreases-loop-i : goal.decreases-loop-i
decreases-loop-i l = length l.src - l.i
