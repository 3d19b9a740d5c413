-- `skip_comments` meets its contract. The loop's invariant: the comments from `pos` on end where those from `i` on end. The measure is what is left
-- of the text. Assumes nothing.
use Prim.Native.Nat.{◌-◌, ◌≤◌}
use mathlib.Core.Path.{◌≡◌}
use lib.ListN.{length}
use Rattle.tree.specs.Read.{past_comments}
use Rattle.tree.proofs.nodes.skip_comments.Given as goal

abbrev pub invariant-loop-i : goal.invariant-loop-i
invariant-loop-i l = (l.i ≤ length l.src) × (l.pos ≤ l.i) × (past_comments l.src l.pos ≡ past_comments l.src l.i)

abbrev pub decreases-loop-i : goal.decreases-loop-i
decreases-loop-i l = length l.src - l.i
