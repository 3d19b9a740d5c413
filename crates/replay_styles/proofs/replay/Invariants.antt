-- `replay` is safe and ends. The loop's invariant: no more lines are counted than bytes are passed. The measure is what is left of the list.
use Prim.Native.Nat.{◌+◌, ◌-◌, ◌≤◌}
use lib.ListN.{length}
use Rattle.replay_styles.proofs.replay.Given as goal

abbrev pub invariant-loop-pos : goal.invariant-loop-pos
invariant-loop-pos l = (l.pos ≤ length l.list + 1) × (l.tally.agree + l.tally.differ ≤ l.pos)

abbrev pub decreases-loop-pos : goal.decreases-loop-pos
decreases-loop-pos l = length l.list + 1 - l.pos
