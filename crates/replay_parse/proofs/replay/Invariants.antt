-- `replay` is safe and ends. No more lines are counted than bytes are passed. The measure is what is left of the list.
use Prim.Native.Nat.{◌+◌, ◌-◌, ◌≤◌}
use mathlib.Core.Path.{◌≡◌}
use lib.ListN.{length}
use Rattle.replay_parse.proofs.replay.Given as goal

abbrev pub invariant-loop-pos : goal.invariant-loop-pos
invariant-loop-pos l = (l.pos ≤ length l.list + 1) × (l.tally.agree + l.tally.differ ≤ l.pos) × (l.laid ≤ length l.initial.text) × (length l.text ≡ length l.initial.text)

abbrev pub decreases-loop-pos : goal.decreases-loop-pos
decreases-loop-pos l = length l.list + 1 - l.pos
