-- `over_near` meets its contract. The loop's invariant: the run from `pos` ends where the run from `i` does. The measure is what is left before
-- `end`.
use Prim.Native.Nat.{◌-◌}
use Rattle.scan.specs.Bytes.{member}
use Rattle.scan.specs.Posts.{Skips}
use Rattle.scan.proofs.bytes.over_near.Given as goal

abbrev pub invariant-loop-i : goal.invariant-loop-i
invariant-loop-i l = Skips (member l.class) l.src l.pos l.i

abbrev pub decreases-loop-i : goal.decreases-loop-i
decreases-loop-i l = l.end - l.i
