-- `skip_runs` meets its contract. The loop's invariant: the run from `pos` ends where the run from `i` does. The measure is what is left of the text.
use Prim.Native.Nat.{◌-◌}
use lib.ListN.{length}
use Rattle.scan.specs.Bytes.{member}
use Rattle.scan.specs.Posts.{Skips}
use Rattle.scan.proofs.bytes.skip_runs.Given as goal

abbrev pub invariant-loop-i : goal.invariant-loop-i
invariant-loop-i l = Skips (member l.class) l.src l.pos l.i

abbrev pub decreases-loop-i : goal.decreases-loop-i
decreases-loop-i l = length l.src - l.i
