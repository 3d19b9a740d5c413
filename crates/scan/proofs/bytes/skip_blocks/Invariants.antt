-- `skip_blocks` meets its contract. The loop's invariant: the run from `pos` ends where the run from `i` does. The measure is what is left of the
-- text.
use Prim.Native.Nat.{◌-◌}
use lib.ListN.{length}
use Rattle.scan.specs.Bytes.{other}
use Rattle.scan.specs.Posts.{Skips}
use Rattle.scan.proofs.bytes.skip_blocks.Given as goal

abbrev pub invariant-loop-i : goal.invariant-loop-i
invariant-loop-i l = Skips (other l.b) l.src l.pos l.i

abbrev pub decreases-loop-i : goal.decreases-loop-i
decreases-loop-i l = length l.src - l.i
