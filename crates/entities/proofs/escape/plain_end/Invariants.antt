-- `plain_end` meets its contract. The loop's invariant: the run from `pos` ends where the run from `i` does.
use Prim.Native.Nat.{◌≤◌}
use mathlib.Core.Path.{◌≡◌}
use lib.ListN.{length}
use Rattle.scan.specs.Bytes.{run_end_of}
use Rattle.entities.specs.Escape.{plain}
use Rattle.entities.proofs.escape.plain_end.Given as goal

abbrev pub invariant-loop-i : goal.invariant-loop-i
invariant-loop-i l = (l.i ≤ length l.src) × (l.pos ≤ l.i) × (run_end_of (plain l.quotes) l.src l.pos ≡ run_end_of (plain l.quotes) l.src l.i)
