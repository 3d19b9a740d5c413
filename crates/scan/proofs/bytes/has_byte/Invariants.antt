-- `has_byte` meets its contract. The loop's invariant: where `has` is false, no byte passed is the one.
use Prim.Native.Nat.{◌+◌}
use mathlib.Core.Path.{◌≡◌}
use mathlib.Core.Bool.{false}
use Rattle.scan.specs.Bytes.{other}
use Rattle.scan.specs.Posts.{Passes}
use Rattle.scan.proofs.bytes.has_byte.Given as goal

abbrev pub invariant-loop-i : goal.invariant-loop-i
invariant-loop-i l = l.has ≡ false → Passes (other l.b) l.src l.pos (l.pos + l.i)
