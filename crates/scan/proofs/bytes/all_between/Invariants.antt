-- `all_between` meets its contract. The loop's invariant: where `all` is true, each byte passed is between the two.
use Prim.Native.Nat.{◌+◌}
use mathlib.Core.Path.{◌≡◌}
use mathlib.Core.Bool.{true, ◌&&◌}
use lib.Dec.{leb}
use Rattle.scan.specs.Posts.{Passes}
use Rattle.scan.proofs.bytes.all_between.Given as goal

abbrev pub invariant-loop-k : goal.invariant-loop-k
invariant-loop-k l = l.all ≡ true → Passes (λ b. leb l.low b && leb b l.high) l.src l.pos (l.pos + l.k)
