-- `escape` meets its contract. The loop's invariant: what is written for the text up to `from` stands from `at` on, up to `to`. The measure is what
-- is left of the text.
use Prim.Native.Nat.{◌-◌}
use lib.ListN.{length}
use Rattle.entities.proofs.Escapes.{Escaping}
use Rattle.entities.proofs.escape.escape.Given as goal

abbrev pub invariant-loop-out : goal.invariant-loop-out
invariant-loop-out l = Escaping l.quotes l.src l.at l.initial.out l.from l.to l.out

abbrev pub decreases-loop-out : goal.decreases-loop-out
decreases-loop-out l = length l.src - l.from
