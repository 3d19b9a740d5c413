-- `utf8::largest` meets its contract. The loop's invariant: no byte passed is larger than `most`. Assumes nothing.
use Prim.Native.Nat.{◌+◌}
use Rattle.utf8.specs.Steps.{Bounded}
use Rattle.utf8.proofs.utf8.largest.Given as goal

abbrev pub invariant-loop-i : goal.invariant-loop-i
invariant-loop-i l = Bounded l.src l.pos (l.pos + l.i) l.most
