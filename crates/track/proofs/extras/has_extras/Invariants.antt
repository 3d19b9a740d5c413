-- `has_extras` meets its contract. The loop's invariant: all are extras as those from row i on are.
use Prim.Native.Nat.{◌-◌}
use mathlib.Core.Path.{◌≡◌}
use Rattle.track.specs.Meaning.{are_extras, has_extras}
use Rattle.track.proofs.extras.has_extras.Given as goal

abbrev pub invariant-loop-i : goal.invariant-loop-i
invariant-loop-i l = has_extras l.extras l.strings l.most l.first l.n ≡ are_extras l.extras l.strings l.most l.least (l.i-end - l.i) l.i
