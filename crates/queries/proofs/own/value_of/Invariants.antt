-- `value_of` meets its contract. Assumes nothing.
use Prim.Native.Nat.{◌-◌}
use mathlib.Core.Path.{◌≡◌}
use Rattle.queries.specs.Steps.{value_at}
use Rattle.queries.proofs.own.value_of.Given as goal

abbrev pub invariant-loop-i : goal.invariant-loop-i
invariant-loop-i l = value_at l.kept.extras.now l.number l.kept.many l.kept.first ≡ value_at l.kept.extras.now l.number (l.i-end - l.i) l.i
