-- `white_before` answers the width of the white-space character that ends at the place: from the byte before it where that is visible ASCII or the
-- space; elsewhere the widths below `k` are tried.
use Prim.Native.Nat.{◌-◌}
use mathlib.Core.Path.{◌≡◌}
use Rattle.utf8.specs.Steps.{ends_with, white_before}
use Rattle.utf8.proofs.white.white_before.Given as goal

abbrev pub invariant-loop-k : goal.invariant-loop-k
invariant-loop-k l = white_before l.src l.end ≡ ends_with l.src l.end l.k (5 - l.k)
