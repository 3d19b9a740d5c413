use Prim.Native.Nat.{ℕ}
use Rattle.document.specs.Roots.{imsc_row, flagged}
use Rattle.document.proofs.SomeRows.{Searching}
use Rattle.document.proofs.params.any_param.Given as goal

abbrev pub invariant-loop-i : goal.invariant-loop-i
invariant-loop-i l = Searching (λ (j : ℕ). flagged l.flag (imsc_row l.params l.strings j)) 0 l.n l.i
