-- The microseconds of a fraction: its bytes stand before zeros.
use Prim.Native.Nat.{ℕ}
use mathlib.Core.Path.{sym, ap, ◌∙◌}
use mathlib.Core.List.{List, ◌++◌}
use native.Mathlib.Omega.{arith}
use lib.ListN.{drop, replicate}
use Rattle.times.proofs.Fractions.{some_micros, no_micros}
use Rattle.times.proofs.clock.micros.Goals as goal

pub returns-in-Some : goal.returns-in-Some
returns-in-Some c =
    let laid = ap (λ (l : List ℕ). l ++ drop c.args.len (replicate 6 48)) c.copy_from_slice.ensures.after in
    c.times.ensures ∙ some_micros c.args.text.now _ c.args.len (omega arith) (omega arith) laid _ (sym c.integer.ensures ∙ c.in-Some.is)

pub returns-in-None : goal.returns-in-None
returns-in-None c =
    let laid = ap (λ (l : List ℕ). l ++ drop c.args.len (replicate 6 48)) c.copy_from_slice.ensures.after in
    no_micros c.args.text.now _ c.args.len (omega arith) (omega arith) laid (sym c.integer.ensures ∙ c.in-None.is)
