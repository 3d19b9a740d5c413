-- `with_row` meets its contract: the other half stays. Assumes nothing.
use native.Mathlib.Omega.{arith}
use Rattle.styles.proofs.Search.{second_half, first-half, second_fits, first_fits}
use Rattle.styles.proofs.ids.with_row.Goals as goal

pub overflow_add-result : goal.overflow_add-result
overflow_add-result c =
    omega (arith, second_fits _ _ c.requires.0 (rw c.if-second.true at c.requires.1))

pub returns-then-second : goal.returns-then-second
returns-then-second c =
    rw c.if-second.true (second_half _ _ (rw c.if-second.true at c.requires.1))

pub overflow_add-result-2 : goal.overflow_add-result-2
overflow_add-result-2 c =
    omega (arith, first_fits _ _ (omega arith) c.requires.0 (rw c.if-second.false at c.requires.1))

pub returns : goal.returns
returns c =
    rw c.if-second.false (first-half _ _ c.requires.0 (rw c.if-second.false at c.requires.1))
