-- `size_value` meets its contract. Assumes nothing.
use lib.Ieee.{of_bits}
use Rattle.records.proofs.styles.size_value.Goals as goal

pub returns-then-x : goal.returns-then-x
returns-then-x c =
    rw c.if-x.true

pub returns-else-x : goal.returns-else-x
unfolding of_bits
returns-else-x c =
    rw c.if-x.false
