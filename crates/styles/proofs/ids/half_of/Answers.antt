-- `half_of` meets its contract. Assumes nothing.
use Rattle.styles.specs.Ids.{half}
use Rattle.styles.proofs.ids.half_of.Goals as goal

pub returns-then-second : goal.returns-then-second
unfolding half
returns-then-second c =
    rw c.if-second.true

pub returns : goal.returns
unfolding half
returns c =
    rw c.if-second.false
