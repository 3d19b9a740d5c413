-- `blank_part` meets its contract. Assumes nothing.
use Rattle.queries.specs.Steps.{blank_part}
use Rattle.queries.proofs.region.blank_part.Goals as goal

pub returns : goal.returns
unfolding blank_part
returns c =
    rw c.blank.ensures
