-- `marked_size` meets its contract.
use Rattle.track.specs.Tables.{marked_size}
use Rattle.track.proofs.marks.marked_size.Goals as goal

pub returns : goal.returns
unfolding marked_size
returns c =
    rw (c.size_at.ensures, c.spelled_value-value.ensures)
