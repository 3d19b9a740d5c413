-- `align_cell` meets its contract. Assumes nothing.
use Rattle.track.specs.Layout.{align_cell}
use Rattle.records.proofs.styles.align_cell.Goals as goal

pub returns-in-Start : goal.returns-in-Start
unfolding align_cell
returns-in-Start c =
    rw c.in-Start.is

pub returns-in-Center : goal.returns-in-Center
unfolding align_cell
returns-in-Center c =
    rw c.in-Center.is

pub returns-in-End : goal.returns-in-End
unfolding align_cell
returns-in-End c =
    rw c.in-End.is

pub returns-in-Left : goal.returns-in-Left
unfolding align_cell
returns-in-Left c =
    rw c.in-Left.is

pub returns-in-Right : goal.returns-in-Right
unfolding align_cell
returns-in-Right c =
    rw c.in-Right.is
