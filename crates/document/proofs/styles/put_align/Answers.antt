-- `put_align` meets its contract.
use Rattle.writer.proofs.Chaining.{writes_none}
use Rattle.document.proofs.styles.put_align.Goals as goal

pub returns-in-Start : goal.returns-in-Start
returns-in-Start c =
    rw c.in-Start.is (writes_none _)

pub returns-in-Center : goal.returns-in-Center
returns-in-Center c =
    rw c.in-Center.is c.put.ensures

pub returns-in-End : goal.returns-in-End
returns-in-End c =
    rw c.in-End.is c.put-in-End.ensures

pub returns-in-Left : goal.returns-in-Left
returns-in-Left c =
    rw c.in-Left.is c.put-in-Left.ensures

pub returns-in-Right : goal.returns-in-Right
returns-in-Right c =
    rw c.in-Right.is c.put-in-Right.ensures
