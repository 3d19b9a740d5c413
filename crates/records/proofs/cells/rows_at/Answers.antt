-- `rows_at` meets its contract: two cells. Assumes nothing.
use Rattle.records.proofs.cells.rows_at.Goals as goal

pub returns : goal.returns
returns c =
    rw (c.get.ensures, c.get-2.ensures)
