-- `element_at` meets its contract: five cells of a row.
use Rattle.xml.specs.Find.{element_row}
use Rattle.xml.proofs.find.element_at.Goals as goal

pub returns : goal.returns
unfolding element_row
returns c =
    rw (c.get.ensures, c.get-2.ensures, c.get-3.ensures, c.get-4.ensures, c.get-5.ensures)
