-- `attr_at` meets its contract: three cells of a row.
use Rattle.xml.specs.Find.{attribute_row}
use Rattle.xml.proofs.find.attr_at.Goals as goal

pub returns : goal.returns
unfolding attribute_row
returns c =
    rw (c.get.ensures, c.get-2.ensures, c.get-3.ensures)
