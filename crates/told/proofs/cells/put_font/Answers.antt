-- `put_font` meets its contract: the family and the size, each with its flag.
use Rattle.told.proofs.cells.put_font.Goals as goal

pub returns : goal.returns
returns c =
    rw (c.put_size.ensures, c.put_family.ensures, c.flag.ensures, c.flag-2.ensures, c.flag-3.ensures)
