-- `put_colors` meets its contract: the two colours, each with its flag.
use Rattle.told.proofs.cells.put_colors.Goals as goal

pub returns : goal.returns
returns c =
    rw (c.put_color-2.ensures, c.put_color.ensures, c.flag.ensures, c.flag-2.ensures)
