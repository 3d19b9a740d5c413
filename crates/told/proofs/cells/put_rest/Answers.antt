-- `put_rest` meets its contract: four flags and the alignment.
use Rattle.told.proofs.cells.put_rest.Goals as goal

pub returns : goal.returns
returns c =
    rw (c.put_flags.ensures, c.flag-bold.ensures, c.flag-italic.ensures, c.flag-underline.ensures)
    (rw (c.flag-strike.ensures, c.align.ensures))
