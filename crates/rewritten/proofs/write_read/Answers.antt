-- `write_read` meets its contract: the text met a number, or its track is written.
use mathlib.Core.Path.{refl}
use Rattle.rewritten.proofs.write_read.Goals as goal

pub returns-in-Err : goal.returns-in-Err
returns-in-Err c =
    rw c.in-Err.is (refl, c.clear_bytes.ensures)

pub returns-in-Ok : goal.returns-in-Ok
returns-in-Ok c =
    rw c.in-Ok.is c.write.ensures
