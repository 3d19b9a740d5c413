-- `tell` meets its contract, by the cases of an answer.
use Rattle.told.specs.Told.{written_told}
use Rattle.ttml.proofs.write.tell.Goals as goal

pub returns-in-Ok : goal.returns-in-Ok
unfolding written_told
returns-in-Ok c =
    rw c.in-Ok.is c.told.ensures

pub returns-in-Err : goal.returns-in-Err
unfolding written_told
returns-in-Err c =
    rw c.in-Err.is c.told-in-Err.ensures
