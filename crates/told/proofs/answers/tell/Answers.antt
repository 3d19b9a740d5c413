-- `tell` meets its contract, by the cases of an answer.
use Rattle.told.proofs.Queries.{tell_refused}
use Rattle.told.proofs.answers.tell.Goals as goal

pub returns-in-Err : goal.returns-in-Err
returns-in-Err c =
    tell_refused _ _ _ c.in-Err.is c.blank-blank.ensures c.put_answer.ensures

pub returns-in-Ok : goal.returns-in-Ok
returns-in-Ok c = rw c.in-Ok.is c.tell_found.ensures
