-- `is_short` meets its contract. Assumes nothing.
use Rattle.queries.proofs.check.is_short.Goals as goal

pub returns-in-Err : goal.returns-in-Err
returns-in-Err c =
    rw c.in-Err.is
