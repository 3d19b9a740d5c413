-- `pg_check_track` meets its contract: what `check_track` promises of its answer, and that answer told.
use Rattle.told.specs.Told.{check_told}
use Rattle.ttml.proofs.check.pg_check_track.Goals as goal

pub returns-in-Ok : goal.returns-in-Ok
unfolding check_told
returns-in-Ok c =
    record { answer = _; promised = c.check_track.ensures; is = rw c.in-Ok.is c.told.ensures }

pub returns-in-Err : goal.returns-in-Err
unfolding check_told
returns-in-Err c =
    record { answer = _; promised = c.check_track.ensures; is = rw c.in-Err.is c.told-in-Err.ensures }
