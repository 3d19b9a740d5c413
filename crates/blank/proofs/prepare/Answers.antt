-- `prepare` meets its contract: clearing keeps the lengths. Assumes nothing.
use mathlib.Core.Path.{refl}
use Rattle.blank.proofs.Clearing.{tells_long}
use Rattle.blank.proofs.prepare.Goals as goal

pub returns : goal.returns
returns c =
    record { zero = c.clear_track.ensures; long = tells_long c.long_enough.result c.clear_track.ensures refl c.long_enough.ensures }
