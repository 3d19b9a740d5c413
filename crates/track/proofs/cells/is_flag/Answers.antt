-- `is_flag` meets its contract.
use mathlib.Core.Path.{refl}
use Rattle.track.specs.Meaning.{is_flag}
use Rattle.track.proofs.cells.is_flag.Goals as goal

pub returns : goal.returns
unfolding is_flag
returns c =
    refl
