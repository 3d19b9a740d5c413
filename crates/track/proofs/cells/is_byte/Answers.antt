-- `is_byte` meets its contract.
use mathlib.Core.Path.{refl}
use Rattle.track.specs.Meaning.{is_byte}
use Rattle.track.proofs.cells.is_byte.Goals as goal

pub returns : goal.returns
unfolding is_byte
returns c =
    refl
