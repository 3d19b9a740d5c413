-- `blank` meets its contract. Assumes nothing.
use lib.Ieee.{of_bits}
use mathlib.Core.Path.{refl}
use Rattle.styles.specs.Cells.{blank_look}
use Rattle.styles.proofs.values.blank.Goals as goal

pub returns : goal.returns
unfolding blank_look of_bits
returns c =
    refl
