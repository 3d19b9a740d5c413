-- `no_rates` meets its contract. Assumes nothing.
use mathlib.Core.Path.{refl}
use lib.Ieee.{of_int, of_bits}
use Rattle.single.proofs.no_rates.Goals as goal

pub returns : goal.returns
unfolding of_int of_bits
returns c =
    refl
