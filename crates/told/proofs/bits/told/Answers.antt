-- `told` meets its contract: the sum fits, since the number and what stands above it have 32 bits each.
use mathlib.Core.Path.{refl}
use Rattle.told.specs.Told.{told}
use Rattle.told.proofs.bits.told.Goals as goal

pub returns : goal.returns
unfolding told
returns c =
    refl
