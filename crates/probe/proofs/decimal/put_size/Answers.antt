-- `put_size` meets its contract, by whether the spelling fits.
use native.Mathlib.Omega.{arith}
use Rattle.probe.proofs.Decimals.{size_scale}
use Rattle.probe.proofs.decimal.put_size.Goals as goal

pub spell-requires : goal.spell-requires
spell-requires c =
    (omega arith, size_scale _ _ c.size_of-size.ensures c.requires.2)
