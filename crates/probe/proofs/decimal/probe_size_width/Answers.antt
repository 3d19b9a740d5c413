-- `probe_size_width` meets its contract: a decimal is within the limits that it was read by.
use mathlib.Core.Path.{sym, ◌∙◌}
use native.Mathlib.Omega.{arith}
use Rattle.decimals.proofs.Reading.{decimal-limits}
use Rattle.probe.proofs.Decimals.{size_scale}
use Rattle.probe.proofs.decimal.probe_size_width.Goals as goal

pub size_of-requires : goal.size_of-requires
size_of-requires c =
    let w = decimal-limits 6 10 _ (sym c.read_decimal.ensures.is ∙ c.in-Ok.is) in
    (w.small, w.near)

pub spell-requires : goal.spell-requires
spell-requires c =
    let w = decimal-limits 6 10 _ (sym c.read_decimal.ensures.is ∙ c.in-Ok.is) in
    (omega arith, size_scale _ _ c.size_of.ensures w.near)
