-- `probe_decimal_f64` meets its contract: a decimal is within the limits that it was read by.
use mathlib.Core.Path.{sym, ◌∙◌}
use Rattle.decimals.proofs.Reading.{decimal-limits}
use Rattle.probe.proofs.decimal.probe_decimal_f64.Goals as goal

pub to_f64-requires : goal.to_f64-requires
to_f64-requires c =
    let w = decimal-limits 15 22 _ (sym c.read_decimal.ensures.is ∙ c.in-Ok.is) in (w.small, w.near)
