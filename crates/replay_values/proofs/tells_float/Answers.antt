-- `tells_float` is safe: a decimal is within the limits that it was read by, and its float is no NaN.
use mathlib.Core.Path.{sym, ap, ◌∙◌}
use lib.Ieee.{binary64, is_nan}
use Rattle.decimals.proofs.Reading.{decimal-limits}
use Rattle.decimals.proofs.Sizes.{round_finite}
use Rattle.replay_values.proofs.tells_float.Goals as goal

pub to_f64-requires : goal.to_f64-requires
to_f64-requires c =
    let w = decimal-limits 15 22 _ (sym c.read_decimal.ensures.is ∙ c.in-Ok.is) in
    (w.small, w.near)

pub float_to_bits-to_f64 : goal.float_to_bits-to_f64
float_to_bits-to_f64 c =
    rw (ap is_nan c.to_f64.ensures ∙ round_finite binary64 _ _ _) tt
